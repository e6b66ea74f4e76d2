-- SPECIFICATION, "Check and mend": the mend. What it leaves of any memory, for a state that is sound.
use Rattle.std.specs.Prelude.{ℕ, zero, suc, Bool, true, false, ◌&&◌, not, cond, List, [], ◌∷◌, ◌++◌, length, get_or, set, leb, eqb, Result, Ok, Err}
use Rattle.std.proofs.Math.Option.{Option, none, some}
use Rattle.cursor.specs.Member.{among, keep}
use Rattle.model.specs.declared.State.{State}
use Rattle.model.specs.declared.Table.{Table}
use Rattle.model.specs.declared.Error.{Error}
use Rattle.model.specs.Memory.{link_of, key_of, set_link, set_entry, size_of, buckets_of, in_bucket, sum}
use Rattle.model.specs.Calls.{After, state_of, writing}
use Rattle.model.specs.Iterators.{first_from}

-- The entries met: through the old table's buckets upwards, then the new one's, each chain from its head until 0, a number out
-- of range, an entry met before, or a key out of its bucket. The links are those of the memory given.

-- one chain's, after those met before. The fuel is the capacity: an entry is met once, so it never runs out
unfoldable pub followed : (ℕ → Bool) → List ℕ → ℕ → ℕ → List ℕ → ℕ → List ℕ
followed test entries capacity zero before at = []
followed test entries capacity (suc fuel) before zero = []
followed test entries capacity (suc fuel) before (suc n) =
    cond (leb (suc n) capacity && not (among (suc n) before) && test (key_of entries (suc n)))
    (suc n ∷ followed test entries capacity fuel (suc n ∷ before) (link_of entries (suc n)))
    []

-- those of bucket b of a table of that size
unfoldable pub followed_in : List ℕ → ℕ → List ℕ → ℕ → List ℕ → ℕ → List ℕ
followed_in entries capacity buckets size before b =
    followed (in_bucket size b) entries capacity capacity before (get_or buckets b 0)

-- those met before and in the first so many buckets
unfoldable pub met_in : List ℕ → ℕ → List ℕ → ℕ → List ℕ → ℕ → List ℕ
met_in entries capacity buckets size before zero = before
met_in entries capacity buckets size before (suc b) =
    met_in entries capacity buckets size before b
    ++ followed_in entries capacity buckets size (met_in entries capacity buckets size before b) b

-- before each table
unfoldable pub met_before : State → List ℕ → List ℕ → Table → List ℕ
met_before s current entries Table.Old = []
met_before s current entries Table.New = met_in entries s.capacity current s.old_size [] s.old_size

-- in one bucket
unfoldable pub met_at : State → List ℕ → List ℕ → List ℕ → Table → ℕ → List ℕ
met_at s current other entries t b =
    followed_in entries s.capacity (buckets_of current other t) (size_of s t)
    (met_in entries s.capacity (buckets_of current other t) (size_of s t) (met_before s current entries t) b) b

-- in all of them
unfoldable pub met_all : State → List ℕ → List ℕ → List ℕ → List ℕ
met_all s current other entries =
    met_in entries s.capacity other s.new_size (met_before s current entries Table.New) s.new_size

-- The entries kept: for each key the first one met.

-- the first of these entries with the key, 0 where there is none
unfoldable pub first_met : List ℕ → ℕ → List ℕ → ℕ
first_met entries key [] = 0
first_met entries key (n ∷ ns) = cond (eqb (key_of entries n) key) n (first_met entries key ns)

unfoldable pub is_kept : State → List ℕ → List ℕ → List ℕ → ℕ → Bool
is_kept s current other entries n = eqb (first_met entries (key_of entries n) (met_all s current other entries)) n

unfoldable pub kept_at : State → List ℕ → List ℕ → List ℕ → Table → ℕ → List ℕ
kept_at s current other entries t b = keep (is_kept s current other entries) (met_at s current other entries t b)

-- n, n + 1, .., so many of them
unfoldable pub up_from : ℕ → ℕ → List ℕ
up_from n zero = []
up_from n (suc count) = n ∷ up_from (suc n) count

-- every other entry, upwards by number
unfoldable pub freed_list : State → List ℕ → List ℕ → List ℕ → List ℕ
freed_list s current other entries = keep (λ n. not (is_kept s current other entries n)) (up_from 1 s.capacity)

-- The memory: each kept entry stays in its bucket, in order, and every other one is freed with key and value zeroed.

unfoldable pub first_or0 : List ℕ → ℕ
first_or0 [] = 0
first_or0 (n ∷ ns) = n

unfoldable pub chained : List ℕ → List ℕ → List ℕ
chained entries [] = entries
chained entries (n ∷ ns) = chained (set_link entries n (first_or0 ns)) ns

unfoldable pub chained_all : (ℕ → List ℕ) → List ℕ → ℕ → List ℕ
chained_all kept entries zero = entries
chained_all kept entries (suc b) = chained (chained_all kept entries b) (kept b)

unfoldable pub headed : (ℕ → List ℕ) → List ℕ → ℕ → List ℕ
headed kept buckets zero = buckets
headed kept buckets (suc b) = set (headed kept buckets b) b (first_or0 (kept b))

unfoldable pub freed : List ℕ → List ℕ → List ℕ
freed entries [] = entries
freed entries (n ∷ ns) = set_entry (freed entries ns) n (first_or0 ns) 0 0

unfoldable pub repaired_buckets : State → List ℕ → List ℕ → List ℕ → Table → List ℕ
repaired_buckets s current other entries t = headed (kept_at s current other entries t) (buckets_of current other t) (size_of s t)

unfoldable pub repaired_entries : State → List ℕ → List ℕ → List ℕ → List ℕ
repaired_entries s current other entries =
    freed
    (chained_all (kept_at s current other entries Table.New)
    (chained_all (kept_at s current other entries Table.Old) entries s.old_size) s.new_size)
    (freed_list s current other entries)

-- The state: the counts set right, the first free entry, and the next bucket no further than the first filled old one.

unfoldable pub is_filled : List ℕ → Bool
is_filled [] = false
is_filled (n ∷ ns) = true

unfoldable pub or_else : ℕ → Option ℕ → ℕ
or_else index none = index
or_else index (some b) = b

unfoldable pub repaired_index : (ℕ → List ℕ) → ℕ → ℕ
repaired_index kept index = or_else index (first_from (λ b. is_filled (kept b)) 0 index)

unfoldable pub repaired_state : State → List ℕ → List ℕ → List ℕ → State
repaired_state s current other entries =
    state_of s.second_is_current (size_of s)
    (λ t. sum (λ b. length (kept_at s current other entries t b)) (size_of s t))
    s.rehashing (repaired_index (kept_at s current other entries Table.Old) s.rehash_index)
    (first_or0 (freed_list s current other entries)) s.capacity s.resize_allowed s.safe_iterators

unfoldable pub repaired : State → List ℕ → List ℕ → List ℕ → After (Result State Error)
repaired s current other entries =
    After.after (Ok (repaired_state s current other entries))
    (repaired_buckets s current other entries Table.Old) (repaired_buckets s current other entries Table.New)
    (repaired_entries s current other entries)

unfoldable pub repair : State → List ℕ → List ℕ → List ℕ → After (Result State Error)
repair s first second entries =
    writing s first second entries (Err Error.BadState)
    (λ current other. repaired s current other entries)
