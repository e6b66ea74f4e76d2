-- The passes of a repair as the code makes them, each a fold over memory, and what each asks.
use Rattle.std.specs.Prelude.{ℕ, zero, suc, ◌*◌, ◌≤◌, ◌<◌, ◌≡◌, Bool, true, false, ◌&&◌, not, cond, List, [], ◌∷◌, length, get_or, set, leb, eqb, Result, Ok, Err}
use Rattle.model.specs.declared.State.{State}
use Rattle.model.specs.declared.Table.{Table}
use Rattle.model.specs.Limits.{legal_size}
use Rattle.model.specs.Memory.{link_of, key_of, set_link, set_entry, in_bucket, size_of, listed, sum, last_or}
use Rattle.model.specs.Calls.{After, both, state_of, old_new}
use Rattle.model.specs.Iterators.{first_from}
use Rattle.memory.specs.Length.{bucket_chain}
use Rattle.search.specs.Found.{Found, found_of, found_is}
use Rattle.search.specs.Tables.{searched_in}
use Rattle.model.specs.Repair.{first_or0, or_else, repaired_state, repaired_buckets, repaired_entries}
use Rattle.model.specs.declared.Error.{Error}

-- marks

unfoldable pub mark_of : List ℕ → ℕ → ℕ
mark_of marks zero = 0
mark_of marks (suc n) = get_or marks n 0

unfoldable pub set_mark : List ℕ → ℕ → ℕ → List ℕ
set_mark marks zero mark = marks
set_mark marks (suc n) mark = set marks n mark

unfoldable pub mark_all : List ℕ → List ℕ → List ℕ
mark_all marks [] = marks
mark_all marks (n ∷ ns) = mark_all (set_mark marks n 1) ns

-- what a pass asks: the capacity, and the lengths of the entry buffer and of the marks; and for one table
pub record Marked (capacity entries marks : ℕ) : Type 0 where
  pub entries_fit : capacity * 3 ≤ entries
  pub marks_fit : capacity ≤ marks

pub record Lent (capacity size entries marks : ℕ) : Type 0 where
  pub legal : legal_size size ≡ true
  pub entries_fit : capacity * 3 ≤ entries
  pub marks_fit : capacity ≤ marks

pub record Tabled (capacity size buckets entries marks : ℕ) : Type 0 where
  pub legal : (b : ℕ) → b < size → legal_size size ≡ true
  pub buckets_fit : size ≤ buckets
  pub entries_fit : capacity * 3 ≤ entries
  pub marks_fit : capacity ≤ marks

-- cutting

unfoldable pub meets : List ℕ → ℕ → ℕ → ℕ → List ℕ → ℕ → Bool
meets entries capacity size b marks zero = false
meets entries capacity size b marks (suc n) =
    leb (suc n) capacity && eqb (mark_of marks (suc n)) 0 && in_bucket size b (key_of entries (suc n))

-- the entries met on a chain, by the marks
unfoldable pub met_by_marks : List ℕ → ℕ → ℕ → ℕ → ℕ → List ℕ → ℕ → List ℕ
met_by_marks entries capacity size b zero marks at = []
met_by_marks entries capacity size b (suc left) marks at =
    cond (meets entries capacity size b marks at)
    (at ∷ met_by_marks entries capacity size b left (set_mark marks at 1) (link_of entries at))
    []

unfoldable pub cut : List ℕ → List ℕ → List ℕ
cut entries [] = entries
cut entries (n ∷ ns) = set_link entries (last_or n ns) 0

-- the buckets of a table, the entries, the marks
pub data Work : Type 0 where
  work : List ℕ → List ℕ → List ℕ → Work

unfoldable pub buckets_in : Work → List ℕ
buckets_in (Work.work buckets entries marks) = buckets

unfoldable pub entries_in : Work → List ℕ
entries_in (Work.work buckets entries marks) = entries

unfoldable pub marks_in : Work → List ℕ
marks_in (Work.work buckets entries marks) = marks

unfoldable pub cut_one : ℕ → ℕ → ℕ → Work → Work
cut_one capacity size b (Work.work buckets entries marks) =
    let ns = met_by_marks entries capacity size b capacity marks (get_or buckets b 0) in
    Work.work (set buckets b (first_or0 ns)) (cut entries ns) (mark_all marks ns)

unfoldable pub cut_up_to : ℕ → ℕ → ℕ → Work → Work
cut_up_to capacity size zero w = w
cut_up_to capacity size (suc b) w = cut_one capacity size b (cut_up_to capacity size b w)

-- deciding

unfoldable pub found_for : Bool → State → List ℕ → List ℕ → List ℕ → ℕ → Found
found_for false s current other entries key =
    found_of (searched_in entries s.capacity s.capacity current s.old_size key Table.Old)
found_for true s current other entries key =
    found_of
    (both (searched_in entries s.capacity s.capacity current s.old_size key Table.Old)
    (searched_in entries s.capacity s.capacity other s.new_size key Table.New))

unfoldable pub finds_first : State → List ℕ → List ℕ → List ℕ → ℕ → Bool
finds_first s current other entries n = found_is (found_for s.rehashing s current other entries (key_of entries n)) n

-- an entry that was met is marked anew: 1 if it finds itself, else 0. One that was not met has the mark 0 already
unfoldable pub decided_one : (ℕ → Bool) → List ℕ → ℕ → List ℕ
decided_one test marks n = cond (eqb (mark_of marks n) 0) marks (set_mark marks n (cond (test n) 1 0))

unfoldable pub decided : (ℕ → Bool) → List ℕ → ℕ → List ℕ
decided test marks zero = marks
decided test marks (suc n) = decided_one test (decided test marks n) (suc n)

-- pruning

unfoldable pub next_kept : List ℕ → List ℕ → ℕ → ℕ → ℕ → ℕ
next_kept entries marks capacity zero at = 0
next_kept entries marks capacity (suc left) zero = 0
next_kept entries marks capacity (suc left) (suc n) =
    cond (leb (suc n) capacity)
    (cond (eqb (mark_of marks (suc n)) 0) (next_kept entries marks capacity left (link_of entries (suc n))) (suc n))
    0

unfoldable pub pruned : List ℕ → ℕ → ℕ → List ℕ → ℕ → List ℕ
pruned marks capacity zero entries at = entries
pruned marks capacity (suc left) entries zero = entries
pruned marks capacity (suc left) entries (suc n) =
    let next = next_kept entries marks capacity capacity (link_of entries (suc n)) in
    pruned marks capacity left (set_link entries (suc n) next) next

-- the buckets of a table, and the entries
pub data Chained : Type 0 where
  chains : List ℕ → List ℕ → Chained

unfoldable pub heads_of : Chained → List ℕ
heads_of (Chained.chains buckets entries) = buckets

unfoldable pub links_of : Chained → List ℕ
links_of (Chained.chains buckets entries) = entries

unfoldable pub prune_one : List ℕ → ℕ → ℕ → Chained → Chained
prune_one marks capacity b (Chained.chains buckets entries) =
    let first = next_kept entries marks capacity capacity (get_or buckets b 0) in
    Chained.chains (set buckets b first) (pruned marks capacity capacity entries first)

unfoldable pub pruned_up_to : List ℕ → ℕ → ℕ → Chained → Chained
pruned_up_to marks capacity zero m = m
pruned_up_to marks capacity (suc b) m = prune_one marks capacity b (pruned_up_to marks capacity b m)

-- freeing

unfoldable pub head_down : List ℕ → ℕ → ℕ → ℕ
head_down marks zero head = head
head_down marks (suc n) head = head_down marks n (cond (eqb (mark_of marks (suc n)) 0) (suc n) head)

unfoldable pub entries_down : List ℕ → ℕ → ℕ → List ℕ → List ℕ
entries_down marks zero head entries = entries
entries_down marks (suc n) head entries =
    entries_down marks n (cond (eqb (mark_of marks (suc n)) 0) (suc n) head)
    (cond (eqb (mark_of marks (suc n)) 0) (set_entry entries (suc n) head 0 0) entries)

-- counting

unfoldable pub lengths : List ℕ → List ℕ → ℕ → ℕ → ℕ → ℕ
lengths buckets entries capacity size n = sum (λ b. length (listed (bucket_chain size entries capacity capacity buckets b))) n

pub record Countable (buckets entries : List ℕ) (capacity size : ℕ) : Type 0 where
  pub legal : (b : ℕ) → b < size → legal_size size ≡ true
  pub buckets_fit : size ≤ length buckets
  pub entries_fit : capacity * 3 ≤ length entries
  pub few : lengths buckets entries capacity size size ≤ capacity

unfoldable pub first_filled : List ℕ → ℕ → ℕ
first_filled buckets index = or_else index (first_from (λ b. not (eqb (get_or buckets b 0) 0)) 0 index)

-- The three stages. The first two passes: the chains as the entries met, and marks for those that are kept.

-- the current and the other buckets, the entries, the marks
pub data Buffers : Type 0 where
  buffers : List ℕ → List ℕ → List ℕ → List ℕ → Buffers

unfoldable pub cut_and_marked : State → List ℕ → List ℕ → List ℕ → List ℕ → Buffers
cut_and_marked s current other entries marks =
    let w = cut_up_to s.capacity s.old_size s.old_size (Work.work current entries marks) in
    let v = cut_up_to s.capacity s.new_size s.new_size (Work.work other (entries_in w) (marks_in w)) in
    Buffers.buffers (buckets_in w) (buckets_in v) (entries_in v)
    (decided (finds_first s (buckets_in w) (buckets_in v) (entries_in v)) (marks_in v) s.capacity)

-- the next two: the chains as the entries kept, and the others freed, with the first of them
unfoldable pub rebuilt : State → List ℕ → List ℕ → List ℕ → List ℕ → After ℕ
rebuilt s marks current other entries =
    let p = pruned_up_to marks s.capacity s.old_size (Chained.chains current entries) in
    let q = pruned_up_to marks s.capacity s.new_size (Chained.chains other (links_of p)) in
    After.after (head_down marks s.capacity 0) (heads_of p) (heads_of q) (entries_down marks s.capacity 0 (links_of q))

-- the last: the state, with the counts, the first free entry and the index
unfoldable pub recounted : State → List ℕ → List ℕ → List ℕ → ℕ → State
recounted s current other entries free =
    state_of s.second_is_current (size_of s)
    (old_new (lengths current entries s.capacity s.old_size s.old_size)
    (lengths other entries s.capacity s.new_size s.new_size))
    s.rehashing (first_filled current s.rehash_index) free s.capacity s.resize_allowed s.safe_iterators

-- all of them: the state and the store, as the definition has them
unfoldable pub repaired_store : State → List ℕ → List ℕ → List ℕ → After State
repaired_store s current other entries =
    After.after (repaired_state s current other entries)
    (repaired_buckets s current other entries Table.Old) (repaired_buckets s current other entries Table.New)
    (repaired_entries s current other entries)
