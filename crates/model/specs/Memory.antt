-- SPECIFICATION, "The memory" and "Sound state, sound chain, undamaged store".
use Rattle.std.specs.Prelude.{ℕ, zero, suc, ◌+◌, ◌*◌, ◌-◌, ◌<◌, ◌≤◌, ◌≡◌, Bool, true, false, ◌&&◌, not, List, [], ◌∷◌, length, get_or, set, leb, eqb}
use Rattle.std.proofs.Math.Option.{Option, none, some, map}
use Rattle.cursor.specs.Member.{In}
use Rattle.model.specs.declared.State.{State}
use Rattle.model.specs.declared.Table.{Table}
use Rattle.model.specs.Keys.{bucket_of}
use Rattle.model.specs.Limits.{legal_capacity, legal_size, most_safe_iterators}

-- Entries are numbered from 1, and 0 means none. An entry is three numbers: link, key, value.

unfoldable pub link_of : List ℕ → ℕ → ℕ
link_of entries zero = 0
link_of entries (suc n) = get_or entries (n * 3) 0

unfoldable pub key_of : List ℕ → ℕ → ℕ
key_of entries zero = 0
key_of entries (suc n) = get_or entries (n * 3 + 1) 0

unfoldable pub value_of : List ℕ → ℕ → ℕ
value_of entries zero = 0
value_of entries (suc n) = get_or entries (n * 3 + 2) 0

unfoldable pub set_link : List ℕ → ℕ → ℕ → List ℕ
set_link entries zero link = entries
set_link entries (suc n) link = set entries (n * 3) link

unfoldable pub set_key : List ℕ → ℕ → ℕ → List ℕ
set_key entries zero key = entries
set_key entries (suc n) key = set entries (n * 3 + 1) key

unfoldable pub set_value : List ℕ → ℕ → ℕ → List ℕ
set_value entries zero value = entries
set_value entries (suc n) value = set entries (n * 3 + 2) value

unfoldable pub set_entry : List ℕ → ℕ → ℕ → ℕ → ℕ → List ℕ
set_entry entries n link key value = set_value (set_key (set_link entries n link) n key) n value

-- The live tables. The old one lies in the current bucket buffer, the new one in the other.

unfoldable pub size_of : State → Table → ℕ
size_of s Table.Old = s.old_size
size_of s Table.New = s.new_size

unfoldable pub used_of : State → Table → ℕ
used_of s Table.Old = s.old_used
used_of s Table.New = s.new_used

unfoldable pub buckets_of : List ℕ → List ℕ → Table → List ℕ
buckets_of current other Table.Old = current
buckets_of current other Table.New = other

-- keys held in both tables
unfoldable pub keys_held : State → ℕ
keys_held s = s.old_used + s.new_used

-- A sound state. The lent buffers enter by their lengths: of the current bucket buffer, the other one, the entry buffer.

-- the limit on the capacity, and an entry buffer long enough for it
unfoldable pub sound_capacity : ℕ → ℕ → Bool
sound_capacity entries capacity = legal_capacity capacity && leb (capacity * 3) entries

-- a table's size is legal, and its buffer long enough
unfoldable pub sound_table : ℕ → ℕ → Bool
sound_table buffer size = legal_size size && leb size buffer

-- the new table during a rehash, and none at any other time
unfoldable pub sound_rehash : ℕ → State → Bool → Bool
sound_rehash other s true =
    sound_table other s.new_size && not (eqb s.old_size s.new_size) && leb s.rehash_index s.old_size
sound_rehash other s false = eqb s.new_size 0 && eqb s.new_used 0 && eqb s.rehash_index 0

-- what is asked whether or not a rehash is under way
unfoldable pub sound_base : ℕ → ℕ → State → Bool
sound_base current entries s =
    sound_capacity entries s.capacity
    && sound_table current s.old_size
    && leb (keys_held s) s.capacity
    && leb s.free_head s.capacity
    && leb s.safe_iterators most_safe_iterators

unfoldable pub sound_state : ℕ → ℕ → ℕ → State → Bool
sound_state current other entries s = sound_base current entries s && sound_rehash other s s.rehashing

-- A chain as it is read from a head: its entries in order, or none where it is not sound. Each number met is tested
-- before its entry is read, the key of each entry must pass the chain's own test, and at most the budget of entries may be
-- met before 0.

unfoldable pub met : Bool → ℕ → Option (List ℕ) → Option (List ℕ)
met true n rest = map (λ ns. n ∷ ns) rest
met false n rest = none

unfoldable pub chain : (ℕ → Bool) → List ℕ → ℕ → ℕ → ℕ → Option (List ℕ)
chain test entries capacity zero zero = some []
chain test entries capacity zero (suc n) = none
chain test entries capacity (suc budget) zero = some []
chain test entries capacity (suc budget) (suc n) =
    met (leb (suc n) capacity && test (key_of entries (suc n))) (suc n)
    (chain test entries capacity budget (link_of entries (suc n)))

-- The test of a bucket's chain: the key's bucket of that size is that bucket. The free list's lets any key pass.

unfoldable pub in_bucket : ℕ → ℕ → ℕ → Bool
in_bucket size b key = eqb (bucket_of key size) b

unfoldable pub any_key : ℕ → Bool
any_key key = true

-- The chains of a store: the free list's, and that of every live bucket.

pub data Place : Type 0 where
  free : Place
  bucket : Table → ℕ → Place

unfoldable pub Live : State → Place → Type 0
Live s Place.free = Unit {0}
Live s (Place.bucket t b) = b < size_of s t

-- the bucket that a key calls for
unfoldable pub key_place : State → ℕ → Table → Place
key_place s key t = Place.bucket t (bucket_of key (size_of s t))

-- the first entry there
unfoldable pub head_at : State → List ℕ → List ℕ → Place → ℕ
head_at s current other Place.free = s.free_head
head_at s current other (Place.bucket t b) = get_or (buckets_of current other t) b 0

-- the most entries there: the keys that the table holds, or the capacity less all keys
unfoldable pub budget_at : State → Place → ℕ
budget_at s Place.free = s.capacity - keys_held s
budget_at s (Place.bucket t b) = used_of s t

-- the keys that belong there
unfoldable pub belongs : State → Place → ℕ → Bool
belongs s Place.free = any_key
belongs s (Place.bucket t b) = in_bucket (size_of s t) b

unfoldable pub chain_at : State → List ℕ → List ℕ → List ℕ → Place → Option (List ℕ)
chain_at s current other entries p =
    chain (belongs s p) entries s.capacity (budget_at s p) (head_at s current other p)

-- the entries of a chain that is sound, and none of one that is not
unfoldable pub listed : Option (List ℕ) → List ℕ
listed none = []
listed (some ns) = ns

unfoldable pub entries_at : State → List ℕ → List ℕ → List ℕ → Place → List ℕ
entries_at s current other entries p = listed (chain_at s current other entries p)

-- f 0 + f 1 + .. + f (n - 1)
unfoldable pub sum : (ℕ → ℕ) → ℕ → ℕ
sum f zero = 0
sum f (suc n) = sum f n + f n

-- the last entry of a list; of an empty one, the entry named
unfoldable pub last_or : ℕ → List ℕ → ℕ
last_or before [] = before
last_or before (n ∷ ns) = last_or n ns

-- An undamaged store. The entries of bucket b of table t are those at `Place.bucket t b`. That each has a key of that bucket
-- is part of its chain being sound.
pub record Undamaged (s : State) (current other entries : List ℕ) : Type 0 where
  pub state_sound : sound_state (length current) (length other) (length entries) s ≡ true
  pub chains_sound : (p : Place) → Live s p
      → chain_at s current other entries p ≡ some (entries_at s current other entries p)
  pub on_a_chain : (n : ℕ) → 0 < n → n ≤ s.capacity → (p : Place) × Live s p × In n (entries_at s current other entries p)
  pub on_one_chain : (n : ℕ) (p q : Place) → Live s p → Live s q
      → In n (entries_at s current other entries p) → In n (entries_at s current other entries q) → p ≡ q
  pub keys_distinct : (n m : ℕ) (t u : Table) (a b : ℕ) → a < size_of s t → b < size_of s u
      → In n (entries_at s current other entries (Place.bucket t a)) → In m (entries_at s current other entries (Place.bucket u b))
      → key_of entries n ≡ key_of entries m → n ≡ m
  pub passed_empty : (b : ℕ) → b < s.rehash_index → get_or current b 0 ≡ 0
  pub counts : (t : Table)
      → used_of s t ≡ sum (λ b. length (entries_at s current other entries (Place.bucket t b))) (size_of s t)
