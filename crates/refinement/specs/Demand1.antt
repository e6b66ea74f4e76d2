-- Demand 1: the table of answers (SPECIFICATION, "Answers"), for any meaning of the calls, any state and any lent memory.
-- The table goes by conditions, and they are said here in its words. How model defines the calls plays no part in them, but
-- that add and delete, where a step is due, go by the world after it, which is the step of model; the numbers of places and
-- the fingerprint are model's too.
use Rattle.std.specs.Prelude.{ℕ, zero, suc, ◌*◌, ◌≤◌, ◌<◌, ◌+◌, ◌≡◌, Bool, true, false, ◌&&◌, List, [], ◌∷◌, map, ◌⊎◌, length}
use Rattle.cursor.specs.Member.{In}
use Rattle.model.specs.declared.State.{State}
use Rattle.model.specs.declared.Table.{Table}
use Rattle.model.specs.Limits.{legal_capacity, legal_size, empty_visits, most_safe_iterators}
use Rattle.model.specs.Memory.{link_of, key_of, keys_held, Place, key_place, head_at, budget_at, belongs}
use Rattle.model.specs.Answers.{reply}
use Rattle.model.specs.Calls.{sound, no_state, step_due}
use Rattle.model.specs.Walk.{tables_of, group_places}
use Rattle.model.specs.Iterators.{bucket_at, end_place, fingerprint_of}
use Rattle.model.specs.Sequences.{World, KeyCall, ReadCall, StateCall, Call, Outcome, kept, perform, carry}
use Rattle.refinement.specs.Worlds.{current, other, takes_step}

-- By the state's flag, current is the bucket buffer of the old table (or the only one), other the other one.
unfoldable pub BadState : World → Type 0
BadState w = ¬ (sound w.state (current w) (other w) w.entries ≡ true)

-- A sound chain: from its head, link by link, every number met is at most the capacity, the key of every entry met belongs
-- there, and 0 is met after at most as many entries as the state says.

-- the number met after k links
unfoldable pub nth : List ℕ → ℕ → ℕ → ℕ
nth entries head zero = head
nth entries head (suc k) = link_of entries (nth entries head k)

-- that many entries are met, whose keys pass the test, and then 0
pub record Chain (test : ℕ → Bool) (entries : List ℕ) (capacity head count : ℕ) : Type 0 where
  pub entry : (k : ℕ) → k < count → (0 < nth entries head k) × (nth entries head k ≤ capacity)
  pub key : (k : ℕ) → k < count → test (key_of entries (nth entries head k)) ≡ true
  pub end : nth entries head count ≡ 0

unfoldable pub head_of : World → Place → ℕ
head_of w p = head_at w.state (current w) (other w) p

unfoldable pub ChainAt : World → Place → ℕ → Type 0
ChainAt w p count = Chain (belongs w.state p) w.entries w.state.capacity (head_of w p) count

unfoldable pub SoundChain : World → Place → Type 0
SoundChain w p = (count : ℕ) × (count ≤ budget_at w.state p) × ChainAt w p count

-- one of the chains that a call must read is not sound
unfoldable pub Damaged : World → List Place → Type 0
Damaged w places = (p : Place) × In p places × (¬ SoundChain w p)

-- Find, change, add and delete read the key's bucket in the old table, during a rehash in the new one too, and no other.

unfoldable pub live_tables : Bool → List Table
live_tables false = Table.Old ∷ []
live_tables true = Table.Old ∷ Table.New ∷ []

unfoldable pub key_places : World → ℕ → List Place
key_places w key = map (λ t. key_place w.state key t) (live_tables w.state.rehashing)

-- an entry of the chain there has the key
unfoldable pub OnChain : World → ℕ → Place → Type 0
OnChain w key p =
    (count : ℕ) × (k : ℕ) × ChainAt w p count × (k < count) × (key_of w.entries (nth w.entries (head_of w p) k) ≡ key)

unfoldable pub KeyHeld : World → ℕ → Type 0
KeyHeld w key = (p : Place) × In p (key_places w key) × OnChain w key p

-- Add.

unfoldable pub Full : World → Type 0
Full w = keys_held w.state ≡ w.state.capacity

-- not full, but there is no first free entry, or its link exceeds the capacity
unfoldable pub FreeListDamaged : World → Type 0
FreeListDamaged w =
    (¬ Full w) × ((w.state.free_head ≡ 0) ⊎ (w.state.capacity < link_of w.entries w.state.free_head))

-- A step passes empty buckets from the next one on, but only so many, and moves the first filled one.

unfoldable pub EmptyFrom : World → ℕ → Type 0
EmptyFrom w end =
    (b : ℕ) → w.state.rehash_index ≤ b → b < end → head_of w (Place.bucket Table.Old b) ≡ 0

pub record FirstFilled (w : World) (b : ℕ) : Type 0 where
  pub from_next : w.state.rehash_index ≤ b
  pub in_reach : b < w.state.rehash_index + empty_visits
  pub in_table : b < w.state.old_size
  pub filled : ¬ (head_of w (Place.bucket Table.Old b) ≡ 0)
  pub empty_before : EmptyFrom w b

-- the table's end comes before a filled bucket, be it with the last empty one that a step passes
unfoldable pub EndFirst : World → Type 0
EndFirst w = (w.state.old_size ≤ w.state.rehash_index + empty_visits) × EmptyFrom w w.state.old_size

-- the old table holds keys, but its end comes first, or the chain to move is not sound
unfoldable pub StepDamaged : World → Type 0
StepDamaged w =
    (0 < w.state.old_used)
    × (EndFirst w ⊎ ((b : ℕ) × FirstFilled w b × (¬ SoundChain w (Place.bucket Table.Old b))))

-- A walk call reads the buckets of its group.

unfoldable pub places : World → ℕ → List Place
places w cursor = group_places (tables_of w.state) cursor

-- the keys on some chains, all together
unfoldable pub KeysOn : World → List Place → ℕ → Type 0
KeysOn w [] n = n ≡ 0
KeysOn w (p ∷ ps) n = (count : ℕ) × (rest : ℕ) × ChainAt w p count × KeysOn w ps rest × (n ≡ count + rest)

-- together they hold more entries than the store holds keys
unfoldable pub TooMany : World → List Place → Type 0
TooMany w places = (n : ℕ) × KeysOn w places n × (keys_held w.state < n)

-- with no keys held it reads no chain
unfoldable pub GroupDamaged : World → ℕ → Type 0
GroupDamaged w cursor = (0 < keys_held w.state) × (Damaged w (places w cursor) ⊎ TooMany w (places w cursor))

-- fewer than two numbers of the list for each key to be handed out
unfoldable pub Short : World → ℕ → List ℕ → Type 0
Short w cursor lent = (0 < keys_held w.state) × (n : ℕ) × KeysOn w (places w cursor) n × (length lent < n * 2)

-- A call that iterates reads the first filled bucket from its place on.

unfoldable pub place_at : World → ℕ → Place
place_at w n = bucket_at (tables_of w.state) n

pub record FirstFrom (w : World) (place n : ℕ) : Type 0 where
  pub from_place : place ≤ n
  pub before_end : n < end_place (tables_of w.state)
  pub filled : ¬ (head_of w (place_at w n) ≡ 0)
  pub empty_before : (m : ℕ) → place ≤ m → m < n → head_of w (place_at w m) ≡ 0

-- there is one, and its chain is not sound
unfoldable pub BucketDamaged : World → ℕ → Type 0
BucketDamaged w place = (n : ℕ) × FirstFrom w place n × (¬ SoundChain w (place_at w n))

-- .. or it has that many keys
unfoldable pub KeysFrom : World → ℕ → ℕ → Type 0
KeysFrom w place count = (n : ℕ) × FirstFrom w place n × ChainAt w (place_at w n) count

-- the list has fewer than two numbers for each
unfoldable pub ShortFrom : World → ℕ → List ℕ → Type 0
ShortFrom w place lent = (count : ℕ) × KeysFrom w place count × (length lent < count * 2)

-- The table: for each call its numbers, in the table's order, and when each is given.

pub record Row : Type 1 where
  pub number : ℕ
  pub given : Type 0

unfoldable pub row : ℕ → Type 0 → Row
row number given = record { number = number; given = given }

unfoldable pub key_rows : World → ℕ → KeyCall → List Row
key_rows w key (KeyCall.add value) = row 4 (KeyHeld w key) ∷ row 5 (Full w) ∷ row 2 (FreeListDamaged w) ∷ []
key_rows w key KeyCall.find = row 3 (¬ KeyHeld w key) ∷ []
key_rows w key (KeyCall.update value) = row 3 (¬ KeyHeld w key) ∷ []
key_rows w key KeyCall.delete = row 3 (¬ KeyHeld w key) ∷ []

-- the key's chains come first
unfoldable pub alone_rows : World → ℕ → KeyCall → List Row
alone_rows w key c = row 2 (Damaged w (key_places w key)) ∷ key_rows w key c

unfoldable pub step_world : World → World
step_world w = carry w (perform w Call.rehash_step)

-- where a step comes first, it can refuse, and all else is asked of the world that it leaves
unfoldable pub on_rows : World → ℕ → KeyCall → Bool → List Row
on_rows w key c false = alone_rows w key c
on_rows w key c true = row 2 (StepDamaged w) ∷ alone_rows (step_world w) key c

unfoldable pub read_rows : World → ReadCall → List Row
read_rows w (ReadCall.suggested_size growing) = []
read_rows w ReadCall.current_table = []
read_rows w ReadCall.begin_iterator = []
read_rows w (ReadCall.end_iterator fingerprint) = row 15 (¬ (fingerprint ≡ fingerprint_of w.state)) ∷ []

unfoldable pub note_rows : World → StateCall → List Row
note_rows w (StateCall.allow_resize allowed) = []
note_rows w StateCall.begin_safe = row 17 (most_safe_iterators ≤ w.state.safe_iterators) ∷ []
note_rows w StateCall.end_safe = row 16 (w.state.safe_iterators ≡ 0) ∷ []

unfoldable pub rows : World → Call → List Row
rows w (Call.init capacity size) =
    row 6 (¬ ((legal_capacity capacity ≡ true) × (legal_size size ≡ true)))
    ∷ row 1 ((length w.first < size) ⊎ (length w.entries < capacity * 3))
    ∷ []
rows w (Call.on key c) = row 1 (BadState w) ∷ on_rows w key c (takes_step c && step_due w.state)
rows w (Call.resize size) =
    row 1 (BadState w)
    ∷ row 7 (w.state.rehashing ≡ true)
    ∷ row 6 ((¬ (legal_size size ≡ true)) ⊎ (size ≡ w.state.old_size) ⊎ (length (other w) < size))
    ∷ []
rows w Call.rehash_step =
    row 1 (BadState w)
    ∷ row 8 (w.state.rehashing ≡ false)
    ∷ row 18 (0 < w.state.safe_iterators)
    ∷ row 2 (StepDamaged w)
    ∷ []
rows w (Call.scan cursor lent) =
    row 1 (BadState w) ∷ row 2 (GroupDamaged w cursor) ∷ row 9 (Short w cursor lent) ∷ []
rows w (Call.iterate place lent) =
    row 1 (BadState w) ∷ row 2 (BucketDamaged w place) ∷ row 9 (ShortFrom w place lent) ∷ []
rows w (Call.read c) = row 1 (BadState w) ∷ read_rows w c
rows w (Call.note c) = row 1 (BadState w) ∷ note_rows w c

-- the number is that of the first row whose condition holds, and 0 if none does
unfoldable pub Decides : ℕ → List Row → Type 0
Decides n [] = n ≡ 0
Decides n (r ∷ rs) = (r.given × (n ≡ r.number)) ⊎ ((¬ r.given) × Decides n rs)

-- A refusal leaves all buffers and the lent list, and the state that was given comes back; but a start takes none and hands
-- back one of zeros. All values are 0, but for the count that comes with 9, and a look is empty.

unfoldable pub Leaves : World → Outcome → State → List ℕ → List ℕ → Type 0
Leaves w o back values lent = o ≡ kept w (reply o.reply.number values back) lent

-- with 9 the keys to be handed out, else 0
pub record RefusedCount (due : ℕ → Type 0) (number count : ℕ) : Type 0 where
  pub short : number ≡ 9 → due count
  pub else : ¬ (number ≡ 9) → count ≡ 0

unfoldable pub key_zeros : KeyCall → List ℕ
key_zeros KeyCall.find = 0 ∷ []
key_zeros (KeyCall.update value) = []
key_zeros (KeyCall.add value) = []
key_zeros KeyCall.delete = []

unfoldable pub read_zeros : ReadCall → List ℕ
read_zeros (ReadCall.suggested_size growing) = 0 ∷ []
read_zeros ReadCall.current_table = []
read_zeros ReadCall.begin_iterator = 0 ∷ []
read_zeros (ReadCall.end_iterator fingerprint) = []

unfoldable pub LeavesList : World → Outcome → (ℕ → Type 0) → List ℕ → Type 0
LeavesList w o due lent =
    (count : ℕ) × RefusedCount due o.reply.number count × Leaves w o w.state (0 ∷ count ∷ []) lent

unfoldable pub LeavesAll : World → Call → Outcome → Type 0
LeavesAll w (Call.init capacity size) o = Leaves w o no_state [] []
LeavesAll w (Call.on key c) o = Leaves w o w.state (key_zeros c) []
LeavesAll w (Call.resize size) o = Leaves w o w.state [] []
LeavesAll w Call.rehash_step o = Leaves w o w.state (0 ∷ 0 ∷ []) []
LeavesAll w (Call.scan cursor lent) o = LeavesList w o (KeysOn w (places w cursor)) lent
LeavesAll w (Call.iterate place lent) o = LeavesList w o (KeysFrom w place) lent
LeavesAll w (Call.read c) o = Leaves w o w.state (read_zeros c) []
LeavesAll w (Call.note c) o = Leaves w o w.state [] []

pub record Demand1 (does : World → Call → Outcome) : Type 0 where
  pub numbers : (w : World) (c : Call) → Decides (does w c).reply.number (rows w c)
  pub refusals : (w : World) (c : Call) → ¬ ((does w c).reply.number ≡ 0) → LeavesAll w c (does w c)
