-- Demand 3, one claim about a whole sequence of calls, for any meaning of the calls. An ideal store is fed the same
-- calls; from their arguments and the lengths of the lent buffers alone it says what each answers (but for what a look shows,
-- which is said of the memory) and where each key is.
use Rattle.std.specs.Prelude.{ℕ, zero, suc, ◌+◌, ◌-◌, ◌*◌, ◌≤◌, ◌<◌, max, min, ◌≡◌, Bool, true, false, ◌&&◌, cond, not, List, [], ◌∷◌, ◌++◌, length, take, drop, get_or, leb, ltb, eqb}
use Rattle.std.proofs.Math.Option.{Option, none, some}
use Rattle.cursor.specs.Member.{In, Distinct, any, keep}
use Rattle.cursor.specs.Next.{next}
use Rattle.fingerprint.specs.Mix.{fingerprint}
use Rattle.model.specs.declared.Table.{Table}
use Rattle.model.specs.Keys.{bucket_of}
use Rattle.model.specs.Limits.{legal_capacity, legal_size, empty_visits, most_safe_iterators}
use Rattle.model.specs.Memory.{Place}
use Rattle.model.specs.Answers.{Reply, reply}
use Rattle.model.specs.Calls.{long_enough, acceptable, suggested, growth_due, old_new}
use Rattle.model.specs.Walk.{Tables, tables_of, smaller_of, group_places}
use Rattle.model.specs.Iterators.{first_place, numbers_of}
use Rattle.model.specs.Sequences.{World, KeyCall, ReadCall, StateCall, Call, Outcome, carry, run, Event, events, Pair, PlainMap, keys_of, map_does}
use Rattle.refinement.specs.Worlds.{current, UndamagedAt, Held, Holds, takes_step, may_grow}
use Rattle.refinement.specs.Demand2.{next_cursor, HandsOut, place_behind, IteratesOut}

-- The lengths of the lent buffers.

pub record Lengths : Type 0 where
  pub first : ℕ
  pub second : ℕ
  pub entries : ℕ

unfoldable pub lengths_of : World → Lengths
lengths_of w = record { first = length w.first; second = length w.second; entries = length w.entries }

-- The ideal: the plain map, the live tables, whether the second bucket buffer is the current one; during a rehash the keys
-- still in the old table, and the next bucket to move; whether growth is allowed; and the number of safe iterators.

pub record Ideal : Type 0 where
  pub plain : PlainMap
  pub tables : Tables
  pub turned : Bool
  pub unmoved : List ℕ
  pub index : ℕ
  pub allowed : Bool
  pub iterators : ℕ

unfoldable pub ideal : PlainMap → Tables → Bool → List ℕ → ℕ → Bool → ℕ → Ideal
ideal plain tables turned unmoved index allowed iterators =
    record {
      plain = plain;
      tables = tables;
      turned = turned;
      unmoved = unmoved;
      index = index;
      allowed = allowed;
      iterators = iterators;
    }

-- after a start
unfoldable pub begun : ℕ → ℕ → Ideal
begun capacity size = ideal (record { capacity = capacity; pairs = [] }) (Tables.one size) false [] 0 true 0

unfoldable pub among : ℕ → List ℕ → Bool
among key keys = any (λ k. eqb k key) keys

-- the table that a key is in, if it is held, and the size of a table

unfoldable pub table_of : Tables → List ℕ → ℕ → Table
table_of (Tables.one size) unmoved key = Table.Old
table_of (Tables.two old new) unmoved key = cond (among key unmoved) Table.Old Table.New

unfoldable pub size_in : Tables → Table → ℕ
size_in (Tables.one size) t = size
size_in (Tables.two old new) t = old_new old new t

-- What it answers to a call, with the ideal after it.

-- A start goes by the limits and the lengths of the buffers alone.

unfoldable pub start_number : Lengths → ℕ → ℕ → ℕ
start_number l capacity size =
    cond (legal_capacity capacity && legal_size size)
    (cond (long_enough capacity size l.first l.entries) 0 1)
    6

unfoldable pub start_answer : Ideal → ℕ → ℕ → ℕ → Reply Ideal
start_answer i capacity size zero = reply 0 [] (begun capacity size)
start_answer i capacity size (suc number) = reply (suc number) [] i

-- Find, change, add and delete answer as the map does. A key is added to the new table, if there is one then.
unfoldable pub key_answer : Ideal → Reply PlainMap → Reply Ideal
key_answer i r =
    reply r.number r.values
    (ideal r.state i.tables i.turned (keep (λ k. among k (keys_of r.state.pairs)) i.unmoved) i.index
    i.allowed i.iterators)

-- A resize is refused during a rehash, and else goes by its size.
unfoldable pub resize_answer : Lengths → Ideal → ℕ → Tables → Reply Ideal
resize_answer l i size (Tables.two old new) = reply 7 [] i
resize_answer l i size (Tables.one old) =
    cond (acceptable old (cond i.turned l.first l.second) size)
    (reply 0 [] (ideal i.plain (Tables.two old size) i.turned (keys_of i.plain.pairs) 0 i.allowed i.iterators))
    (reply 6 [] i)

-- A step moves all the keys of the lowest bucket that an unmoved key calls for. But it passes only so many empty buckets: if
-- that bucket lies further on, it moves none, and the next bucket is the one behind those.

-- the lowest of bucket b and those that the keys call for
unfoldable pub lowest : ℕ → ℕ → List ℕ → ℕ
lowest size b [] = b
lowest size b (k ∷ ks) = lowest size (min b (bucket_of k size)) ks

-- so many moved, these keys still unmoved, that bucket the next one; with none unmoved the rehash is over
unfoldable pub after_step : Ideal → ℕ → ℕ → ℕ → List ℕ → ℕ → Reply Ideal
after_step i old new count [] next =
    reply 0 (count ∷ 0 ∷ []) (ideal i.plain (Tables.one new) (not i.turned) [] 0 i.allowed i.iterators)
after_step i old new count (k ∷ ks) next =
    reply 0 (count ∷ 1 ∷ []) (ideal i.plain (Tables.two old new) i.turned (k ∷ ks) next i.allowed i.iterators)

unfoldable pub step_taken : Ideal → ℕ → ℕ → List ℕ → Reply Ideal
step_taken i old new [] = after_step i old new 0 [] i.index
step_taken i old new (k ∷ ks) =
    let b = lowest old (bucket_of k old) ks in
    let moves : ℕ → Bool = λ j. eqb (bucket_of j old) b in
    cond (ltb b (i.index + empty_visits))
    (after_step i old new (length (keep moves (k ∷ ks))) (keep (λ j. not (moves j)) (k ∷ ks)) (suc b))
    (after_step i old new 0 (k ∷ ks) (i.index + empty_visits))

-- safe iterators hold it up
unfoldable pub step_answer : Ideal → Tables → List ℕ → Reply Ideal
step_answer i (Tables.one size) unmoved = reply 8 (0 ∷ 0 ∷ []) i
step_answer i (Tables.two old new) unmoved =
    cond (ltb 0 i.iterators) (reply 18 (0 ∷ 0 ∷ []) i) (step_taken i old new unmoved)

-- Add and delete, where they are answered 0, take a step first; with one table, or held up, that changes nothing.
unfoldable pub steps_first : Ideal → KeyCall → ℕ → Ideal
steps_first i c number = cond (takes_step c && eqb number 0) (step_answer i i.tables i.unmoved).state i

unfoldable pub on_answer : Ideal → KeyCall → Reply PlainMap → Reply Ideal
on_answer i c r = key_answer (steps_first i c r.number) r

-- Growth is a resize, if it is due by the keys held then. Refused or not, the call that it follows is answered.
unfoldable pub grows : Lengths → Ideal → Tables → Ideal
grows l i (Tables.two old new) = i
grows l i (Tables.one size) =
    let keys = length i.plain.pairs in
    cond (growth_due i.allowed size keys) (resize_answer l i (suggested true keys) (Tables.one size)).state i

unfoldable pub then_grows : Lengths → KeyCall → Reply Ideal → Reply Ideal
then_grows l c r =
    reply r.number r.values
    (cond (may_grow c && eqb r.number 0) (grows l r.state r.state.tables) r.state)

-- A walk call's pairs are those whose bucket, in the table that has the key, is one of the group's.

unfoldable pub is_bucket : Table → ℕ → Place → Bool
is_bucket t b Place.free = false
is_bucket t b (Place.bucket u c) = eqb (old_new 0 1 t) (old_new 0 1 u) && eqb b c

unfoldable pub in_group : Ideal → ℕ → ℕ → Bool
in_group i cursor key =
    let t = table_of i.tables i.unmoved key in
    any (is_bucket t (bucket_of key (size_in i.tables t))) (group_places i.tables cursor)

unfoldable pub group_pairs : Ideal → ℕ → List Pair
group_pairs i cursor = keep (λ p. in_group i cursor p.key) i.plain.pairs

-- A call that iterates has those of the first bucket, from its place on, that a key is in.

-- the place of a bucket, and of the bucket that a key is in

unfoldable pub place_number : Tables → Table → ℕ → ℕ
place_number (Tables.one size) t b = b
place_number (Tables.two old new) t b = old_new 0 old t + b

unfoldable pub place_of : Ideal → ℕ → ℕ
place_of i key =
    let t = table_of i.tables i.unmoved key in
    place_number i.tables t (bucket_of key (size_in i.tables t))

-- whether a pair's key is there, and the first place from one on where a key is

unfoldable pub is_at : Ideal → ℕ → Pair → Bool
is_at i n p = eqb (place_of i p.key) n

unfoldable pub first_held : Ideal → ℕ → Option ℕ
first_held i place = first_place (λ n. any (is_at i n) i.plain.pairs) i.tables place

-- the pairs there

unfoldable pub bucket_pairs : Ideal → Option ℕ → List Pair
bucket_pairs i none = []
bucket_pairs i (some n) = keep (is_at i n) i.plain.pairs

unfoldable pub place_pairs : Ideal → ℕ → List Pair
place_pairs i place = bucket_pairs i (first_held i place)

-- what either answers: the next cursor or place and the number of pairs, if the list has two numbers for each
unfoldable pub hand_answer : Ideal → ℕ → ℕ → ℕ → Reply Ideal
hand_answer i next count room =
    cond (leb (count * 2) room) (reply 0 (next ∷ count ∷ []) i) (reply 9 (0 ∷ count ∷ []) i)

-- The fingerprint, of the current buffer, the live sizes, and the keys held in each table.

unfoldable pub live_sizes : Tables → Table → ℕ
live_sizes (Tables.one size) = old_new size 0
live_sizes (Tables.two old new) = old_new old new

unfoldable pub keys_in : Tables → ℕ → ℕ → Table → ℕ
keys_in (Tables.one size) keys unmoved = old_new keys 0
keys_in (Tables.two old new) keys unmoved = old_new unmoved (keys - unmoved)

unfoldable pub ideal_print : Ideal → ℕ
ideal_print i =
    fingerprint
    (numbers_of i.turned (live_sizes i.tables) (keys_in i.tables (length i.plain.pairs) (length i.unmoved)))

-- Suggested size; a look, whose values are those of the memory, below; an iterator's begin and end.
unfoldable pub read_answer : Ideal → ReadCall → Reply Ideal
read_answer i (ReadCall.suggested_size growing) = reply 0 (suggested growing (length i.plain.pairs) ∷ []) i
read_answer i ReadCall.current_table = reply 0 [] i
read_answer i ReadCall.begin_iterator = reply 0 (ideal_print i ∷ []) i
read_answer i (ReadCall.end_iterator fingerprint) = reply (cond (eqb fingerprint (ideal_print i)) 0 15) [] i

-- The permission; a safe iterator's begin and end.

unfoldable pub with_notes : Ideal → Bool → ℕ → Ideal
with_notes i allowed iterators = ideal i.plain i.tables i.turned i.unmoved i.index allowed iterators

unfoldable pub end_answer : Ideal → ℕ → Reply Ideal
end_answer i zero = reply 16 [] i
end_answer i (suc iterators) = reply 0 [] (with_notes i i.allowed iterators)

unfoldable pub note_answer : Ideal → StateCall → Reply Ideal
note_answer i (StateCall.allow_resize allowed) = reply 0 [] (with_notes i allowed i.iterators)
note_answer i StateCall.begin_safe =
    cond (ltb i.iterators most_safe_iterators)
    (reply 0 [] (with_notes i i.allowed (suc i.iterators)))
    (reply 17 [] i)
note_answer i StateCall.end_safe = end_answer i i.iterators

unfoldable pub predict : Lengths → Ideal → Call → Reply Ideal
predict l i (Call.init capacity size) = start_answer i capacity size (start_number l capacity size)
predict l i (Call.on key c) = then_grows l c (on_answer i c (map_does i.plain key c))
predict l i (Call.resize size) = resize_answer l i size i.tables
predict l i Call.rehash_step = step_answer i i.tables i.unmoved
predict l i (Call.scan cursor lent) =
    hand_answer i (next_cursor (length i.plain.pairs) (next (smaller_of i.tables) cursor)) (length (group_pairs i cursor))
    (length lent)
predict l i (Call.iterate place lent) =
    hand_answer i (place_behind i.tables (first_held i place)) (length (place_pairs i place)) (length lent)
predict l i (Call.read c) = read_answer i c
predict l i (Call.note c) = note_answer i c

unfoldable pub replay : Lengths → Ideal → List Call → Ideal
replay l i [] = i
replay l i (c ∷ cs) = replay l (predict l i c).state cs

-- What each call of a sequence does, beside the ideal before it.

-- the pairs at the front of a list, so many of them
unfoldable pub pairs_in : ℕ → List ℕ → List Pair
pairs_in zero list = []
pairs_in (suc n) [] = []
pairs_in (suc n) (key ∷ []) = []
pairs_in (suc n) (key ∷ value ∷ rest) = record { key = key; value = value } ∷ pairs_in n rest

-- those that an answered call hands out: its values are the next cursor or place and how many they are
unfoldable pub handed_out : Event → List Pair
handed_out e = pairs_in (get_or e.values 1 0) e.lent

-- it hands out the ideal's pairs, no more and no fewer, no key twice; the list beyond them stays
pub record HandsPairs (due : List Pair) (e : Event) (lent : List ℕ) : Type 0 where
  pub only : (p : Pair) → In p (handed_out e) → In p due
  pub all : (p : Pair) → In p due → In p (handed_out e)
  pub none_twice : Distinct (keys_of (handed_out e))
  pub beyond : drop (length (handed_out e) * 2) e.lent ≡ drop (length (handed_out e) * 2) lent

pub record AsPredicted (l : Lengths) (i : Ideal) (e : Event) : Type 0 where
  pub number : e.number ≡ (predict l i e.call).number
  pub values : (e.call ≡ Call.read ReadCall.current_table → ⊥) → e.values ≡ (predict l i e.call).values
  pub answered_walk : (cursor : ℕ) (lent : List ℕ) → e.call ≡ Call.scan cursor lent → e.number ≡ 0
      → HandsPairs (group_pairs i cursor) e lent
  pub refused_walk : (cursor : ℕ) (lent : List ℕ) → e.call ≡ Call.scan cursor lent → (e.number ≡ 0 → ⊥)
      → e.lent ≡ lent
  pub answered_pass : (place : ℕ) (lent : List ℕ) → e.call ≡ Call.iterate place lent → e.number ≡ 0
      → HandsPairs (place_pairs i place) e lent
  pub refused_pass : (place : ℕ) (lent : List ℕ) → e.call ≡ Call.iterate place lent → (e.number ≡ 0 → ⊥)
      → e.lent ≡ lent

unfoldable pub Answered : Lengths → Ideal → List Event → Type 0
Answered l i [] = Unit {0}
Answered l i (e ∷ es) = AsPredicted l i e × Answered l (predict l i e.call).state es

-- Walks. A walk is some of the walk calls: the first is given cursor 0, each further one the cursor that its last answered
-- call answered, and the first 0 answered ends it. Its visits are its answered calls.

-- of one such call, by the ideal before it: the cursor given, the size of the smaller live table, the keys held; and the keys
-- handed out
pub record Visit : Type 0 where
  pub cursor : ℕ
  pub size : ℕ
  pub held : List ℕ
  pub handed : List ℕ

unfoldable pub visit : ℕ → Ideal → Event → Visit
visit cursor i e =
    record {
      cursor = cursor;
      size = smaller_of i.tables;
      held = keys_of i.plain.pairs;
      handed = keys_of (handed_out e);
    }

pub data Walk (l : Lengths) : ℕ → Ideal → List Event → List Visit → Bool → Type 0 where
  over : {due : ℕ} {i : Ideal} {es : List Event} → Walk l due i es [] false
  other : {due : ℕ} {i : Ideal} {e : Event} {es : List Event} {visits : List Visit} {ended : Bool}
      → Walk l due (predict l i e.call).state es visits ended → Walk l due i (e ∷ es) visits ended
  onward : {due : ℕ} {i : Ideal} {e : Event} {es : List Event} {visits : List Visit} {ended : Bool} (lent : List ℕ)
      → e.call ≡ Call.scan due lent → e.number ≡ 0 → (get_or e.values 0 0 ≡ 0 → ⊥)
      → Walk l (get_or e.values 0 0) (predict l i e.call).state es visits ended
      → Walk l due i (e ∷ es) (visit due i e ∷ visits) ended
  last : {due : ℕ} {i : Ideal} {e : Event} {es : List Event} (lent : List ℕ)
      → e.call ≡ Call.scan due lent → e.number ≡ 0 → get_or e.values 0 0 ≡ 0
      → Walk l due i (e ∷ es) (visit due i e ∷ []) true

-- the largest size that the smaller live table had at any visit
unfoldable pub largest : List Visit → ℕ
largest [] = 0
largest (v ∷ vs) = max v.size (largest vs)

unfoldable pub HeldAtEach : ℕ → List Visit → Type 0
HeldAtEach key [] = Unit {0}
HeldAtEach key (v ∷ vs) = In key v.held × HeldAtEach key vs

-- all that the visits hand out, one after the other
unfoldable pub keys_handed : List Visit → List ℕ
keys_handed [] = []
keys_handed (v ∷ vs) = v.handed ++ keys_handed vs

-- at most as many answered calls as that largest size, fewer while it has not ended; and once it has ended, every key held
-- at each of them has been handed out
pub record WalkHolds (visits : List Visit) (ended : Bool) : Type 0 where
  pub bound : ended ≡ true → length visits ≤ largest visits
  pub bound_so_far : ended ≡ false → 0 < length visits → length visits < largest visits
  pub covers : ended ≡ true → (key : ℕ) → HeldAtEach key visits → In key (keys_handed visits)

-- the ideal's unmoved keys are held, and none is listed twice
pub record Unmoved (i : Ideal) : Type 0 where
  pub held : (key : ℕ) → In key i.unmoved → In key (keys_of i.plain.pairs)
  pub once : Distinct i.unmoved

-- The store has what the ideal has: the pairs, the live tables, the current buffer, the next bucket to move, the permission,
-- the number of safe iterators, and each key in the table where the ideal has it; the ideal's unmoved keys are as said above;
-- and the buffers have those lengths.
pub record Matches (l : Lengths) (w : World) (i : Ideal) : Type 0 where
  pub contents : Holds w i.plain
  pub tables : tables_of w.state ≡ i.tables
  pub turned : w.state.second_is_current ≡ i.turned
  pub index : w.state.rehash_index ≡ i.index
  pub allowed : w.state.resize_allowed ≡ i.allowed
  pub iterators : w.state.safe_iterators ≡ i.iterators
  pub each_table : (key value : ℕ) (h : Held w key value) → h.table ≡ table_of i.tables i.unmoved key
  pub unmoved : Unmoved i
  pub lengths : lengths_of w ≡ l

-- For any calls, from a store on that has what the ideal has.
pub record SequenceHolds (does : World → Call → Outcome) (l : Lengths) (w : World) (i : Ideal) (calls : List Call) : Type 0 where
  pub undamaged : UndamagedAt (run does w calls)
  pub matches : Matches l (run does w calls) (replay l i calls)
  pub answers : Answered l i (events does w calls)
  pub walks : (visits : List Visit) (ended : Bool) → Walk l 0 i (events does w calls) visits ended → WalkHolds visits ended
  -- at any walk call, call that iterates or look that comes next, and so at every one of a sequence: the exact keys and
  -- their order; the table
  pub exact : (cursor : ℕ) (lent : List ℕ) → (does (run does w calls) (Call.scan cursor lent)).reply.number ≡ 0
      → HandsOut does (run does w calls) cursor lent
  pub exact_pass : (place : ℕ) (lent : List ℕ) → (does (run does w calls) (Call.iterate place lent)).reply.number ≡ 0
      → IteratesOut does (run does w calls) place lent
  pub look : (does (run does w calls) (Call.read ReadCall.current_table)).reply.values
      ≡ take (run does w calls).state.old_size (current (run does w calls))

-- A start, whatever the lent buffers hold. Its number goes by the limits and the lengths of the buffers alone, and it has no
-- values. If the number is 0, the store that it leaves is undamaged, and has what `begun` has, the ideal of a new store.
pub record Starts (does : World → Call → Outcome) (w : World) (capacity size : ℕ) : Type 0 where
  pub number : (does w (Call.init capacity size)).reply.number ≡ start_number (lengths_of w) capacity size
  pub values : (does w (Call.init capacity size)).reply.values ≡ []
  pub undamaged : (does w (Call.init capacity size)).reply.number ≡ 0
      → UndamagedAt (carry w (does w (Call.init capacity size)))
  pub matches : (does w (Call.init capacity size)).reply.number ≡ 0
      → Matches (lengths_of w) (carry w (does w (Call.init capacity size))) (begun capacity size)

-- `onward`: any calls, from any undamaged store on, whether a start leads to it or not. Every such store has what some ideal has
-- (`undamaged_ideal`, proofs/Contents). With `starts` that covers every sequence behind a start (`from_a_start`, proofs/Demand3).
pub record Demand3 (does : World → Call → Outcome) : Type 0 where
  pub starts : (w : World) (capacity size : ℕ) → Starts does w capacity size
  pub onward : (l : Lengths) (w : World) (i : Ideal) → UndamagedAt w → Matches l w i → (calls : List Call)
      → SequenceHolds does l w i calls
