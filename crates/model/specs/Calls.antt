-- SPECIFICATION, "The calls": what each answers and leaves, for any state and any memory.
use Rattle.std.specs.Prelude.{ℕ, zero, suc, ◌+◌, ◌*◌, ◌-◌, ◌^◌, max, Bool, true, false, ◌&&◌, ◌||◌, not, cond, List, [], ◌∷◌, ◌++◌, length, get_or, set, take, drop, replicate, leb, ltb, eqb, Result, Ok, Err}
use Rattle.std.proofs.Math.Option.{Option, none, some}
use Rattle.model.specs.declared.State.{State}
use Rattle.model.specs.declared.Table.{Table}
use Rattle.model.specs.declared.Error.{Error}
use Rattle.model.specs.declared.Lookup.{Lookup}
use Rattle.model.specs.declared.Ahead.{Ahead}
use Rattle.model.specs.Keys.{bucket_of}
use Rattle.model.specs.Limits.{largest_exponent, legal_capacity, legal_size, empty_visits, least_suggestion, force_ratio}
use Rattle.model.specs.Memory.{link_of, key_of, value_of, set_link, set_key, set_value, set_entry, size_of, used_of, buckets_of, keys_held, sound_state, Place, key_place, chain_at}
use Rattle.model.specs.declared.Unstarted.{Unstarted}

-- What a call answers, and the three lent buffers after it: the first bucket buffer, the second, the entry buffer. For a
-- definition on the current and the other bucket buffer: the current, the other, the entry buffer.
pub data After (A : Type 0) : Type 0 where
  after : A → List ℕ → List ℕ → List ℕ → After A

-- A call that takes a state is defined on the current and the other bucket buffer, for a state that is sound. `reading` and
-- `writing` give it the lent buffers, by the state's flag, and refuse a state that is not.

unfoldable pub sound : State → List ℕ → List ℕ → List ℕ → Bool
sound s current other entries = sound_state (length current) (length other) (length entries) s

unfoldable pub oriented : {A : Type 0} → Bool → (List ℕ → List ℕ → A) → List ℕ → List ℕ → A
oriented false call first second = call first second
oriented true call first second = call second first

unfoldable pub checked : {A : Type 0} → State → List ℕ → (refused call : List ℕ → List ℕ → A) → List ℕ → List ℕ → A
checked s entries refused call current other = cond (sound s current other entries) (call current other) (refused current other)

unfoldable pub reading : {A : Type 0} → State → List ℕ → List ℕ → List ℕ → A → (List ℕ → List ℕ → A) → A
reading s first second entries refusal call = oriented s.second_is_current (checked s entries (λ current other. refusal) call) first second

-- the current and the other buffer back in the lent ones' places
unfoldable pub back : {A : Type 0} → Bool → After A → After A
back false a = a
back true (After.after answer current other entries) = After.after answer other current entries

unfoldable pub writing : {A : Type 0} → State → List ℕ → List ℕ → List ℕ → A → (List ℕ → List ℕ → After A) → After A
writing s first second entries refusal call =
    back s.second_is_current
    (oriented s.second_is_current (checked s entries (λ current other. After.after refusal current other entries) call)
    first second)

-- the buckets of one table changed
unfoldable pub changed : {A : Type 0} → Table → A → List ℕ → List ℕ → List ℕ → List ℕ → After A
changed Table.Old answer current other buckets entries = After.after answer buckets other entries
changed Table.New answer current other buckets entries = After.after answer current buckets entries

-- A state, its sizes and counts by the table.
unfoldable pub state_of : Bool → (Table → ℕ) → (Table → ℕ) → Bool → ℕ → ℕ → ℕ → Bool → ℕ → State
state_of second size used rehashing index free capacity allowed iterators =
    record {
      second_is_current = second;
      old_size = size Table.Old;
      new_size = size Table.New;
      old_used = used Table.Old;
      new_used = used Table.New;
      rehashing = rehashing;
      rehash_index = index;
      free_head = free;
      capacity = capacity;
      resize_allowed = allowed;
      safe_iterators = iterators;
    }

unfoldable pub old_new : ℕ → ℕ → Table → ℕ
old_new old new Table.Old = old
old_new old new Table.New = new

-- The state that a call leaves is one of four: one table with no keys, which may grow, and no safe iterator, ..
unfoldable pub empty_state : ℕ → ℕ → ℕ → State
empty_state size free capacity = state_of false (old_new size 0) (old_new 0 0) false 0 free capacity true 0

-- .. another free head and other counts, ..
unfoldable pub recounted : State → ℕ → (Table → ℕ) → State
recounted s free used =
    state_of s.second_is_current (size_of s) used s.rehashing s.rehash_index free s.capacity s.resize_allowed
    s.safe_iterators

-- .. other tables: the current buffer, the sizes, the counts, whether a rehash is under way, the next bucket
unfoldable pub retabled : State → Bool → (Table → ℕ) → (Table → ℕ) → Bool → ℕ → State
retabled s second size used rehashing index =
    state_of second size used rehashing index s.free_head s.capacity s.resize_allowed s.safe_iterators

-- .. or another permission to grow and another number of safe iterators, which say nothing of the memory
unfoldable pub noted : State → Bool → ℕ → State
noted s allowed iterators =
    state_of s.second_is_current (size_of s) (used_of s) s.rehashing s.rehash_index s.free_head s.capacity
    allowed iterators

-- Start

-- the first `size` numbers set to 0
unfoldable pub cleared : ℕ → List ℕ → List ℕ
cleared size buckets = replicate size 0 ++ drop size buckets

-- the link of entry n on the new free list, with that many entries behind it
unfoldable pub free_link : ℕ → ℕ → ℕ
free_link n zero = 0
free_link n (suc behind) = suc n

-- entries n, n + 1, .. of a new store, each linked to the next
unfoldable pub free_entries : ℕ → ℕ → List ℕ
free_entries n zero = []
free_entries n (suc behind) = free_link n behind ∷ 0 ∷ 0 ∷ free_entries (suc n) behind

-- what a refused start hands back
unfoldable pub no_state : State
no_state = state_of false (old_new 0 0) (old_new 0 0) false 0 0 0 false 0

-- the first bucket buffer and the entry buffer, by their lengths
unfoldable pub long_enough : ℕ → ℕ → ℕ → ℕ → Bool
long_enough capacity size first entries = leb size first && leb (capacity * 3) entries

unfoldable pub init : List ℕ → List ℕ → List ℕ → ℕ → ℕ → After (Result State Unstarted)
init first second entries capacity size =
    cond (legal_capacity capacity && legal_size size)
    (cond (long_enough capacity size (length first) (length entries))
    (After.after (Ok (empty_state size 1 capacity)) (cleared size first) second
    (free_entries 1 capacity ++ drop (capacity * 3) entries))
    (After.after (Err (record { error = Error.BadState; state = no_state })) first second entries))
    (After.after (Err (record { error = Error.BadSize; state = no_state })) first second entries)

-- Find, and what change, add and delete read

-- the first of these entries with the key; `before` is the entry before the first of them, 0 at the head
unfoldable pub first_with : List ℕ → ℕ → Table → ℕ → List ℕ → Lookup
first_with entries key t before [] = Lookup.Absent
first_with entries key t before (n ∷ ns) =
    cond (eqb (key_of entries n) key) (Lookup.At t before n) (first_with entries key t n ns)

unfoldable pub searched : List ℕ → ℕ → Table → ℕ → Option (List ℕ) → Lookup
searched entries key t before none = Lookup.Damaged
searched entries key t before (some ns) = first_with entries key t before ns

-- both chains must be sound, and the old table's comes first
unfoldable pub both : Lookup → Lookup → Lookup
both Lookup.Damaged new = Lookup.Damaged
both Lookup.Absent new = new
both (Lookup.At t before n) Lookup.Damaged = Lookup.Damaged
both (Lookup.At t before n) Lookup.Absent = Lookup.At t before n
both (Lookup.At t before n) (Lookup.At t' before' n') = Lookup.At t before n

unfoldable pub lookup_in : State → List ℕ → List ℕ → List ℕ → ℕ → Table → Lookup
lookup_in s current other entries key t = searched entries key t 0 (chain_at s current other entries (key_place s key t))

unfoldable pub lookup_while : Bool → State → List ℕ → List ℕ → List ℕ → ℕ → Lookup
lookup_while false s current other entries key = lookup_in s current other entries key Table.Old
lookup_while true s current other entries key =
    both (lookup_in s current other entries key Table.Old) (lookup_in s current other entries key Table.New)

unfoldable pub lookup : State → List ℕ → List ℕ → List ℕ → ℕ → Lookup
lookup s current other entries key = lookup_while s.rehashing s current other entries key

-- find, change and delete are refused where the key is not found
unfoldable pub held : {A : Type 0} → (Error → A) → (Table → ℕ → ℕ → A) → Lookup → A
held refused call Lookup.Damaged = refused Error.Damaged
held refused call Lookup.Absent = refused Error.Absent
held refused call (Lookup.At t before n) = call t before n

unfoldable pub found : List ℕ → Lookup → Result ℕ Error
found entries l = held Err (λ t before n. Ok (value_of entries n)) l

unfoldable pub find : State → List ℕ → List ℕ → List ℕ → ℕ → Result ℕ Error
find s first second entries key =
    reading s first second entries (Err Error.BadState)
    (λ current other. found entries (lookup s current other entries key))

-- Change

unfoldable pub updated : List ℕ → List ℕ → List ℕ → ℕ → Lookup → After (Result (Unit {0}) Error)
updated current other entries value l =
    held (λ e. After.after (Err e) current other entries)
    (λ t before n. After.after (Ok tt) current other (set_value entries n value)) l

unfoldable pub update : State → List ℕ → List ℕ → List ℕ → ℕ → ℕ → After (Result (Unit {0}) Error)
update s first second entries key value =
    writing s first second entries (Err Error.BadState)
    (λ current other. updated current other entries value (lookup s current other entries key))

-- Add

-- a table's buckets, and the entries on their chains
pub record Chains : Type 0 where
  pub buckets : List ℕ
  pub entries : List ℕ

-- entry n at the head of bucket b
unfoldable pub push : ℕ → ℕ → Chains → Chains
push b n m = record { buckets = set m.buckets b n; entries = set_link m.entries n (get_or m.buckets b 0) }

-- the keys that each table holds, with another count for one
unfoldable pub with_count : State → Table → ℕ → Table → ℕ
with_count s Table.Old count = old_new count s.new_used
with_count s Table.New count = old_new s.old_used count

-- the first free entry, with the key and the value, at the head of the key's bucket in a table
unfoldable pub pushed : State → List ℕ → List ℕ → List ℕ → ℕ → ℕ → Table → After (Result State Error)
pushed s current other entries key value t =
    let n = s.free_head in
    let m = push (bucket_of key (size_of s t)) n (record { buckets = buckets_of current other t; entries = entries }) in
    changed t (Ok (recounted s (link_of entries n) (with_count s t (used_of s t + 1)))) current other
    m.buckets (set_value (set_key m.entries n key) n value)

-- the table that keys are added to
unfoldable pub target : Bool → Table
target false = Table.Old
target true = Table.New

-- the first free entry can be taken: there is one, and its link is in range
unfoldable pub takeable : State → List ℕ → Bool
takeable s entries = not (eqb s.free_head 0) && leb (link_of entries s.free_head) s.capacity

unfoldable pub added : State → List ℕ → List ℕ → List ℕ → ℕ → ℕ → Lookup → After (Result State Error)
added s current other entries key value Lookup.Damaged =
    After.after (Err Error.Damaged) current other entries
added s current other entries key value (Lookup.At t before n) =
    After.after (Err Error.Present) current other entries
added s current other entries key value Lookup.Absent =
    cond (eqb (keys_held s) s.capacity)
    (After.after (Err Error.Full) current other entries)
    (cond (takeable s entries)
    (pushed s current other entries key value (target s.rehashing))
    (After.after (Err Error.Damaged) current other entries))

-- add alone, with no step
unfoldable pub add_alone : State → List ℕ → List ℕ → List ℕ → ℕ → ℕ → After (Result State Error)
add_alone s first second entries key value =
    writing s first second entries (Err Error.BadState)
    (λ current other. added s current other entries key value (lookup s current other entries key))

-- Delete

-- entry n off its chain, where it stands behind another entry or at the head of bucket b: the table, and the entries
unfoldable pub unlink_bucket : List ℕ → List ℕ → ℕ → ℕ → ℕ → List ℕ
unlink_bucket buckets entries b zero n = set buckets b (link_of entries n)
unlink_bucket buckets entries b (suc before) n = buckets

unfoldable pub unlink_entry : List ℕ → ℕ → ℕ → List ℕ
unlink_entry entries before n = set_link entries before (link_of entries n)

-- the entry at the head of the free list, its key and value zeroed
unfoldable pub removed : State → List ℕ → List ℕ → List ℕ → ℕ → Table → ℕ → ℕ → After (Result State Error)
removed s current other entries key t before n =
    changed t (Ok (recounted s n (with_count s t (used_of s t - 1)))) current other
    (unlink_bucket (buckets_of current other t) entries (bucket_of key (size_of s t)) before n)
    (set_entry (unlink_entry entries before n) n s.free_head 0 0)

unfoldable pub deleted : State → List ℕ → List ℕ → List ℕ → ℕ → Lookup → After (Result State Error)
deleted s current other entries key l =
    held (λ e. After.after (Err e) current other entries) (removed s current other entries key) l

-- delete alone, with no step
unfoldable pub delete_alone : State → List ℕ → List ℕ → List ℕ → ℕ → After (Result State Error)
delete_alone s first second entries key =
    writing s first second entries (Err Error.BadState)
    (λ current other. deleted s current other entries key (lookup s current other entries key))

-- Resize

-- a legal size, not the present one, for which the other buffer is long enough
unfoldable pub acceptable : ℕ → ℕ → ℕ → Bool
acceptable present other size = legal_size size && not (eqb size present) && leb size other

unfoldable pub resizing : State → ℕ → State
resizing s size =
    retabled s s.second_is_current (old_new s.old_size size) (old_new s.old_used 0) true 0

unfoldable pub resized : State → List ℕ → List ℕ → List ℕ → ℕ → Bool → After (Result State Error)
resized s current other entries size true = After.after (Err Error.Rehashing) current other entries
resized s current other entries size false =
    cond (acceptable s.old_size (length other) size)
    (After.after (Ok (resizing s size)) current (cleared size other) entries)
    (After.after (Err Error.BadSize) current other entries)

unfoldable pub resize : State → List ℕ → List ℕ → List ℕ → ℕ → After (Result State Error)
resize s first second entries size =
    writing s first second entries (Err Error.BadState)
    (λ current other. resized s current other entries size s.rehashing)

-- Step

-- what comes from bucket b on, where the table has `left` buckets from there and `passes` empty ones may still be passed
unfoldable pub ahead : List ℕ → ℕ → ℕ → ℕ → Ahead
ahead buckets b zero passes = Ahead.End
ahead buckets b (suc left) zero = Ahead.Empty b
ahead buckets b (suc left) (suc passes) =
    cond (eqb (get_or buckets b 0) 0) (ahead buckets (suc b) left passes) (Ahead.Filled b)

-- the entries of a chain, in turn, each put at the head of its bucket in a table of that size
unfoldable pub moved : ℕ → List ℕ → Chains → Chains
moved size [] m = m
moved size (n ∷ ns) m = moved size ns (push (bucket_of (key_of m.entries n) size) n m)

-- once so many keys have moved, and that bucket is the next one
unfoldable pub advanced : State → ℕ → ℕ → State
advanced s count next =
    retabled s s.second_is_current (size_of s) (old_new (s.old_used - count) (s.new_used + count)) true next

-- the new table becomes the only one
unfoldable pub finished : State → State
finished s =
    retabled s (not s.second_is_current) (old_new s.new_size 0) (old_new s.new_used 0) false 0

-- a step that leaves no keys in the old table ends the rehash
unfoldable pub settled : State → State
settled s = cond (eqb s.old_used 0) (finished s) s

-- what it answers then
unfoldable pub step_done : State → ℕ → ℕ → Result (ℕ × State) Error
step_done s count next = Ok (count, (settled (advanced s count next)))

unfoldable pub moved_chain : State → List ℕ → List ℕ → List ℕ → ℕ → Option (List ℕ) → After (Result (ℕ × State) Error)
moved_chain s current other entries b none = After.after (Err Error.Damaged) current other entries
moved_chain s current other entries b (some ns) =
    let m = moved s.new_size ns (record { buckets = other; entries = entries }) in
    After.after (step_done s (length ns) (suc b)) (set current b 0) m.buckets m.entries

unfoldable pub moved_from : State → List ℕ → List ℕ → List ℕ → Ahead → After (Result (ℕ × State) Error)
moved_from s current other entries Ahead.End = After.after (Err Error.Damaged) current other entries
moved_from s current other entries (Ahead.Empty b) = After.after (step_done s 0 b) current other entries
moved_from s current other entries (Ahead.Filled b) =
    moved_chain s current other entries b (chain_at s current other entries (Place.bucket Table.Old b))

unfoldable pub ahead_of : State → List ℕ → Ahead
ahead_of s current = ahead current s.rehash_index (s.old_size - s.rehash_index) empty_visits

-- during a rehash, with no safe iterator
unfoldable pub step_taken : State → List ℕ → List ℕ → List ℕ → After (Result (ℕ × State) Error)
step_taken s current other entries =
    cond (eqb s.old_used 0)
    (After.after (step_done s 0 s.rehash_index) current other entries)
    (moved_from s current other entries (ahead_of s current))

-- safe iterators hold up the rehash
unfoldable pub paused : State → Bool
paused s = ltb 0 s.safe_iterators

unfoldable pub stepped : State → List ℕ → List ℕ → List ℕ → Bool → After (Result (ℕ × State) Error)
stepped s current other entries false = After.after (Err Error.NotRehashing) current other entries
stepped s current other entries true =
    cond (paused s)
    (After.after (Err Error.Paused) current other entries)
    (step_taken s current other entries)

unfoldable pub rehash_step : State → List ℕ → List ℕ → List ℕ → After (Result (ℕ × State) Error)
rehash_step s first second entries =
    writing s first second entries (Err Error.BadState)
    (λ current other. stepped s current other entries s.rehashing)

-- The step that comes first: add and delete during a rehash that is not held up

-- what an answered call leaves; a refused one leaves these buffers
unfoldable pub unless_refused : {A : Type 0} → (A → Bool) → List ℕ → List ℕ → List ℕ → After A → After A
unless_refused done first second entries (After.after answer x y z) =
    cond (done answer) (After.after answer x y z) (After.after answer first second entries)

-- a call on what a step leaves. If the step or the call refuses, that is the answer, and all is as before both.
unfoldable pub call_after : {A : Type 0} → (Error → A) → (A → Bool) → (State → List ℕ → List ℕ → List ℕ → After A)
    → List ℕ → List ℕ → List ℕ → After (Result (ℕ × State) Error) → After A
call_after refused done call first second entries (After.after (Err e) x y z) =
    After.after (refused e) first second entries
call_after refused done call first second entries (After.after (Ok (count, t)) x y z) =
    unless_refused done first second entries (call t x y z)

unfoldable pub step_due : State → Bool
step_due s = s.rehashing && not (paused s)

unfoldable pub step_first : {A : Type 0} → (Error → A) → (A → Bool) → (State → List ℕ → List ℕ → List ℕ → After A)
    → State → List ℕ → List ℕ → List ℕ → After A
step_first refused done call s first second entries =
    cond (step_due s)
    (call_after refused done call first second entries (rehash_step s first second entries))
    (call s first second entries)

unfoldable pub is_added : Result State Error → Bool
is_added (Ok t) = true
is_added (Err e) = false

-- add with its step, before any growth
unfoldable pub add_after_step : State → List ℕ → List ℕ → List ℕ → ℕ → ℕ → After (Result State Error)
add_after_step s first second entries key value =
    step_first Err is_added (λ t x y z. add_alone t x y z key value) s first second entries

unfoldable pub is_deleted : Result State Error → Bool
is_deleted (Ok t) = true
is_deleted (Err e) = false

unfoldable pub delete : State → List ℕ → List ℕ → List ℕ → ℕ → After (Result State Error)
delete s first second entries key =
    step_first Err is_deleted (λ t x y z. delete_alone t x y z key) s first second entries

-- Suggested size

-- the smallest power of two from 2^b to 2^(b + left) that is not below n, or else the last of these
unfoldable pub power_from : ℕ → ℕ → ℕ → ℕ
power_from b zero n = 2 ^ b
power_from b (suc left) n = cond (leb n (2 ^ b)) (2 ^ b) (power_from (suc b) left n)

-- the smallest power of two that is below neither n nor the least suggestion, or else the largest size
unfoldable pub size_for : ℕ → ℕ
size_for n = power_from 0 largest_exponent (max least_suggestion n)

unfoldable pub suggested : Bool → ℕ → ℕ
suggested true keys = size_for (keys * 2)
suggested false keys = size_for keys

unfoldable pub suggested_size : State → List ℕ → List ℕ → List ℕ → Bool → Result ℕ Error
suggested_size s first second entries growing =
    reading s first second entries (Err Error.BadState)
    (λ current other. Ok (suggested growing (keys_held s)))

-- Growth: the resize that may follow an add

-- so many keys are too many for a table of that size: as many as it has buckets, where growth is allowed, or more than so
-- many times that
unfoldable pub crowded : Bool → ℕ → ℕ → Bool
crowded allowed size keys = (allowed && leb size keys) || ltb (size * force_ratio) keys

-- .. and the suggested size is above that one
unfoldable pub growth_due : Bool → ℕ → ℕ → Bool
growth_due allowed size keys = crowded allowed size keys && ltb size (suggested true keys)

-- an add is answered, whatever the resize behind it answers
unfoldable pub grown_by : State → After (Result State Error) → After (Result State Error)
grown_by s (After.after (Ok t) first second entries) = After.after (Ok t) first second entries
grown_by s (After.after (Err e) first second entries) = After.after (Ok s) first second entries

-- on what an answered add left: with one table
unfoldable pub grown : State → List ℕ → List ℕ → List ℕ → After (Result State Error)
grown s first second entries =
    cond (not s.rehashing && growth_due s.resize_allowed s.old_size (keys_held s))
    (grown_by s (resize s first second entries (suggested true (keys_held s))))
    (After.after (Ok s) first second entries)

unfoldable pub then_grown : After (Result State Error) → After (Result State Error)
then_grown (After.after (Err e) first second entries) = After.after (Err e) first second entries
then_grown (After.after (Ok s) first second entries) = grown s first second entries

unfoldable pub add : State → List ℕ → List ℕ → List ℕ → ℕ → ℕ → After (Result State Error)
add s first second entries key value = then_grown (add_after_step s first second entries key value)

-- Permission to grow

unfoldable pub allow_resize : State → List ℕ → List ℕ → List ℕ → Bool → Result State Error
allow_resize s first second entries allowed =
    reading s first second entries (Err Error.BadState)
    (λ current other. Ok (noted s allowed s.safe_iterators))

-- Look

unfoldable pub current_table : State → List ℕ → List ℕ → List ℕ → List ℕ
current_table s first second entries =
    reading s first second entries [] (λ current other. take s.old_size current)
