-- SPECIFICATION, "Calls over bytes": what an export answers and leaves, for any bytes.
use Rattle.std.specs.Prelude.{ℕ, zero, suc, ◌/◌, ◌%◌, ◌^◌, Bool, ◌&&◌, cond, List, [], ◌∷◌, length, get_or, leb, eqb}
use Rattle.little_endian.specs.Words.{decode, encode}
use Rattle.model.specs.declared.State.{State}
use Rattle.model.specs.Sequences.{KeyCall, ReadCall, StateCall, Call, World, world, Outcome, perform}

-- the bytes lent to an export; the list is empty where a call takes none
pub data Lent : Type 0 where
  lent : (state first second entries list answer : List ℕ) → Lent

-- the number that is returned, and what was lent as it is then
pub data Done : Type 0 where
  done : ℕ → Lent → Done

-- The state: its fields as numbers, in their order, and the state of such numbers.

unfoldable pub flag : Bool → ℕ
flag on = cond on 1 0

unfoldable pub state_numbers : State → List ℕ
state_numbers s =
    flag s.second_is_current
    ∷ s.old_size
    ∷ s.new_size
    ∷ s.old_used
    ∷ s.new_used
    ∷ flag s.rehashing
    ∷ s.rehash_index
    ∷ s.free_head
    ∷ s.capacity
    ∷ flag s.resize_allowed
    ∷ s.safe_iterators
    ∷ []

unfoldable pub state_from : List ℕ → State
state_from ns =
    record {
      second_is_current = eqb (get_or ns 0 0) 1;
      old_size = get_or ns 1 0;
      new_size = get_or ns 2 0;
      old_used = get_or ns 3 0;
      new_used = get_or ns 4 0;
      rehashing = eqb (get_or ns 5 0) 1;
      rehash_index = get_or ns 6 0;
      free_head = get_or ns 7 0;
      capacity = get_or ns 8 0;
      resize_allowed = eqb (get_or ns 9 0) 1;
      safe_iterators = get_or ns 10 0;
    }

-- The answer: two results, 0 for one that there is not. One result alone may have 64 bits, as the fingerprint has.
unfoldable pub results : List ℕ → List ℕ
results [] = 0 ∷ 0 ∷ []
results (one ∷ []) = one % 2 ^ 32 ∷ one / 2 ^ 32 ∷ []
results (one ∷ two ∷ more) = one ∷ two ∷ []

-- The first check.

unfoldable pub state_bytes : ℕ
state_bytes = 44

unfoldable pub answer_bytes : ℕ
answer_bytes = 8

unfoldable pub most_bucket_bytes : ℕ
most_bucket_bytes = 16384

unfoldable pub most_entry_bytes : ℕ
most_entry_bytes = 49152

-- divisible by four, and at most so many bytes
unfoldable pub whole_up_to : ℕ → ℕ → Bool
whole_up_to most bytes = eqb (bytes % 4) 0 && leb bytes most

unfoldable pub lengths_fit : (state first second entries list answer : ℕ) → Bool
lengths_fit state first second entries list answer =
    eqb state state_bytes
    && eqb answer answer_bytes
    && whole_up_to most_bucket_bytes first
    && whole_up_to most_bucket_bytes second
    && whole_up_to most_entry_bytes entries
    && eqb (list % 4) 0

-- of the state's numbers: second_is_current, rehashing, resize_allowed
unfoldable pub flags_fit : List ℕ → Bool
flags_fit ns = leb (get_or ns 0 0) 1 && leb (get_or ns 5 0) 1 && leb (get_or ns 9 0) 1

-- what it refuses: all stays, but for an answer of eight bytes
unfoldable pub cleared : List ℕ → List ℕ
cleared answer = cond (eqb (length answer) answer_bytes) (encode (results [])) answer

unfoldable pub refused : Lent → Done
refused (Lent.lent state first second entries list answer) =
    Done.done 1 (Lent.lent state first second entries list (cleared answer))

-- The call: the numbers that it is given, and what it answers and leaves, as bytes.

unfoldable pub world_from : (state first second entries : List ℕ) → World
world_from state first second entries =
    world (state_from (decode state)) (decode first) (decode second) (decode entries)

unfoldable pub written : List ℕ → Outcome → Done
written state o =
    Done.done o.reply.number
    (Lent.lent state (encode o.first) (encode o.second) (encode o.entries) (encode o.lent)
    (encode (results o.reply.values)))

-- Every call but start. The call is given the list's numbers, if it takes a list.

unfoldable pub exported_list : (List ℕ → Call) → Lent → Done
exported_list call (Lent.lent state first second entries list answer) =
    let o : Outcome = perform (world_from state first second entries) (call (decode list)) in
    cond (lengths_fit (length state) (length first) (length second) (length entries) (length list) (length answer)
    && flags_fit (decode state))
    (written (encode (state_numbers o.reply.state)) o)
    (refused (Lent.lent state first second entries list answer))

unfoldable pub exported_call : Call → Lent → Done
exported_call call = exported_list (λ list. call)

-- a call that takes a flag, given as a number
unfoldable pub exported_flag : (Bool → Call) → ℕ → Lent → Done
exported_flag call on l = cond (leb on 1) (exported_call (call (eqb on 1)) l) (refused l)

-- A start reads no state (`perform` takes none at `Call.init`), and writes one only where it is answered 0.

unfoldable pub started_state : ℕ → List ℕ → List ℕ → List ℕ
started_state zero before after = after
started_state (suc number) before after = before

unfoldable pub exported_init : (capacity size : ℕ) → Lent → Done
exported_init capacity size (Lent.lent state first second entries list answer) =
    let o : Outcome = perform (world_from state first second entries) (Call.init capacity size) in
    cond (lengths_fit (length state) (length first) (length second) (length entries) (length list) (length answer))
    (written (started_state o.reply.number state (encode (state_numbers o.reply.state))) o)
    (refused (Lent.lent state first second entries list answer))

-- The exports, with their numbers, and what each is.

pub data Export : Type 0 where
  init : (capacity size : ℕ) → Export
  find : (key : ℕ) → Export
  update : (key value : ℕ) → Export
  add : (key value : ℕ) → Export
  delete : (key : ℕ) → Export
  resize : (size : ℕ) → Export
  rehash_step : Export
  scan : (cursor : ℕ) → Export
  iterate : (place : ℕ) → Export
  begin_iterator : Export
  end_iterator : (fingerprint : ℕ) → Export
  begin_safe : Export
  end_safe : Export
  suggested_size : (growing : ℕ) → Export
  allow_resize : (allowed : ℕ) → Export

abbrev pub exported : Export → Lent → Done
exported (Export.init capacity size) = exported_init capacity size
exported (Export.find key) = exported_call (Call.on key KeyCall.find)
exported (Export.update key value) = exported_call (Call.on key (KeyCall.update value))
exported (Export.add key value) = exported_call (Call.on key (KeyCall.add value))
exported (Export.delete key) = exported_call (Call.on key KeyCall.delete)
exported (Export.resize size) = exported_call (Call.resize size)
exported Export.rehash_step = exported_call Call.rehash_step
exported (Export.scan cursor) = exported_list (Call.scan cursor)
exported (Export.iterate place) = exported_list (Call.iterate place)
exported Export.begin_iterator = exported_call (Call.read ReadCall.begin_iterator)
exported (Export.end_iterator fingerprint) = exported_call (Call.read (ReadCall.end_iterator fingerprint))
exported Export.begin_safe = exported_call (Call.note StateCall.begin_safe)
exported Export.end_safe = exported_call (Call.note StateCall.end_safe)
exported (Export.suggested_size growing) = exported_flag (λ on. Call.read (ReadCall.suggested_size on)) growing
exported (Export.allow_resize allowed) = exported_flag (λ on. Call.note (StateCall.allow_resize on)) allowed
