-- SPECIFICATION, "Sequences of calls": the calls as one, histories of them, and the plain map.
use Rattle.std.specs.Prelude.{ℕ, zero, suc, Bool, cond, List, [], ◌∷◌, map, length, eqb}
use Rattle.std.proofs.Math.Option.{Option, none, some}
use Rattle.model.specs.declared.State.{State}
use Rattle.model.specs.Answers.{Reply, reply, init_reply, value_reply, done_reply, state_reply, step_reply, table_reply, scan_reply}
use Rattle.model.specs.Calls.{After}
use Rattle.model.specs.Calls as calls
use Rattle.model.specs.Walk.{AfterScan}
use Rattle.model.specs.Walk as walk
use Rattle.model.specs.Iterators as iterators

-- The calls, by what they do: find, change, add and delete name a key, and are what the plain map is fed; suggested size,
-- look, and an iterator's begin and end only read; the permission, and a safe iterator's begin and end, set a field of the
-- state. Walk calls and those that iterate only read too, and are lent a list besides the three buffers.

pub data KeyCall : Type 0 where
  find : KeyCall
  update : (value : ℕ) → KeyCall
  add : (value : ℕ) → KeyCall
  delete : KeyCall

pub data ReadCall : Type 0 where
  suggested_size : (growing : Bool) → ReadCall
  current_table : ReadCall
  begin_iterator : ReadCall
  end_iterator : (fingerprint : ℕ) → ReadCall

pub data StateCall : Type 0 where
  allow_resize : (allowed : Bool) → StateCall
  begin_safe : StateCall
  end_safe : StateCall

pub data Call : Type 0 where
  init : (capacity size : ℕ) → Call
  on : (key : ℕ) → KeyCall → Call
  resize : (size : ℕ) → Call
  rehash_step : Call
  scan : (cursor : ℕ) (lent : List ℕ) → Call
  iterate : (place : ℕ) (lent : List ℕ) → Call
  read : ReadCall → Call
  note : StateCall → Call

-- the state that the caller holds, and the three lent buffers
pub record World : Type 0 where
  pub state : State
  pub first : List ℕ
  pub second : List ℕ
  pub entries : List ℕ

unfoldable pub world : State → List ℕ → List ℕ → List ℕ → World
world state first second entries = record { state = state; first = first; second = second; entries = entries }

-- what a call answers and leaves; the lent list is empty where none is lent
pub record Outcome : Type 0 where
  pub reply : Reply State
  pub first : List ℕ
  pub second : List ℕ
  pub entries : List ℕ
  pub lent : List ℕ

-- a call that leaves the buffers, and that list
unfoldable pub kept : World → Reply State → List ℕ → Outcome
kept w reply lent = record { reply = reply; first = w.first; second = w.second; entries = w.entries; lent = lent }

unfoldable pub kept_scan : World → AfterScan → Outcome
kept_scan w (AfterScan.after answer lent) = kept w (scan_reply w.state answer) lent

unfoldable pub left : {A : Type 0} → (A → Reply State) → After A → Outcome
left reply (After.after answer first second entries) =
    record { reply = reply answer; first = first; second = second; entries = entries; lent = [] }

-- a call that takes a state, given a world's
unfoldable pub given : {A : Type 0} → World → (State → List ℕ → List ℕ → List ℕ → A) → A
given w call = call w.state w.first w.second w.entries

unfoldable pub perform : World → Call → Outcome
perform w (Call.init capacity size) = left init_reply (calls.init w.first w.second w.entries capacity size)
perform w (Call.on key KeyCall.find) = kept w (value_reply w.state (given w calls.find key)) []
perform w (Call.on key (KeyCall.update value)) = left (done_reply w.state) (given w calls.update key value)
perform w (Call.on key (KeyCall.add value)) = left (state_reply w.state) (given w calls.add key value)
perform w (Call.on key KeyCall.delete) = left (state_reply w.state) (given w calls.delete key)
perform w (Call.resize size) = left (state_reply w.state) (given w calls.resize size)
perform w Call.rehash_step = left (step_reply w.state) (given w calls.rehash_step)
perform w (Call.scan cursor lent) = kept_scan w (given w walk.scan lent cursor)
perform w (Call.iterate place lent) = kept_scan w (given w iterators.iterate lent place)
perform w (Call.read (ReadCall.suggested_size growing)) =
    kept w (value_reply w.state (given w calls.suggested_size growing)) []
perform w (Call.read ReadCall.current_table) = kept w (table_reply w.state (given w calls.current_table)) []
perform w (Call.read ReadCall.begin_iterator) = kept w (value_reply w.state (given w iterators.begin_iterator)) []
perform w (Call.read (ReadCall.end_iterator fingerprint)) =
    kept w (done_reply w.state (given w iterators.end_iterator fingerprint)) []
perform w (Call.note (StateCall.allow_resize allowed)) = kept w (state_reply w.state (given w calls.allow_resize allowed)) []
perform w (Call.note StateCall.begin_safe) = kept w (state_reply w.state (given w iterators.begin_safe)) []
perform w (Call.note StateCall.end_safe) = kept w (state_reply w.state (given w iterators.end_safe)) []

-- A history. Each call is lent the buffers as the one before left them, and given the state that came back from the
-- last call answered 0.

unfoldable pub carried_state : ℕ → State → State → State
carried_state zero before after = after
carried_state (suc number) before after = before

unfoldable pub carry : World → Outcome → World
carry w o = world (carried_state o.reply.number w.state o.reply.state) o.first o.second o.entries

-- any meaning of the calls, so that a history of another store is the same thing
unfoldable pub run : (World → Call → Outcome) → World → List Call → World
run does w [] = w
run does w (c ∷ cs) = run does (carry w (does w c)) cs

-- what an onlooker sees of one call: the call, its number and values, the lent list after
pub record Event : Type 0 where
  pub call : Call
  pub number : ℕ
  pub values : List ℕ
  pub lent : List ℕ

unfoldable pub event : Call → Outcome → Event
event c o = record { call = c; number = o.reply.number; values = o.reply.values; lent = o.lent }

unfoldable pub events : (World → Call → Outcome) → World → List Call → List Event
events does w [] = []
events does w (c ∷ cs) = event c (does w c) ∷ events does (carry w (does w c)) cs

-- The plain map: a capacity, and pairs of key and value. It is fed the calls' arguments, nothing from the store. What a start
-- does to it, which goes by the lengths of the lent buffers too, is said where those are known (refinement, `start_number`).

pub record Pair : Type 0 where
  pub key : ℕ
  pub value : ℕ

pub record PlainMap : Type 0 where
  pub capacity : ℕ
  pub pairs : List Pair

unfoldable pub keys_of : List Pair → List ℕ
keys_of ps = map (λ (p : Pair). p.key) ps

unfoldable pub value_for : ℕ → List Pair → Option ℕ
value_for key [] = none
value_for key (p ∷ ps) = cond (eqb p.key key) (some p.value) (value_for key ps)

unfoldable pub with_value : ℕ → ℕ → List Pair → List Pair
with_value key value [] = []
with_value key value (p ∷ ps) =
    cond (eqb p.key key) (record { key = key; value = value } ∷ ps) (p ∷ with_value key value ps)

unfoldable pub without : ℕ → List Pair → List Pair
without key [] = []
without key (p ∷ ps) = cond (eqb p.key key) ps (p ∷ without key ps)

unfoldable pub with_pairs : PlainMap → List Pair → PlainMap
with_pairs m ps = record { capacity = m.capacity; pairs = ps }

-- What the map answers, given the key's value in it, if it has one. A refusal changes nothing.
unfoldable pub map_answer : PlainMap → ℕ → KeyCall → Option ℕ → Reply PlainMap
map_answer m key KeyCall.find none = reply 3 (0 ∷ []) m
map_answer m key KeyCall.find (some held) = reply 0 (held ∷ []) m
map_answer m key (KeyCall.update value) none = reply 3 [] m
map_answer m key (KeyCall.update value) (some held) = reply 0 [] (with_pairs m (with_value key value m.pairs))
map_answer m key (KeyCall.add value) (some held) = reply 4 [] m
map_answer m key (KeyCall.add value) none =
    cond (eqb (length m.pairs) m.capacity)
    (reply 5 [] m)
    (reply 0 [] (with_pairs m (record { key = key; value = value } ∷ m.pairs)))
map_answer m key KeyCall.delete none = reply 3 [] m
map_answer m key KeyCall.delete (some held) = reply 0 [] (with_pairs m (without key m.pairs))

unfoldable pub map_does : PlainMap → ℕ → KeyCall → Reply PlainMap
map_does m key c = map_answer m key c (value_for key m.pairs)
