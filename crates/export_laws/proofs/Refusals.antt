-- A refusal leaves every byte but the answer's: from demand 1, and since bytes are those of the numbers that they are.
-- Assumes nothing.
use Prim.Native.Nat.{ℕ, zero, suc, ◌/◌}
use native.Mathlib.Omega.{arith}
use mathlib.Core.Path.{◌≡◌, refl, sym, ap, ◌∙◌}
use mathlib.Core.Bool.{Bool, true, false, ◌&&◌, cond}
use mathlib.Core.List.{List, []}
use lib.ListN.{length}
use lib.Dec.{leb, eqb}
use Rattle.little_endian.specs.Words.{decode, encode}
use Rattle.little_endian.specs.Reading.{Decoded}
use Rattle.little_endian.proofs.Laws.{encode_decode}
use Rattle.model.specs.declared.State.{State}
use Rattle.model.specs.Answers.{Reply, reply}
use Rattle.model.specs.Sequences.{KeyCall, ReadCall, StateCall, Call, World, world, Outcome, kept, perform}
use Rattle.lent_bytes.specs.Exports.{Lent, state_numbers, state_from, lengths_fit, state_bytes, flags_fit, refused, world_from, written, started_state, exported_call, exported_list, exported_flag, exported_init, Export, exported}
use Rattle.lent_bytes.specs.Checked.{Lengths, Checked}
use Rattle.lent_bytes.proofs.Checks.{lengths, checked}
use Rattle.lent_bytes.proofs.Undoing.{state_read}
use Rattle.refinement.specs.Demand1.{LeavesAll, LeavesList, Leaves}
use Rattle.refinement.proofs.Demand1.{demand1}
use Rattle.export_laws.specs.Refusals.{Slices, ListFor, Stays, Refusals}

-- a call that, refused, hands back the state that it was given, and leaves that list
abbrev Returns : Call → List ℕ → Type 0
Returns c ns = (w : World) (o : Outcome) → LeavesAll w c o → (values : List ℕ) × (o ≡ kept w (reply o.reply.number values w.state) ns)

module _ (state first second entries list answer : List ℕ) (b : Slices state first second entries list) where
  abbrev w : World
  w = world_from state first second entries

  module _ (k : Lengths (length state) (length first) (length second) (length entries) (length list) (length answer)) where
    first_back : encode (decode first) ≡ first
    first_back = encode_decode (length first / 4) first k.first_whole.whole b.first_bytes

    second_back : encode (decode second) ≡ second
    second_back = encode_decode (length second / 4) second k.second_whole.whole b.second_bytes

    entries_back : encode (decode entries) ≡ entries
    entries_back = encode_decode (length entries / 4) entries k.entries_whole.whole b.entries_bytes

    list_back : encode (decode list) ≡ list
    list_back = encode_decode (length list / 4) list k.list_whole b.list_bytes

    stays_kept : (state' ns : List ℕ) (r : Reply State) (o : Outcome) → o ≡ kept w r ns → state' ≡ state → encode ns ≡ list
        → Stays state first second entries list (written state' o)
    unfolding Stays written kept world_from world
    stays_kept state' ns r o e s l n =
        let f : encode o.first ≡ first = ap (λ (p : Outcome). encode p.first) e ∙ first_back in
        let g : encode o.second ≡ second = ap (λ (p : Outcome). encode p.second) e ∙ second_back in
        let h : encode o.entries ≡ entries = ap (λ (p : Outcome). encode p.entries) e ∙ entries_back in
        let m : encode o.lent ≡ list = ap (λ (p : Outcome). encode p.lent) e ∙ l in
        rw (s, f, g, h, m)

  stays_refused : Stays state first second entries list (refused (Lent.lent state first second entries list answer))
  unfolding Stays refused
  stays_refused n = refl

  -- every call but a start
  module _ (k : Checked state (length first) (length second) (length entries) (length list) (length answer)) where
    state_back : encode (state_numbers (state_from (decode state))) ≡ state
    unfolding state_bytes
    state_back =
        let d : Decoded state (decode state) =
        record { read = refl; back = sym (encode_decode (length state / 4) state (omega (arith, k.fits.has_all_bytes)) b.state_has_bytes) } in
        sym (state_read state (decode state) k.fits d).back

    stays_called : (c : Call) → Returns c (decode list)
        → Stays state first second entries list (written (encode (state_numbers (perform w c).reply.state)) (perform w c))
    unfolding Stays written kept reply world_from world
    stays_called c leaves n =
        let o : Outcome = perform w c in
        let (values, e) = leaves w o (demand1.refusals w c n) in
        let s : encode (state_numbers o.reply.state) ≡ state =
        ap (λ (p : Outcome). encode (state_numbers p.reply.state)) e ∙ state_back in
        stays_kept k.lengths (encode (state_numbers o.reply.state)) (decode list)
        (reply o.reply.number values w.state) o e s (list_back k.lengths) n

  stays_call : (call : List ℕ → Call) → Returns (call (decode list)) (decode list)
      → Stays state first second entries list (exported_list call (Lent.lent state first second entries list answer))
  unfolding exported_list
  stays_call call leaves =
      by
      (lengths_fit (length state) (length first) (length second) (length entries) (length list) (length answer)
      && flags_fit (decode state)) refl
    where
      o : Outcome
      o = perform w (call (decode list))

      by : (t : Bool)
          → t
          ≡ (lengths_fit (length state) (length first) (length second) (length entries) (length list) (length answer)
          && flags_fit (decode state))
          → Stays state first second entries list
          (cond t (written (encode (state_numbers o.reply.state)) o) (refused (Lent.lent state first second entries list answer)))
      by false q = stays_refused
      by true q =
          stays_called (checked state (length first) (length second) (length entries) (length list) (length answer) true q refl)
          (call (decode list)) leaves

  -- a call with no list, and one with a flag
  stays_plain : (c : Call) → Returns c [] → list ≡ []
      → Stays state first second entries list (exported_call c (Lent.lent state first second entries list answer))
  unfolding exported_call decode
  stays_plain c leaves l =
      stays_call (λ list. c) (λ w o h. let (values, e) = leaves w o h in (values, rw (ap decode l) e))

  stays_flag : (call : Bool → Call) (on : ℕ) → ((b : Bool) → Returns (call b) []) → list ≡ []
      → Stays state first second entries list (exported_flag call on (Lent.lent state first second entries list answer))
  unfolding exported_flag
  stays_flag call on leaves l = by (leb on 1)
    where
      by : (t : Bool)
          → Stays state first second entries list
          (cond t (exported_call (call (eqb on 1)) (Lent.lent state first second entries list answer))
          (refused (Lent.lent state first second entries list answer)))
      by true = stays_plain (call (eqb on 1)) (leaves (eqb on 1)) l
      by false = stays_refused

  -- a start
  kept_state : (n : ℕ) (after : List ℕ) → ¬ (n ≡ 0) → started_state n state after ≡ state
  unfolding started_state
  kept_state zero after h = absurd (h refl)
  kept_state (suc n) after h = refl

  stays_started : (capacity size : ℕ) → list ≡ []
      → Lengths (length state) (length first) (length second) (length entries) (length list) (length answer)
      → (o : Outcome) → o ≡ perform w (Call.init capacity size)
      → Stays state first second entries list
      (written (started_state o.reply.number state (encode (state_numbers o.reply.state))) o)
  unfolding Stays written LeavesAll Leaves decode
  stays_started capacity size l k o q n =
      let e = demand1.refusals w (Call.init capacity size) (rw q at n) in
      stays_kept k (started_state o.reply.number state (encode (state_numbers o.reply.state))) [] _ o (q ∙ e)
      (kept_state o.reply.number (encode (state_numbers o.reply.state)) n) (sym (ap encode (ap decode l)) ∙ list_back k) n

  stays_init : (capacity size : ℕ) → list ≡ []
      → Stays state first second entries list (exported_init capacity size (Lent.lent state first second entries list answer))
  unfolding exported_init
  stays_init capacity size l =
      by (lengths_fit (length state) (length first) (length second) (length entries) (length list) (length answer)) refl
    where
      o : Outcome
      o = perform w (Call.init capacity size)

      by : (t : Bool) → t ≡ lengths_fit (length state) (length first) (length second) (length entries) (length list) (length answer)
          → Stays state first second entries list
          (cond t (written (started_state o.reply.number state (encode (state_numbers o.reply.state))) o)
          (refused (Lent.lent state first second entries list answer)))
      by false q = stays_refused
      by true q =
          stays_started capacity size l
          (lengths (length state) (length first) (length second) (length entries) (length list) (length answer) true q refl) o refl

-- what demand 1 says of each

returns_on : (key : ℕ) (c : KeyCall) → Returns (Call.on key c) []
unfolding LeavesAll Leaves
returns_on key c w o l = (_, l)

returns_resize : (size : ℕ) → Returns (Call.resize size) []
unfolding LeavesAll Leaves
returns_resize size w o l = (_, l)

returns_step : Returns Call.rehash_step []
unfolding LeavesAll Leaves
returns_step w o l = (_, l)

returns_read : (c : ReadCall) → Returns (Call.read c) []
unfolding LeavesAll Leaves
returns_read c w o l = (_, l)

returns_note : (c : StateCall) → Returns (Call.note c) []
unfolding LeavesAll Leaves
returns_note c w o l = (_, l)

returns_scan : (cursor : ℕ) (list : List ℕ) → Returns (Call.scan cursor list) list
unfolding LeavesAll LeavesList Leaves
returns_scan cursor list w o (count, due, l) = (_, l)

returns_iterate : (place : ℕ) (list : List ℕ) → Returns (Call.iterate place list) list
unfolding LeavesAll LeavesList Leaves
returns_iterate place list w o (count, due, l) = (_, l)

pub refusals : Refusals exported
unfolding ListFor
refusals (Export.init capacity size) f g h i list a b l = stays_init f g h i list a b capacity size l
refusals (Export.find key) f g h i list a b l = stays_plain f g h i list a b (Call.on key KeyCall.find) (returns_on key KeyCall.find) l
refusals (Export.update key value) f g h i list a b l = stays_plain f g h i list a b (Call.on key (KeyCall.update value)) (returns_on key (KeyCall.update value)) l
refusals (Export.add key value) f g h i list a b l = stays_plain f g h i list a b (Call.on key (KeyCall.add value)) (returns_on key (KeyCall.add value)) l
refusals (Export.delete key) f g h i list a b l = stays_plain f g h i list a b (Call.on key KeyCall.delete) (returns_on key KeyCall.delete) l
refusals (Export.resize size) f g h i list a b l = stays_plain f g h i list a b (Call.resize size) (returns_resize size) l
refusals Export.rehash_step f g h i list a b l = stays_plain f g h i list a b Call.rehash_step returns_step l
refusals (Export.scan cursor) f g h i list a b l = stays_call f g h i list a b (Call.scan cursor) (returns_scan cursor (decode list))
refusals (Export.iterate place) f g h i list a b l =
    stays_call f g h i list a b (Call.iterate place) (returns_iterate place (decode list))
refusals Export.begin_iterator f g h i list a b l = stays_plain f g h i list a b (Call.read ReadCall.begin_iterator) (returns_read _) l
refusals (Export.end_iterator print) f g h i list a b l =
    stays_plain f g h i list a b (Call.read (ReadCall.end_iterator print)) (returns_read _) l
refusals Export.begin_safe f g h i list a b l = stays_plain f g h i list a b (Call.note StateCall.begin_safe) (returns_note _) l
refusals Export.end_safe f g h i list a b l = stays_plain f g h i list a b (Call.note StateCall.end_safe) (returns_note _) l
refusals (Export.suggested_size growing) f g h i list a b l =
    stays_flag f g h i list a b (λ on. Call.read (ReadCall.suggested_size on)) growing (λ on. returns_read (ReadCall.suggested_size on)) l
refusals (Export.allow_resize allowed) f g h i list a b l =
    stays_flag f g h i list a b (λ on. Call.note (StateCall.allow_resize on)) allowed (λ on. returns_note (StateCall.allow_resize on)) l
