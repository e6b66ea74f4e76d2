-- Keys held equal the adds answered 0 less the deletes answered 0 since the last start answered 0: so it is in every store
-- that meets demand 3, over every sequence behind a start.
-- Assumes nothing.
use Prim.Native.Nat.{ℕ, zero, suc, ◌+◌, ◌-◌}
use mathlib.Core.Path.{◌≡◌, refl, sym, ap, ◌∙◌}
use mathlib.Core.Bool.{Bool, true, false, cond}
use mathlib.Core.List.{List, [], ◌∷◌}
use mathlib.Core.Option.{Option, none, some}
use native.Mathlib.Omega.{arith}
use lib.ListN.{length}
use lib.Dec.{eqb, eqb-suc-zero}
use Rattle.model.specs.Answers.{Reply, reply}
use Rattle.model.specs.Memory.{keys_held}
use Rattle.model.specs.Sequences.{World, KeyCall, Call, Outcome, carry, run, Event, event, events, PlainMap, value_for, with_pairs, map_answer, map_does}
use Rattle.refinement.specs.Demand3.{Lengths, lengths_of, Ideal, ideal, begun, start_number, start_answer, key_answer, on_answer, then_grows, after_step, with_notes, predict, replay, Answered, Demand3}
use Rattle.refinement.proofs.IdealSteps.{any_step, any_resize, any_hand, any_read, any_note, growth_plain}
use Rattle.refinement.proofs.PlainMaps.{length_changed, length_taken}
use Rattle.refinement.proofs.Demand3.{from_a_start}

-- the keys held after a call that was answered 0
unfoldable pub keys_after : Call → ℕ → ℕ
keys_after (Call.init capacity size) keys = 0
keys_after (Call.on key KeyCall.find) keys = keys
keys_after (Call.on key (KeyCall.update value)) keys = keys
keys_after (Call.on key (KeyCall.add value)) keys = keys + 1
keys_after (Call.on key KeyCall.delete) keys = keys - 1
keys_after (Call.resize size) keys = keys
keys_after Call.rehash_step keys = keys
keys_after (Call.scan cursor lent) keys = keys
keys_after (Call.iterate place lent) keys = keys
keys_after (Call.read c) keys = keys
keys_after (Call.note c) keys = keys

-- over the events; a refused call changes nothing
unfoldable pub tally : ℕ → List Event → ℕ
tally keys [] = keys
tally keys (e ∷ es) = tally (cond (eqb e.number 0) (keys_after e.call keys) keys) es

-- The ideal's pairs are so many.

abbrev pairs : Ideal → ℕ
pairs i = length i.plain.pairs

abbrev Counted : Ideal → Call → Reply Ideal → Type 0
Counted i c r = pairs r.state ≡ cond (eqb r.number 0) (keys_after c (pairs i)) (pairs i)

module _ (i : Ideal) where
  keyed : (key : ℕ) (c : KeyCall) → Counted i (Call.on key c) (on_answer i c (map_does i.plain key c))
  unfolding on_answer key_answer map_does map_answer with_pairs reply ideal keys_after
  keyed key c = by c (value_for key i.plain.pairs) refl
    where
      by : (c : KeyCall) (o : Option ℕ) → value_for key i.plain.pairs ≡ o
          → Counted i (Call.on key c) (on_answer i c (map_answer i.plain key c o))
      by KeyCall.find none e = refl
      by KeyCall.find (some held) e = refl
      by (KeyCall.update value) none e = refl
      by (KeyCall.update value) (some held) e = length_changed key value i.plain.pairs
      by (KeyCall.add value) (some held) e = refl
      by (KeyCall.add value) none e = room (eqb (length i.plain.pairs) i.plain.capacity)
        where
          room : (t : Bool)
              → Counted i (Call.on key (KeyCall.add value))
              (on_answer i (KeyCall.add value)
              (cond t (reply 5 [] i.plain) (reply 0 [] (with_pairs i.plain (record { key = key; value = value } ∷ i.plain.pairs)))))
          room true = refl
          room false = omega arith
      by KeyCall.delete none e = refl
      by KeyCall.delete (some held) e = omega (arith, length_taken key held i.plain.pairs e)

  counted : (l : Lengths) (c : Call) → Counted i c (predict l i c)
  unfolding predict then_grows start_answer begun ideal reply after_step with_notes keys_after
  counted l (Call.init capacity size) = by (start_number l capacity size)
    where
      by : (n : ℕ) → Counted i (Call.init capacity size) (start_answer i capacity size n)
      by zero = refl
      by (suc n) = rw (eqb-suc-zero n)
  counted l (Call.on key c) =
      ap (λ (m : PlainMap). length m.pairs) (growth_plain l c (on_answer i c (map_does i.plain key c))) ∙ keyed key c
  counted l (Call.resize size) =
      any_resize l i (Counted i (Call.resize size)) size i.tables (λ old e a. refl) refl refl
  counted l Call.rehash_step = any_step i (Counted i Call.rehash_step) i.tables i.unmoved (λ size e. refl)
      (λ some. refl) (λ old new e none. done old new)
    where
      done : (old new count : ℕ) (ks : List ℕ) (next : ℕ) → Counted i Call.rehash_step (after_step i old new count ks next)
      done old new count [] next = refl
      done old new count (k ∷ ks) next = refl
  counted l (Call.scan cursor lent) = any_hand i (Counted i (Call.scan cursor lent)) _ _ (length lent) refl refl
  counted l (Call.iterate place lent) = any_hand i (Counted i (Call.iterate place lent)) _ _ (length lent) refl refl
  counted l (Call.read c) = any_read i (Counted i (Call.read c)) c (λ vs. refl) refl
  counted l (Call.note c) = any_note i (Counted i (Call.note c)) c (λ allowed iterators. refl) refl refl

-- along a sequence whose answers are the ideal's
tallied : (does : World → Call → Outcome) (l : Lengths) (w : World) (i : Ideal) (calls : List Call)
    → Answered l i (events does w calls) → length (replay l i calls).plain.pairs ≡ tally (pairs i) (events does w calls)
unfolding replay events event tally Answered
tallied does l w i [] h = refl
tallied does l w i (c ∷ calls) h =
    let number : (does w c).reply.number ≡ (predict l i c).number = h.0.number in
    tallied does l (carry w (does w c)) (predict l i c).state calls h.1
    ∙ ap (λ (n : ℕ). tally n (events does (carry w (does w c)) calls))
    (counted i l c ∙ ap (λ (n : ℕ). cond (eqb n 0) (keys_after c (pairs i)) (pairs i)) (sym number))

pub keys_tallied : (does : World → Call → Outcome) → Demand3 does → (w : World) (capacity size : ℕ)
    → (does w (Call.init capacity size)).reply.number ≡ 0 → (calls : List Call)
    → keys_held (run does (carry w (does w (Call.init capacity size))) calls).state
    ≡ tally 0 (events does (carry w (does w (Call.init capacity size))) calls)
unfolding begun ideal
keys_tallied does d w capacity size answered calls =
    let v = carry w (does w (Call.init capacity size)) in
    let s = from_a_start does d w capacity size answered calls in
    sym s.matches.contents.count ∙ tallied does (lengths_of w) v (begun capacity size) calls s.answers
