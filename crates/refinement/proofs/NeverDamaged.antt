-- Over every sequence of calls of a store that meets demand 3 no chain is found damaged: every chain is sound, in demand 1's
-- words, and no call answers 2. So no such store ever meets a key off its bucket.
-- Assumes nothing.
use Prim.Native.Nat.{ℕ, zero, suc}
use mathlib.Core.Path.{◌≡◌, refl, sym, subst, ◌∙◌}
use mathlib.Core.Bool.{Bool, true, false, ◌&&◌, cond}
use mathlib.Core.List.{List, [], ◌∷◌}
use mathlib.Core.Option.{Option, none, some}
use lib.ListN.{length}
use lib.Dec.{eqb}
use borrow.Author.Tests.{eqb-false}
use Rattle.model.specs.Limits.{legal_capacity, legal_size}
use Rattle.model.specs.Memory.{Place, Live}
use Rattle.model.specs.Answers.{Reply, reply}
use Rattle.model.specs.Calls.{long_enough}
use Rattle.model.specs.Walk.{Tables}
use Rattle.model.specs.Sequences.{World, KeyCall, Call, Outcome, run, Event, events, PlainMap, value_for, map_answer, map_does}
use Rattle.refinement.specs.Worlds.{UndamagedAt}
use Rattle.refinement.specs.Demand1.{SoundChain}
use Rattle.refinement.specs.Demand3.{Lengths, lengths_of, Ideal, start_number, start_answer, key_answer, on_answer, then_grows, resize_answer, after_step, predict, Answered, SequenceHolds, Demand3}
use Rattle.refinement.proofs.IdealSteps.{either, any_step, any_resize, any_hand, any_read, any_note}
use Rattle.refinement.proofs.Demand1Chains.{AtPlace, place_read, place_sound}
use Rattle.refinement.proofs.Contents.{undamaged_ideal}

-- every chain of an undamaged store
pub always_sound : (w : World) → UndamagedAt w → (p : Place) → Live w.state p → SoundChain w p
unfolding UndamagedAt
always_sound w u p live = place_sound w p _ (subst (AtPlace w p) (u.chains_sound p live) (place_read w p))

-- No answer of the ideal has the number 2.

abbrev Other : {A : Type 0} → Reply A → Type 0
Other r = ¬ (r.number ≡ 2)

other : (n : ℕ) → eqb n 2 ≡ false → ¬ (n ≡ 2)
other n e = eqb-false n 2 e

map_other : (m : PlainMap) (key : ℕ) (c : KeyCall) (o : Option ℕ) → Other (map_answer m key c o)
unfolding map_answer reply
map_other m key KeyCall.find none = other 3 refl
map_other m key KeyCall.find (some held) = other 0 refl
map_other m key (KeyCall.update value) none = other 3 refl
map_other m key (KeyCall.update value) (some held) = other 0 refl
map_other m key (KeyCall.add value) (some held) = other 4 refl
map_other m key (KeyCall.add value) none = either Other (eqb (length m.pairs) m.capacity) _ _ (other 5 refl) (other 0 refl)
map_other m key KeyCall.delete none = other 3 refl
map_other m key KeyCall.delete (some held) = other 0 refl

module _ (l : Lengths) (i : Ideal) where
  start_other : (capacity size number : ℕ) → ¬ (number ≡ 2) → Other (start_answer i capacity size number)
  unfolding start_answer reply
  start_other capacity size zero f = f
  start_other capacity size (suc number) f = f

  limits_other : (t u : Bool) → ¬ (◌≡◌ {A = ℕ} (cond t (cond u 0 1) 6) 2)
  limits_other true true = other 0 refl
  limits_other true false = other 1 refl
  limits_other false u = other 6 refl

  resize_other : (size : ℕ) (tables : Tables) → Other (resize_answer l i size tables)
  unfolding reply
  resize_other size t = any_resize l i Other size t (λ old e a. other 0 refl) (other 6 refl) (other 7 refl)

  done_other : (old new count : ℕ) (unmoved : List ℕ) (next : ℕ) → Other (after_step i old new count unmoved next)
  unfolding after_step reply
  done_other old new count [] next = other 0 refl
  done_other old new count (k ∷ ks) next = other 0 refl

  predicted_other : (c : Call) → Other (predict l i c)
  unfolding predict then_grows on_answer key_answer map_does start_number reply
  predicted_other (Call.init capacity size) =
      start_other capacity size _
      (limits_other (legal_capacity capacity && legal_size size) (long_enough capacity size l.first l.entries))
  predicted_other (Call.on key c) = map_other i.plain key c (value_for key i.plain.pairs)
  predicted_other (Call.resize size) = resize_other size i.tables
  predicted_other Call.rehash_step = any_step i Other i.tables i.unmoved (λ size e. other 8 refl)
      (λ some. other 18 refl) (λ old new e none. done_other old new)
  predicted_other (Call.scan cursor lent) = any_hand i Other _ _ (length lent) (other 0 refl) (other 9 refl)
  predicted_other (Call.iterate place lent) = any_hand i Other _ _ (length lent) (other 0 refl) (other 9 refl)
  predicted_other (Call.read c) = any_read i Other c (λ vs. other 0 refl) (other 15 refl)
  predicted_other (Call.note c) = any_note i Other c (λ allowed iterators. other 0 refl) (other 16 refl) (other 17 refl)

-- of none of these calls the number is 2
unfoldable pub NoneDamaged : List Event → Type 0
NoneDamaged [] = Unit {0}
NoneDamaged (e ∷ es) = (¬ (e.number ≡ 2)) × NoneDamaged es

answered_other : (l : Lengths) (i : Ideal) (es : List Event) → Answered l i es → NoneDamaged es
unfolding Answered NoneDamaged
answered_other l i [] a = tt
answered_other l i (e ∷ es) a =
    (λ two. predicted_other l i e.call (sym a.0.number ∙ two), answered_other l (predict l i e.call).state es a.1)

-- Of a sequence from any undamaged store on.

module _ (does : World → Call → Outcome) (d : Demand3 does) (w : World) (undamaged : UndamagedAt w) (calls : List Call) where
  holds : (i : Ideal) × SequenceHolds does (lengths_of w) w i calls
  holds =
      let (i, matches) = undamaged_ideal w undamaged in (i, d.onward (lengths_of w) w i undamaged matches calls)

  pub none_damaged : NoneDamaged (events does w calls)
  none_damaged = let (i, s) = holds in answered_other (lengths_of w) i (events does w calls) s.answers

  pub chains_stay_sound : (p : Place) → Live (run does w calls).state p → SoundChain (run does w calls) p
  chains_stay_sound p live = let (i, s) = holds in always_sound (run does w calls) s.undamaged p live
