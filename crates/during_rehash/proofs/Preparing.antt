-- What comes before a delete that takes a step first: refused, or the step is taken.
-- Assumes nothing.
use Prim.Native.Nat.{ℕ}
use mathlib.Core.Path.{◌≡◌, refl, ap, ◌∙◌}
use mathlib.Core.Bool.{Bool, true, false}
use mathlib.Core.List.{List}
use Rattle.model.specs.declared.State.{State}
use Rattle.model.specs.declared.Error.{Error}
use Rattle.model.specs.Calls.{After, oriented, back, step_taken, rehash_step}
use Rattle.after_step.specs.Presence.{presence_after, presence_then}
use Rattle.during_rehash.specs.declared.foresee.Foresight.{Foresight}
use Rattle.during_rehash.specs.Foretold.{StepDue, Foretold, Untold}
use Rattle.during_rehash.specs.Moving.{first_of, second_of, if_held}
use Rattle.during_rehash.proofs.AddingAfter.{lent_step}
use Rattle.std.specs.Prelude.{Result, Ok, Err}

module _ (s : State) (current other entries : List ℕ) (key : ℕ) where
  abbrev by_presence : Result Bool Error → After (Result (ℕ × State) Error)
  by_presence v = if_held v (step_taken s current other entries) current other entries

  pub untold_refused : (error : Error) → Untold s current other entries key error
      → After.after (Err error) current other entries
      ≡ if_held (presence_then key s.second_is_current (step_taken s current other entries)) (step_taken s current other entries)
      current other entries
  unfolding if_held
  untold_refused error k = ap by_presence k.told

  module _ (f : Foresight) (k : Foretold s current other entries key f) where
    pub absent_refused : f.held ≡ false
        → After.after (Err Error.Absent) current other entries
        ≡ if_held (presence_then key s.second_is_current (step_taken s current other entries)) (step_taken s current other entries)
        current other entries
    unfolding if_held
    absent_refused e = ap by_presence (rw e at k.told)

    pub held_taken : f.held ≡ true → (r : Result (ℕ × State) Error) (x y z : List ℕ)
        → After.after r x y z ≡ step_taken s current other entries
        → After.after r x y z
        ≡ if_held (presence_then key s.second_is_current (step_taken s current other entries)) (step_taken s current other entries)
        current other entries
    unfolding if_held
    held_taken e r x y z h = h ∙ ap by_presence (rw e at k.told)

-- on the lent buffers

held_back : (f : Bool) (v : Result Bool Error) (m : After (Result (ℕ × State) Error)) (c o z : List ℕ)
    → back f (if_held v m c o z) ≡ if_held v (back f m) (first_of f c o) (second_of f c o) z
unfolding back oriented if_held
held_back false (Err error) m c o z = refl
held_back false (Ok false) m c o z = refl
held_back false (Ok true) m c o z = refl
held_back true (Err error) m c o z = refl
held_back true (Ok false) m c o z = refl
held_back true (Ok true) m c o z = refl

module _ (s : State) (current other entries : List ℕ) (key : ℕ) (d : StepDue s current other entries) where
  abbrev first : List ℕ
  first = first_of s.second_is_current current other

  abbrev second : List ℕ
  second = second_of s.second_is_current current other

  pub held_lent : back s.second_is_current
      (if_held (presence_then key s.second_is_current (step_taken s current other entries)) (step_taken s current other entries)
      current other entries)
      ≡ if_held (presence_after key (rehash_step s first second entries)) (rehash_step s first second entries) first second entries
  unfolding presence_then
  held_lent =
      held_back s.second_is_current _ (step_taken s current other entries) current other entries
      ∙ ap (λ (m : After (Result (ℕ × State) Error)). if_held (presence_after key m) m first second entries)
      (lent_step s current other entries d.sound d.due)
