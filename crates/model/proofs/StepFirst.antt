-- A call that takes a step first, by whether one is due; and when one is.
-- Assumes nothing.
use mathlib.Core.Path.{◌≡◌, refl, sym, ap}
use mathlib.Core.Bool.{Bool, true, false, ◌&&◌, not, cond}
use mathlib.Core.List.{List}
use Prim.Native.Nat.{ℕ}
use Rattle.model.specs.declared.State.{State}
use Rattle.model.specs.declared.Error.{Error}
use Rattle.model.specs.Calls.{After, paused, rehash_step, call_after, step_due, step_first}
use Rattle.model.proofs.Tests.{true_not_false}

-- during a rehash that no safe iterator holds up
pub due_facts : (s : State) → step_due s ≡ true → (s.rehashing ≡ true) × (paused s ≡ false)
unfolding step_due
due_facts s = by s.rehashing (paused s)
  where
    by : (a b : Bool) → (a && not b) ≡ true → (a ≡ true) × (b ≡ false)
    by true false e = (refl, refl)
    by true true e = absurd (true_not_false (sym e))
    by false b e = absurd (true_not_false (sym e))

module _ {A : Type 0} (refused : Error → A) (done : A → Bool) (call : State → List ℕ → List ℕ → List ℕ → After A) (s : State)
    (first second entries : List ℕ) where
  abbrev by_flag : Bool → After A
  by_flag f =
      cond f (call_after refused done call first second entries (rehash_step s first second entries)) (call s first second entries)

  pub resting_first : step_due s ≡ false → call s first second entries ≡ step_first refused done call s first second entries
  unfolding step_first
  resting_first e = ap by_flag (sym e)

  pub stepping_first : step_due s ≡ true
      → call_after refused done call first second entries (rehash_step s first second entries)
      ≡ step_first refused done call s first second entries
  unfolding step_first
  stepping_first e = ap by_flag (sym e)
