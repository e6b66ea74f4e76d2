-- Whether a step is due, from what the code tests: a rehash is under way, and there is no safe iterator.
-- Assumes nothing.
use Prim.Native.Nat.{ℕ, zero, suc}
use mathlib.Core.Path.{◌≡◌, refl, sym, ap, ◌∙◌}
use mathlib.Core.Bool.{Bool, true, false, ◌&&◌, not, cond}
use mathlib.Core.List.{List}
use native.Mathlib.Omega.{arith}
use lib.Dec.{ltb, eqb}
use borrow.Author.Tests.{lt-ltb, ne_eqb}
use Rattle.model.specs.declared.State.{State}
use Rattle.model.specs.declared.Error.{Error}
use Rattle.model.specs.Calls.{After, step_taken, paused, stepped, step_due}
use Rattle.model.proofs.StepFirst.{due_facts}
use Rattle.std.specs.Prelude.{Err}

not_first : (a : Bool) → (a && not true) ≡ false
not_first true = refl
not_first false = refl

none_above : (n : ℕ) → not (ltb 0 n) ≡ eqb n 0
none_above zero = refl
none_above (suc n) = ap not (lt-ltb 0 (suc n) (omega arith)) ∙ sym (ne_eqb (suc n) 0 (λ e. omega arith))

module _ (s : State) where
  pub is_paused : (s.safe_iterators ≡ 0 → ⊥) → paused s ≡ true
  unfolding paused
  is_paused i = lt-ltb 0 s.safe_iterators (omega arith)

  pub due_of : s.rehashing ≡ true → s.safe_iterators ≡ 0 → step_due s ≡ true
  unfolding step_due paused
  due_of p i = rw (p, i)

  pub none_due_paused : (s.safe_iterators ≡ 0 → ⊥) → step_due s ≡ false
  unfolding step_due
  none_due_paused i = rw (is_paused i) (not_first s.rehashing)

  pub none_due_resting : s.rehashing ≡ false → step_due s ≡ false
  unfolding step_due
  none_due_resting p = rw p

  -- both tests as one
  pub due_tested : (b : Bool) → (s.rehashing && eqb s.safe_iterators 0) ≡ b → step_due s ≡ b
  unfolding step_due paused
  due_tested b h = ap (s.rehashing &&◌) (none_above s.safe_iterators) ∙ h

  -- during a rehash
  pub stepped_by : (current other entries : List ℕ) → s.rehashing ≡ true → (f : Bool) → paused s ≡ f
      → cond f (After.after (Err Error.Paused) current other entries) (step_taken s current other entries)
      ≡ stepped s current other entries s.rehashing
  unfolding stepped
  stepped_by current other entries p f e =
      ap
      (λ (g : Bool).
      cond g (After.after (Err Error.Paused) current other entries) (step_taken s current other entries))
      (sym e)
      ∙ ap (stepped s current other entries) (sym p)

  module _ (d : step_due s ≡ true) where
    pub due_rehashing : s.rehashing ≡ true
    due_rehashing = (due_facts s d).0

    pub due_unpaused : paused s ≡ false
    due_unpaused = (due_facts s d).1

    pub due_stepped : (current other entries : List ℕ)
        → step_taken s current other entries ≡ stepped s current other entries s.rehashing
    due_stepped current other entries = stepped_by current other entries due_rehashing false due_unpaused
