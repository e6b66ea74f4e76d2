-- The tests that calls make of what they are given: each fails exactly where a row of demand 1's table is given.
-- Assumes nothing.
use Prim.Native.Nat.{ℕ, suc, ◌≤◌, ◌<◌}
use mathlib.Core.Path.{◌≡◌}
use mathlib.Core.Bool.{Bool, true, false, ◌&&◌, not}
use mathlib.Core.Logic.{◌⊎◌, inl, inr}
use native.Mathlib.Omega.{arith}
use lib.Dec.{leb, ltb, eqb}
use Rattle.model.proofs.Tests.{Tells, tells_le, tells_eq}

pub data Passes (Given : Type 0) : Bool → Type 0 where
  passed : ¬ Given → Passes Given true
  failed : Given → Passes Given false

pub not_given : {A : Type 0} {t : Bool} → Passes A t → t ≡ true → ¬ A
not_given (Passes.passed f) e = f
not_given (Passes.failed a) e = let z : ◌≡◌ {A = ℕ} 0 1 = cc in absurd (omega arith)

pub given : {A : Type 0} {t : Bool} → Passes A t → t ≡ false → A
given (Passes.passed f) e = let z : ◌≡◌ {A = ℕ} 0 1 = cc in absurd (omega arith)
given (Passes.failed a) e = a

-- the same test for a row that says the same
pub passes_same : {A B : Type 0} {t : Bool} → (A → B) → (B → A) → Passes A t → Passes B t
passes_same f g (Passes.passed h) = Passes.passed (λ b. h (g b))
passes_same f g (Passes.failed a) = Passes.failed (f a)

-- a test that holds where it must
pub passes_not : {A : Type 0} {t : Bool} → Tells A t → Passes (¬ A) t
passes_not (Tells.holds a) = Passes.passed (λ f. f a)
passes_not (Tells.fails f) = Passes.failed f

pub passes_or : {A B : Type 0} {s t : Bool} → Passes A s → Passes B t → Passes (A ⊎ B) (s && t)
passes_or {A} {B} (Passes.passed f) (Passes.passed g) = Passes.passed neither
  where
    neither : ¬ (A ⊎ B)
    neither (inl a) = f a
    neither (inr b) = g b
passes_or (Passes.passed f) (Passes.failed b) = Passes.failed (inr b)
passes_or (Passes.failed a) t = Passes.failed (inl a)

pub passes_le : (m n : ℕ) → Passes (n < m) (leb m n)
passes_le m n = by (tells_le m n)
  where
    by : {t : Bool} → Tells (m ≤ n) t → Passes (n < m) t
    by (Tells.holds h) = Passes.passed (omega arith)
    by (Tells.fails f) = Passes.failed (omega arith)

pub passes_lt : (m n : ℕ) → Passes (n ≤ m) (ltb m n)
passes_lt m n = passes_same (λ h. omega arith) (λ h. omega arith) (passes_le (suc m) n)

pub passes_ne : (m n : ℕ) → Passes (m ≡ n) (not (eqb m n))
passes_ne m n = by (tells_eq m n)
  where
    by : {t : Bool} → Tells (m ≡ n) t → Passes (m ≡ n) (not t)
    by (Tells.holds e) = Passes.failed e
    by (Tells.fails f) = Passes.passed f
