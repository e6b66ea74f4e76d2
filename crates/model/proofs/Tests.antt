-- A test that tells a proposition: true where it holds, false where it does not.
-- Assumes nothing.
use Prim.Native.Nat.{ℕ, ◌≤◌}
use mathlib.Core.Path.{◌≡◌, refl}
use mathlib.Core.Bool.{Bool, true, false, ◌&&◌, not}
use native.Mathlib.Omega.{arith}
use lib.Dec.{leb, eqb}
use borrow.Author.Tests.{leb-true, le-leb, eqb-true, eq-eqb}

pub data Tells (A : Type 0) : Bool → Type 0 where
  holds : A → Tells A true
  fails : ¬ A → Tells A false

pub true_not_false : ¬ (true ≡ false)
true_not_false e = let z : ◌≡◌ {A = ℕ} 0 1 = cc in omega arith

-- what such a test says, both ways

pub told : {A : Type 0} {t : Bool} → Tells A t → t ≡ true → A
told (Tells.holds a) e = a
told (Tells.fails f) e = let z : ◌≡◌ {A = ℕ} 0 1 = cc in absurd (omega arith)

pub told_not : {A : Type 0} {t : Bool} → Tells A t → t ≡ false → ¬ A
told_not (Tells.holds a) e = let z : ◌≡◌ {A = ℕ} 0 1 = cc in absurd (omega arith)
told_not (Tells.fails f) e = f

pub tested : {A : Type 0} {t : Bool} → Tells A t → A → t ≡ true
tested (Tells.holds a) b = refl
tested (Tells.fails f) b = absurd (f b)

pub tested_not : {A : Type 0} {t : Bool} → Tells A t → ¬ A → t ≡ false
tested_not (Tells.holds a) f = absurd (f a)
tested_not (Tells.fails f) g = refl

-- a test that is true exactly where A holds
pub tells : {A : Type 0} (t : Bool) → (t ≡ true → A) → (A → t ≡ true) → Tells A t
tells true f g = Tells.holds (f refl)
tells false f g = Tells.fails (λ a. let z : ◌≡◌ {A = ℕ} 0 1 = cc (g a) in omega arith)

-- that it is true, as a proposition
pub tells_true : (t : Bool) → Tells (t ≡ true) t
tells_true t = tells t (λ e. e) (λ e. e)

-- the same test tells a proposition that says the same
pub tells_same : {A B : Type 0} {t : Bool} → (A → B) → (B → A) → Tells A t → Tells B t
tells_same f g (Tells.holds a) = Tells.holds (f a)
tells_same f g (Tells.fails h) = Tells.fails (λ b. h (g b))

pub tells_and : {A B : Type 0} {s t : Bool} → Tells A s → Tells B t → Tells (A × B) (s && t)
tells_and (Tells.holds a) (Tells.holds b) = Tells.holds (a, b)
tells_and (Tells.holds a) (Tells.fails g) = Tells.fails (λ h. g h.1)
tells_and (Tells.fails f) t = Tells.fails (λ h. f h.0)

pub tells_not : {A : Type 0} {t : Bool} → Tells A t → Tells (¬ A) (not t)
tells_not (Tells.holds a) = Tells.fails (λ f. f a)
tells_not (Tells.fails f) = Tells.holds f

pub tells_le : (m n : ℕ) → Tells (m ≤ n) (leb m n)
tells_le m n = tells (leb m n) (leb-true m n) (le-leb m n)

pub tells_eq : (m n : ℕ) → Tells (m ≡ n) (eqb m n)
tells_eq m n = tells (eqb m n) (eqb-true m n) (eq-eqb m n)
