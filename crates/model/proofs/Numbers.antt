-- The numbers 1 to n as a list, those of them that pass a test, and lists with no repeats that fill another.
-- Assumes nothing.
use Prim.Native.Nat.{ℕ, zero, suc, ◌+◌, ◌<◌, ◌≤◌}
use mathlib.Core.Path.{◌≡◌, refl, ap}
use mathlib.Core.Logic.{inl, inr}
use mathlib.Core.Bool.{Bool, true, false, cond}
use mathlib.Core.List.{List, [], ◌∷◌}
use native.Mathlib.Decide.{ℕ_discrete, dec_le}
use native.Mathlib.Omega.{arith}
use lib.ListN.{length}
use Rattle.cursor.specs.Member.{In, Distinct, keep}
use Rattle.model.specs.Memory.{last_or}
use Rattle.model.proofs.Lists.{removed}
use Rattle.model.specs.Verify.{counted}

-- n, n - 1, .., 1
unfoldable pub down_from : ℕ → List ℕ
down_from zero = []
down_from (suc n) = suc n ∷ down_from n

pub in_down_from : (n x : ℕ) → 0 < x → x ≤ n → In x (down_from n)
unfolding down_from
in_down_from zero x z l = absurd (omega arith)
in_down_from (suc n) x z l = elim (dec_le x n) [ yes k ↦ inr (in_down_from n x z k) | no k ↦ inl (omega arith) ]

pub down_from_range : (n x : ℕ) → In x (down_from n) → (0 < x) × (x ≤ n)
unfolding down_from
down_from_range zero x i = elim i [ ]
down_from_range (suc n) x (inl e) = (omega arith, omega arith)
down_from_range (suc n) x (inr i) = let (z, l) = down_from_range n x i in (z, omega arith)

pub down_from_distinct : (n : ℕ) → Distinct (down_from n)
unfolding down_from
down_from_distinct zero = tt
down_from_distinct (suc n) = (λ i. let (z, l) = down_from_range n (suc n) i in omega arith, down_from_distinct n)

pub length_down_from : (n : ℕ) → length (down_from n) ≡ n
unfolding down_from
length_down_from zero = refl
length_down_from (suc n) = ap suc (length_down_from n)

-- those that pass a test, counted
pub length_counted : (test : ℕ → Bool) (n : ℕ) → length (keep test (down_from n)) ≡ counted test n
unfolding keep down_from counted
length_counted test zero = refl
length_counted test (suc n) = by (test (suc n)) (length_counted test n)
  where
    by : (b : Bool) → length (keep test (down_from n)) ≡ counted test n
        → length (cond b (suc n ∷ keep test (down_from n)) (keep test (down_from n))) ≡ counted test n + cond b 1 0
    by true e = omega arith
    by false e = omega arith

-- a list with no repeats, of members of another that is no longer, has every member of it
pub filled : (xs ys : List ℕ) → Distinct xs → ((x : ℕ) → In x xs → In x ys) → length ys ≤ length xs
    → (y : ℕ) → In y ys → In y xs
filled [] [] d f l y i = absurd i
filled [] (z ∷ ys) d f l y i = absurd (omega arith)
filled (x ∷ xs) ys d f l y i =
    let (zs, m, rest) = removed x ys (f x (inl refl)) in
    elim (ℕ_discrete y x) [
      | yes e ↦ inl e
      | no e ↦
          inr
          (filled xs zs d.1 (λ k j. rest k (f k (inr j)) (λ same. d.0 (rw same at j))) (omega arith) y (rest y i e))
    ]

-- the last entry of a list is one of it
pub last_in : (n : ℕ) (ns : List ℕ) → In (last_or n ns) (n ∷ ns)
unfolding last_or
last_in n [] = inl refl
last_in n (m ∷ ns) = inr (last_in m ns)
