-- The smallest power of two that is not below a number, and not above the largest size.
-- Assumes nothing.
use Rattle.std.proofs.Common.{◌≡◌, ℕ, zero, suc, ◌+◌, ◌/◌, ◌^◌, ◌≤◌, ◌<◌, max, min, Bool, true, false, cond, leb, refl, sym, ap, ◌∙◌, arith}
use Rattle.std.proofs.Math.Nat.{pow-suc, pow-le-pow_right}
use Rattle.std.proofs.Math.Pow.{pow-lt}
use Rattle.std.specs.Int.{IsPowerOfTwo}
use borrow.Author.Tests.{leb-true, leb-false}
use Rattle.model.specs.Limits.{largest_exponent, least_suggestion}
use Rattle.model.specs.Calls.{power_from, size_for}
use Rattle.model.proofs.Power.{exponent_lt}

-- the search from 2 ^ x, with that many powers left, ends at 2 ^ k: each power before it is too small
power_is : (left x n k : ℕ) → x ≤ k → k ≤ x + left → ((j : ℕ) → j < k → 2 ^ j < n) → (k < x + left → n ≤ 2 ^ k)
    → power_from x left n ≡ 2 ^ k
unfolding power_from
power_is zero x n k a b below enough = let same : x ≡ k = omega arith in ap (λ (j : ℕ). 2 ^ j) same
power_is (suc left) x n k a b below enough =
    pick (leb n (2 ^ x)) refl (λ l. power_is left (suc x) n k l (omega arith) below (λ m. enough (omega arith)))
  where
    pick : (t : Bool) → leb n (2 ^ x) ≡ t → (suc x ≤ k → power_from (suc x) left n ≡ 2 ^ k)
        → cond t (2 ^ x) (power_from (suc x) left n) ≡ 2 ^ k
    pick true e more =
        let fits : n ≤ 2 ^ x = leb-true n (2 ^ x) e in
        let last : x < k → ⊥ = λ l. let small = below x l in omega arith in
        let same : x ≡ k = omega arith in
        ap (λ (j : ℕ). 2 ^ j) same
    pick false e more =
        let small : 2 ^ x < n = leb-false n (2 ^ x) e in
        let on : k ≡ x → ⊥ = λ s. let fits = enough (omega arith) in omega (arith, ap (λ (j : ℕ). 2 ^ j) s) in
        more (omega arith)

-- the power that is not below the number held to its limits, and whose half is
size_at : (n held k : ℕ) → held ≡ max 4 (min n 65536) → held ≤ 2 ^ k → 2 ^ k / 2 < max 1 held → 2 ^ k ≡ size_for n
unfolding size_for least_suggestion largest_exponent
size_at n held zero e lower upper = absurd (omega arith)
size_at n held (suc k) e lower upper =
    let half : 2 ^ k < held = omega (arith, pow-suc 2 k) in
    let short : k < 16 = exponent_lt k 16 refl refl (omega arith) in
    sym
    (power_is 16 0 (max 4 n) (suc k) (omega arith) (omega arith)
    (λ j l. let less : 2 ^ j ≤ 2 ^ k = pow-le-pow_right (omega arith) (omega arith) in omega arith)
    (λ l. let below : 2 ^ suc k < 2 ^ 16 = pow-lt l in omega arith))

pub size_is : (n held p : ℕ) → held ≡ max 4 (min n 65536) → IsPowerOfTwo p → held ≤ p → p / 2 < max 1 held → p ≡ size_for n
size_is n held p e power lower upper =
    let (k, is) = power in is ∙ size_at n held k e (rw is at lower) (rw is at upper)
