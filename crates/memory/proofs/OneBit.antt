-- The library's test for a power of two, which counts bits, beside the definition's, which compares with each power.
-- Assumes nothing.
use Rattle.std.proofs.Common.{◌≡◌, ℕ, zero, suc, ◌+◌, ◌/◌, ◌%◌, ◌^◌, ◌<◌, Bool, true, false, ◌&&◌, eqb, leb, refl, sym, count_ones, arith}
use Rattle.std.proofs.Math.Nat.{pow-suc, pow-le-pow_right}
use Rattle.std.proofs.lemmas.Nat.{zero_from_ones, ones_le_self}
use lib.Arith.{bin_ind}
use lib.Count.{ones_step}
use borrow.Author.Tests.{le-leb, eq-eqb}
use Rattle.model.specs.Limits.{power_up_to}
use Rattle.model.proofs.Power.{exponent_lt, power_of, of_power}
use Rattle.model.proofs.Tests.{told, tells_and, tells_le, tells_eq}

-- a number with one bit is a power, as its half is where it is even
half_bit : (n r : ℕ) → n % 2 ≡ r → (count_ones (n / 2) ≡ 1 → (b : ℕ) × (n / 2 ≡ 2 ^ b)) → count_ones n ≡ 1
    → (b : ℕ) × (n ≡ 2 ^ b)
half_bit n zero p ih h = let (b, e) = ih (omega (arith, ones_step n)) in (suc b, omega (arith, pow-suc 2 b))
half_bit n (suc r) p ih h =
    let none : n / 2 ≡ 0 = zero_from_ones (n / 2) (omega (arith, ones_step n)) in (0, omega arith)

one_bit : (n : ℕ) → count_ones n ≡ 1 → (b : ℕ) × (n ≡ 2 ^ b)
one_bit =
    bin_ind (λ (n : ℕ). count_ones n ≡ 1 → (b : ℕ) × (n ≡ 2 ^ b)) (λ h. absurd (omega (arith, ones_le_self 0)))
    (λ n ih. half_bit n (n % 2) refl ih)

ones_power : (b : ℕ) → count_ones (2 ^ b) ≡ 1
ones_power zero =
    let some : count_ones 1 ≡ 0 → ⊥ = λ z. let none = zero_from_ones 1 z in omega arith in omega (arith, ones_le_self 1)
ones_power (suc b) =
    let even : 2 ^ suc b % 2 ≡ 0 = omega (arith, pow-suc 2 b) in
    let half : 2 ^ suc b / 2 ≡ 2 ^ b = omega (arith, pow-suc 2 b) in
    let rest = ones_power b in
    let step : count_ones (2 ^ suc b) ≡ 2 ^ suc b % 2 + count_ones (2 ^ b) = rw half at (ones_step (2 ^ suc b)) in
    omega arith

same : {s t : Bool} → (s ≡ true → t ≡ true) → (t ≡ true → s ≡ true) → s ≡ t
same {s = true} f g = sym (f refl)
same {s = false} {t = true} f g = g refl
same {s = false} {t = false} f g = refl

pub power_test : (e n : ℕ) → (leb n (2 ^ e) && eqb (count_ones n) 1) ≡ power_up_to e n
power_test e n =
    same
    (λ t.
    let (short, one) = told (tells_and (tells_le n (2 ^ e)) (tells_eq (count_ones n) 1)) t in
    let (b, is) = one_bit n one in
    let less : b < suc e = exponent_lt b (suc e) refl refl (omega (arith, pow-suc 2 e, pow-le-pow_right {n = 2} (omega arith) {i = 0} {j = e} (omega arith))) in
    rw is (of_power e b (omega arith)))
    (λ t.
    let (b, few, is) = power_of e n t in
    rw (is, le-leb (2 ^ b) (2 ^ e) (pow-le-pow_right (omega arith) few), eq-eqb (count_ones (2 ^ b)) 1 (ones_power b)))
