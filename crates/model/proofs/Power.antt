-- Powers of two as table sizes: which numbers they are, the quick test for them, and the mask that takes the place of
-- a remainder. Every law is over the largest exponent e, a variable.
-- Assumes nothing.
use Prim.Native.Nat.{ℕ, zero, suc, ◌-◌, ◌/◌, ◌%◌, ◌^◌, ◌≤◌, ◌<◌}
use mathlib.Core.Bool.{Bool, true, false, not, ◌&&◌, ◌||◌, or-true}
use mathlib.Core.Path.{◌≡◌, refl, sym, ◌∙◌}
use native.Mathlib.Nat.{pow-suc, le_refl, mod_self, mod-lt}
use native.Mathlib.Decide.{dec_lt, le_ind}
use native.Mathlib.Omega.{arith}
use lib.Arith.{bin_ind}
use lib.Bits.{bit_and, and_step, and_self, and_mask}
use lib.Dec.{eqb, leb}
use lib.Pow.{pow_pos, pow_mono}
use borrow.Author.Tests.{eqb-true, eqb-false, eq-eqb, ne_eqb, leb-true, le-leb}
use Rattle.cursor.proofs.HighBits.{exponent_le}
use Rattle.model.specs.Limits.{power_up_to}

-- ---- exponents

-- the larger of two powers has the larger exponent
pub exponent_lt : {n m : ℕ} (b c : ℕ) → n ≡ 2 ^ b → m ≡ 2 ^ c → n < m → b < c
exponent_lt {n} {m} b c p q h = pick (dec_lt b c)
  where
    pick : Dec (b < c) → b < c
    pick (yes l) = l
    pick (no f) = let l : c ≤ b = omega arith in omega (arith, pow_mono l)

-- equal powers have equal exponents
pub exponent_unique : (b c : ℕ) → 2 ^ b ≡ 2 ^ c → b ≡ c
exponent_unique b c e = omega (arith, exponent_le b c (omega arith), exponent_le c b (omega arith))

-- ---- the powers from 2 ^ 0 to 2 ^ e, as the definitions test for them

-- what the test accepts is a power, with its exponent in range
pub power_of : (e n : ℕ) → power_up_to e n ≡ true → (b : ℕ) × (b ≤ e) × (n ≡ 2 ^ b)
unfolding power_up_to
power_of zero n h = (0, le_refl 0, eqb-true n 1 h)
power_of (suc e) n h = pick (power_up_to e n) (power_of e n) h
  where
    pick : (t : Bool) → (t ≡ true → (b : ℕ) × (b ≤ e) × (n ≡ 2 ^ b)) → (t || eqb n (2 ^ suc e)) ≡ true
        → (b : ℕ) × (b ≤ suc e) × (n ≡ 2 ^ b)
    pick true f h = let q = f refl in (q.0, omega arith, q.2)
    pick false f h = (suc e, le_refl (suc e), eqb-true n (2 ^ suc e) h)

-- the test accepts every power in range
pub of_power : (e b : ℕ) → b ≤ e → power_up_to e (2 ^ b) ≡ true
unfolding power_up_to
of_power e b h = le_ind (λ (m : ℕ). power_up_to m (2 ^ b) ≡ true) (last b) (λ m l p. rw p) e h
  where
    last : (b : ℕ) → power_up_to b (2 ^ b) ≡ true
    last zero = refl
    last (suc b) = rw (eq-eqb (2 ^ suc b) (2 ^ suc b) refl, or-true)

-- a legal size is at least 1
pub legal_pos : (e n : ℕ) → power_up_to e n ≡ true → 0 < n
legal_pos e n h = let q = power_of e n h in omega (arith, pow_pos q.0)

-- and at most the largest power
legal_le : (e n : ℕ) → power_up_to e n ≡ true → n ≤ 2 ^ e
legal_le e n h = let q = power_of e n h in omega (arith, pow_mono q.1)

-- ---- the mask

-- masking with n - 1 is the remainder by n, for a power of two
pub mask_of_size : (n x b : ℕ) → n ≡ 2 ^ b → bit_and x (n - 1) ≡ x % n
mask_of_size n x b e = rw e (and_mask x b)

-- the same for a size that passed the test
pub mask_legal : (e n x : ℕ) → power_up_to e n ≡ true → bit_and x (n - 1) ≡ x % n
mask_legal e n x h = let q = power_of e n h in mask_of_size n x q.0 q.2

-- ---- the quick test: exactly the powers of two share no bit with the number below them

-- one step of `single_bit`: an even n goes as its half does, and an odd n is 1
half_bit : (n r : ℕ) → n % 2 ≡ r → (0 < n / 2 → bit_and (n / 2) (n / 2 - 1) ≡ 0 → (b : ℕ) × (n / 2 ≡ 2 ^ b))
    → 0 < n → bit_and n (n - 1) ≡ 0 → (b : ℕ) × (n ≡ 2 ^ b)
half_bit n zero p ih h e =
    let half : (n - 1) / 2 ≡ n / 2 - 1 = omega arith in
    let q = ih (omega arith) (omega (arith, rw half at (and_step n (n - 1)))) in
    (suc q.0, omega (arith, pow-suc 2 q.0))
half_bit n (suc r) p ih h e =
    let half : (n - 1) / 2 ≡ n / 2 = omega arith in
    (0, omega (arith, rw (half, and_self) at (and_step n (n - 1))))

-- a positive number that shares no bit with the number below it is a power of two
pub single_bit : (n : ℕ) → 0 < n → bit_and n (n - 1) ≡ 0 → (b : ℕ) × (n ≡ 2 ^ b)
single_bit =
    bin_ind (λ (n : ℕ). 0 < n → bit_and n (n - 1) ≡ 0 → (b : ℕ) × (n ≡ 2 ^ b)) (λ h e. (0, omega arith))
    (λ n ih. half_bit n (n % 2) refl ih)

-- and a power of two shares none
pub single_bit_of : (b : ℕ) → bit_and (2 ^ b) (2 ^ b - 1) ≡ 0
single_bit_of b = and_mask (2 ^ b) b ∙ mod_self (2 ^ b)

-- what three passed tests say
passed : (z l w : Bool) → (not z && l && w) ≡ true → (z ≡ false) × (l ≡ true) × (w ≡ true)
passed false true w e = (refl, refl, e)
passed false false w e = (refl, e, (cc))
passed true l w e = ((cc), (cc), (cc))

-- two tests that pass together are equal
same : {s t : Bool} → (s ≡ true → t ≡ true) → (t ≡ true → s ≡ true) → s ≡ t
same {s = true} f g = sym (f refl)
same {s = false} {t = true} f g = g refl
same {s = false} {t = false} f g = refl

-- the three parts of the test in the code's order; where n is 0, any number may stand for n - 1
pub quick_test_at : (e n below : ℕ) → (0 < n → below ≡ n - 1)
    → (not (eqb n 0) && leb n (2 ^ e) && eqb (bit_and n below) 0) ≡ power_up_to e n
quick_test_at e n below h =
    same
    (λ t.
    let p = passed (eqb n 0) (leb n (2 ^ e)) (eqb (bit_and n below) 0) t in
    let pos : 0 < n = omega (arith, eqb-false n 0 p.0) in
    let q = single_bit n pos (rw (h pos) at (eqb-true (bit_and n below) 0 p.2)) in
    rw q.1 (of_power e q.0 (exponent_le q.0 e (omega (arith, leb-true n (2 ^ e) p.1)))))
    (λ t.
    let pos = legal_pos e n t in
    let bits : bit_and n below ≡ 0 = rw (h pos) (mask_legal e n n t ∙ mod_self n) in
    rw (ne_eqb n 0 (omega arith), le-leb n (2 ^ e) (legal_le e n t), eq-eqb (bit_and n below) 0 bits))

-- with n - 1 itself
pub quick_test : (e n : ℕ) → (not (eqb n 0) && leb n (2 ^ e) && eqb (bit_and n (n - 1)) 0) ≡ power_up_to e n
quick_test e n = quick_test_at e n (n - 1) (λ h. refl)

-- a masked number is below the size
pub mask_below : (e n x : ℕ) → power_up_to e n ≡ true → bit_and x (n - 1) < n
mask_below e n x h = rw (mask_legal e n x h) (mod-lt x (legal_pos e n h))
