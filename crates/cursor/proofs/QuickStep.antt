-- Where the highest bit of the bucket's number is 0, the reversed count sets it and carries nothing.
-- Assumes nothing.
use Rattle.std.proofs.Common.{◌≡◌, ℕ, zero, suc, ◌+◌, ◌-◌, ◌*◌, ◌/◌, ◌%◌, ◌^◌, ◌<◌, ◌≤◌, sym, ◌∙◌, subst, mod-eq_of_lt, pow-suc, arith, pow_pos}
use native.Mathlib.Nat.{div-eq_of_lt}
use lib.Bits.{bit_and, and_mask}
use Rattle.cursor.specs.Reverse.{reverse}
use Rattle.cursor.specs.Next.{next}
use Rattle.cursor.proofs.Reversal.{reverse_lt, reverse_mod, reverse_split, reverse_zero, reverse_twice}
use Rattle.cursor.proofs.NextCursor.{next_short}
use Rattle.cursor.proofs.HighBits.{exponent_le}

-- a number below 2^b, reversed in one bit more, is even
reversed_even : (b w : ℕ) → w < 2 ^ b → reverse (suc b) w ≡ reverse b w * 2
reversed_even b w h =
    let one_more : b + 1 ≡ suc b = omega arith in
    subst (λ n. reverse n w ≡ reverse b w * 2) one_more (reverse_split b 1 w ∙ rw (div-eq_of_lt h, reverse_zero) (omega arith))

-- an odd number, reversed in one bit more
reversed_odd : (b x : ℕ) → reverse (suc b) (suc (x * 2)) ≡ 2 ^ b + reverse b x
unfolding reverse
reversed_odd b x =
    let low : suc (x * 2) % 2 ≡ 1 = omega arith in
    let high : suc (x * 2) / 2 ≡ x = omega arith in
    rw (low, high) (omega arith)

pub quick_next : (b v : ℕ) → suc b ≤ 32 → v % 2 ^ suc b < 2 ^ b → next (2 ^ suc b) v ≡ v % 2 ^ suc b + 2 ^ b
quick_next b v f h =
    let w = v % 2 ^ suc b in
    let x = reverse b w in
    let double : 2 ^ suc b ≡ 2 ^ b * 2 = omega (arith, pow-suc 2 b) in
    let even : reverse (suc b) v ≡ x * 2 = sym (reverse_mod (suc b) v) ∙ reversed_even b w h in
    let small : suc (x * 2) < 2 ^ suc b = omega (arith, reverse_lt b w, double) in
    next_short (suc b) v f
    ∙ rw (even, mod-eq_of_lt small, reversed_odd b x, reverse_twice b w, mod-eq_of_lt h) (omega arith)

-- the steps of the code give the next cursor
pub quick_computed : (size cursor : ℕ) → size < 2 ^ 32
    → bit_and cursor ((size + (2 ^ 32 - 1)) % 2 ^ 32) < size / 2
    → (b : ℕ) → size ≡ 2 ^ b → bit_and cursor ((size + (2 ^ 32 - 1)) % 2 ^ 32) + size / 2 ≡ next size cursor
quick_computed size cursor s h zero p = absurd (omega (arith, p))
quick_computed size cursor s h (suc b) p =
    let ones : (size + (2 ^ 32 - 1)) % 2 ^ 32 ≡ 2 ^ suc b - 1 = omega (arith, p, pow_pos (suc b)) in
    let half : size / 2 ≡ 2 ^ b = omega (arith, p, pow-suc 2 b) in
    let taken : bit_and cursor ((size + (2 ^ 32 - 1)) % 2 ^ 32) ≡ cursor % 2 ^ suc b = rw ones (and_mask cursor (suc b)) in
    let below : cursor % 2 ^ suc b < 2 ^ b = omega (arith, h, half, taken) in
    rw (taken, half, p) (sym (quick_next b cursor (exponent_le (suc b) 32 (omega (arith, p))) below))
