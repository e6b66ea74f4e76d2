-- Laws of the reversal of a number's lowest bits, over the number of bits.
use Rattle.std.proofs.Common.{◌≡◌, ℕ, zero, suc, ◌+◌, ◌-◌, ◌*◌, ◌/◌, ◌%◌, ◌^◌, ◌<◌, refl, add-zero, add_assoc, mod-lt, mul_assoc, add-mul, add_comm, suc-add, zero-add, zero-mul, mul-one, div-one, add-one, one-add, arith, pow_pos, pow-add, shr-shr}
use native.Mathlib.Nat.{mod-one, mod-mod, two-pow-succ, mul-mod_left}
use lib.Pow.{high, low, field, mod-pow-add, mod-mod-pow, shl-shr}
use Rattle.cursor.specs.Reverse.{reverse}

-- a reversal has no more bits than were reversed
pub reverse_lt : (n x : ℕ) → reverse n x < 2 ^ n
unfolding reverse
reverse_lt zero x = omega arith
reverse_lt (suc n) x =
    rw two-pow-succ (one_more (x % 2) (2 ^ n) _ (mod-lt x (omega arith)) (reverse_lt n (x / 2)))
  where
    one_more : (bit p r : ℕ) → bit < 2 → r < p → bit * p + r < p + p
    one_more zero p r h l = rw zero-mul (omega arith)
    one_more (suc zero) p r h l = omega arith
    one_more (suc (suc bit)) p r h l = absurd (omega arith)

-- the reversal of b + d bits: that of the lowest b bits stands above that of the d bits over them
pub reverse_split : (b d x : ℕ) → reverse (b + d) x ≡ reverse b x * 2 ^ d + reverse d (x / 2 ^ b)
unfolding reverse
reverse_split zero d x = rw (zero-add, zero-mul, zero-add, div-one)
reverse_split (suc b) d x =
    rw (suc-add, reverse_split b d (x / 2), pow-add, add-mul, mul_assoc, shr-shr x 1 b, add_assoc, one-add)

one_bit : (x : ℕ) → reverse 1 x ≡ x % 2
unfolding reverse
one_bit x = rw (mul-one, add-zero)

-- one bit more
reverse_last : (n x : ℕ) → reverse (suc n) x ≡ reverse n x * 2 + x / 2 ^ n % 2
reverse_last n x = rw (← add-one n, reverse_split, one_bit)

-- only the lowest bits count
pub reverse_mod : (n x : ℕ) → reverse n (x % 2 ^ n) ≡ reverse n x
unfolding reverse
reverse_mod zero x = refl
reverse_mod (suc n) x = rw (← add-one n, mod-mod-pow x n 1, field x n 1, reverse_mod n (x / 2))

-- the reversal of b + d bits, above its lowest d: that of the lowest b bits
pub reverse_high : (b d x : ℕ) → reverse (b + d) x / 2 ^ d ≡ reverse b x
reverse_high b d x = rw reverse_split (high (reverse b x) d (reverse_lt d (x / 2 ^ b)))

-- reversed twice, the lowest bits are back
pub reverse_twice : (n x : ℕ) → reverse n (reverse n x) ≡ x % 2 ^ n
unfolding reverse
reverse_twice zero x = rw mod-one
reverse_twice (suc n) x =
    let below = reverse_lt n (x / 2) in
    rw (reverse_last n (x % 2 * 2 ^ n + reverse n (x / 2)), ← reverse_mod n (x % 2 * 2 ^ n + reverse n (x / 2)), low (x % 2) n below, high (x % 2) n below, reverse_twice n (x / 2), mod-mod, ← add-one n, mod-pow-add x n 1)

-- all ones stay all ones
pub reverse_ones : (n : ℕ) → reverse n (2 ^ n - 1) ≡ 2 ^ n - 1
unfolding reverse
reverse_ones zero = refl
reverse_ones (suc n) =
    let pos = pow_pos n in
    let odd : (2 ^ n + 2 ^ n - 1) % 2 ≡ 1 = omega arith in
    let half : (2 ^ n + 2 ^ n - 1) / 2 ≡ 2 ^ n - 1 = omega arith in
    rw (two-pow-succ, odd, half, reverse_ones n) (omega arith)

-- zero stays zero
pub reverse_zero : (n : ℕ) → reverse n 0 ≡ 0
unfolding reverse
reverse_zero zero = refl
reverse_zero (suc n) = rw (zero-mul, reverse_zero n)

-- d zeros below the lowest b bits come to stand above their reversal
pub reverse_shifted : (b d x : ℕ) → reverse (b + d) (x * 2 ^ d) ≡ reverse b x
reverse_shifted b d x =
    rw (add_comm b d, reverse_split, ← reverse_mod d (x * 2 ^ d), mul-mod_left, reverse_zero, zero-mul, zero-add, shl-shr)

-- the remainder of a shifted number
pub mod_shifted : (b d x : ℕ) → x * 2 ^ d % 2 ^ (b + d) ≡ x % 2 ^ b * 2 ^ d
mod_shifted b d x = rw (mod-pow-add, shl-shr, mul-mod_left, add-zero)
