-- The code's way to the next cursor: `|` with the size's negative sets the bits above the table's.
use Rattle.std.proofs.Common.{◌≡◌, ℕ, ◌+◌, ◌-◌, ◌*◌, ◌/◌, ◌%◌, ◌^◌, ◌<◌, ◌≤◌, sym, ap, ◌∙◌, subst, le_of_suc-le-suc, add-zero, mod-lt, mod-eq_of_lt, add_comm, lt_of_not-le, arith, pow_pos, shr_lt}
use native.Mathlib.Nat.{le_dest}
use lib.Pow.{pow-lt, split, high_ones}
use lib.Bits.{bit_or, or_block, or_zero_r, or_add_and, and_mask}
use Rattle.cursor.specs.Reverse.{rev}
use Rattle.cursor.specs.Next.{next, set_high, add_one}

-- a number of d bits adds nothing to d ones
or_ones : (d x : ℕ) → x < 2 ^ d → bit_or x (2 ^ d - 1) ≡ 2 ^ d - 1
or_ones d x h = omega (arith, or_add_and x (2 ^ d - 1), and_mask x d, mod-eq_of_lt h)

or_high : (d b v : ℕ) → v < 2 ^ (d + b) → bit_or v (2 ^ (d + b) - 2 ^ b) ≡ v % 2 ^ b + (2 ^ (d + b) - 2 ^ b)
or_high d b v h =
    let below = mod-lt v (pow_pos b) in
    let pos = pow_pos b in
    ap (λ x. bit_or x (2 ^ (d + b) - 2 ^ b)) (sym (split v b))
    ∙ rw (high_ones, ← add-zero ((2 ^ d - 1) * 2 ^ b), or_block b (v / 2 ^ b) (2 ^ d - 1) (v % 2 ^ b) 0, or_ones d (v / 2 ^ b) (shr_lt d b h), or_zero_r) (omega arith)

-- a power of two below another has a smaller exponent
pub exponent_le : (b n : ℕ) → 2 ^ b ≤ 2 ^ n → b ≤ n
exponent_le b n h = le_of_suc-le-suc (lt_of_not-le (λ l. omega (arith, pow-lt l)))

-- `|` with the negative of a size
pub high_set : (b v : ℕ) → b ≤ 32 → v < 2 ^ 32 → bit_or v (2 ^ 32 - 2 ^ b) ≡ v % 2 ^ b + (2 ^ 32 - 2 ^ b)
high_set b v h k =
    let (d, g) = le_dest h in
    subst (λ w. v < 2 ^ w → bit_or v (2 ^ w - 2 ^ b) ≡ v % 2 ^ b + (2 ^ w - 2 ^ b)) (add_comm d b ∙ g) (or_high d b v) k

-- the steps of the code, one after the other, give the next cursor
pub next_computed :
    (size cursor negative first r : ℕ)
    → size < 2 ^ 32
    → cursor < 2 ^ 32
    → negative < 2 ^ 32
    → (negative + size) % 2 ^ 32 ≡ 0
    → first ≡ rev (bit_or cursor negative)
    → r ≡ rev ((first + 1) % 2 ^ 32)
    → (b : ℕ)
    → size ≡ 2 ^ b
    → r ≡ next size cursor
unfolding next set_high add_one
next_computed size cursor negative first r s k n m f e b p =
    let negated : negative ≡ 2 ^ 32 - 2 ^ b = omega (arith, p, pow_pos b) in
    let set : bit_or cursor negative ≡ cursor % 2 ^ b + (2 ^ 32 - 2 ^ b) =
    rw negated (high_set b cursor (exponent_le b 32 (omega (arith, p))) k) in
    rw (e, f, set, p)
