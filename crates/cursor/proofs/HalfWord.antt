-- The code's way to the next cursor of a table of at most 2^16 buckets, by reversals of 16 bits.
-- Assumes nothing.
use Rattle.std.proofs.Common.{◌≡◌, ℕ, ◌+◌, ◌-◌, ◌%◌, ◌^◌, ◌<◌, ◌≤◌, sym, ap, ◌∙◌, mod-lt, arith, pow_pos}
use lib.Bits.{bit_or}
use Rattle.cursor.specs.Reverse.{reverse}
use Rattle.cursor.specs.Next.{next}
use Rattle.cursor.proofs.Reversal.{reverse_lt, reverse_mod}
use Rattle.cursor.proofs.NextCursor.{next_sixteen}
use Rattle.cursor.proofs.HighBits.{exponent_le, high_set}

pub half_computed :
    (size cursor negative first counted r : ℕ)
    → size ≤ 65536
    → cursor < 2 ^ 32
    → negative < 2 ^ 32
    → (negative + size) % 2 ^ 32 ≡ 0
    → first ≡ reverse 16 (bit_or cursor negative)
    → counted ≡ (first + 1) % 2 ^ 32
    → r ≡ reverse 16 counted
    → (b : ℕ)
    → size ≡ 2 ^ b
    → r ≡ next size cursor
half_computed size cursor negative first counted r s k n m f a e b p =
    let pos = pow_pos b in
    let low : b ≤ 16 = exponent_le b 16 (omega (arith, p)) in
    let below = mod-lt cursor pos in
    let negated : negative ≡ 2 ^ 32 - 2 ^ b = omega (arith, p, pos) in
    let set : bit_or cursor negative ≡ cursor % 2 ^ b + (2 ^ 32 - 2 ^ b) = rw negated (high_set b cursor (omega (arith, low)) k) in
    let cut : (cursor % 2 ^ b + (2 ^ 32 - 2 ^ b)) % 2 ^ 16 ≡ cursor % 2 ^ b + (2 ^ 16 - 2 ^ b) = omega (arith, below, p, pos) in
    let same : first ≡ reverse 16 (cursor % 2 ^ b + (2 ^ 16 - 2 ^ b)) =
    f ∙ ap (reverse 16) set ∙ sym (reverse_mod 16 (cursor % 2 ^ b + (2 ^ 32 - 2 ^ b))) ∙ ap (reverse 16) cut in
    let small = reverse_lt 16 (cursor % 2 ^ b + (2 ^ 16 - 2 ^ b)) in
    let up : counted ≡ first + 1 = omega (arith, a, same, small) in
    rw p
    (e ∙ ap (reverse 16) up ∙ sym (reverse_mod 16 (first + 1)) ∙ ap (λ x. reverse 16 ((x + 1) % 2 ^ 16)) same
    ∙ sym (next_sixteen b cursor low))
