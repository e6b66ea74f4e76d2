-- The steps by which the code mixes a number are those of the definition. To take off a number and one is to add all its bits
-- turned over.
-- Assumes nothing.
use Rattle.std.proofs.Common.{◌≡◌, ℕ, ◌+◌, ◌%◌, ◌^◌, ◌<◌, arith}
use lib.Bits.{bit_xor}
use Rattle.fingerprint.specs.Mix.{cut, plus, inverse, left, right, mixed}

-- all bits turned over are minus one less the number, so to add them is to subtract it and one
pub inverse_added : (h places shifted less r : ℕ) → h < 2 ^ 64 → less < 2 ^ 64 → r < 2 ^ 64
    → (r + 1) % 2 ^ 64 ≡ less → (less + h) % 2 ^ 64 ≡ shifted → shifted ≡ left places h → r ≡ plus (inverse h) (left places h)
unfolding plus cut inverse
inverse_added h places shifted less r hh hl hr e f g = omega arith

pub mixed_computed : (h a b c d e f high r : ℕ)
    → r ≡ (f + high) % 2 ^ 64
    → high ≡ left 31 f
    → f ≡ bit_xor e (right 28 e)
    → e ≡ plus (plus d (left 2 d)) (left 4 d)
    → d ≡ bit_xor c (right 14 c)
    → c ≡ plus (plus b (left 3 b)) (left 8 b)
    → b ≡ bit_xor a (right 24 a)
    → a ≡ plus (inverse h) (left 21 h)
    → r ≡ mixed h
unfolding mixed plus cut
mixed_computed h a b c d e f high r er eh ef ee ed ec eb ea = rw (er, eh, ef, ee, ed, ec, eb, ea)
