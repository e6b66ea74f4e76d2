-- The reversal of a number's lowest bits.
use Rattle.std.specs.Prelude.{ℕ, zero, suc, ◌+◌, ◌*◌, ◌/◌, ◌%◌, ◌^◌}

-- the lowest n bits of x in the opposite order: bit 0 becomes bit n - 1
unfoldable pub reverse : ℕ → ℕ → ℕ
reverse zero x = 0
reverse (suc n) x = x % 2 * 2 ^ n + reverse n (x / 2)

-- a cursor has 32 bits (SPECIFICATION, "The walk": rev)
unfoldable pub rev : ℕ → ℕ
rev x = reverse 32 x
