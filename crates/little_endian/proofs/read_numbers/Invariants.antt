-- `little_endian::read_numbers` meets its contract. The invariant: the numbers so far are those of the words so far.
use Rattle.std.proofs.Common.{◌≡◌, length, take, map}
use Rattle.std.specs.Int.{w32, from_le_bytes}
use Rattle.little_endian.proofs.read_numbers.Given as goal

abbrev pub invariant-loop-i : goal.invariant-loop-i
invariant-loop-i l = (length l.into ≡ length l.words) × (take l.i l.into ≡ map (from_le_bytes w32) (take l.i l.words))
