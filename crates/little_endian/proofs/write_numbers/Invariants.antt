-- `little_endian::write_numbers` meets its contract. The invariant: the bytes so far are those of the numbers so far.
use Rattle.std.proofs.Common.{◌≡◌, ◌*◌, length, take}
use Rattle.std.specs.List.{flat_map}
use Rattle.std.specs.Int.{w32, to_le_bytes}
use Rattle.little_endian.proofs.write_numbers.Given as goal

abbrev pub invariant-loop-i : goal.invariant-loop-i
invariant-loop-i l = (length l.bytes ≡ length l.from * 4) × (take (l.i * 4) l.bytes ≡ flat_map (to_le_bytes w32) (take l.i l.from))
