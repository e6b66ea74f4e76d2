-- `cursor::reverse_byte` meets its contract: antt computes the test of the whole table.
use Rattle.std.proofs.Common.{refl}
use Rattle.cursor.specs.Reverse.{reverse}
use Rattle.cursor.proofs.ByteTable.{tested}
use Rattle.cursor.proofs.reverse_byte.Goals as goal

pub returns : goal.returns
unfolding reverse
returns c = tested _ refl _ _ c.from.ensures c.ranges.byte.fits
