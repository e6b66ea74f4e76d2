-- The goal of `read_numbers` that the search leaves.
use Rattle.std.proofs.Common.{arith}
use Rattle.little_endian.proofs.Laws.{read_end}
use Rattle.little_endian.proofs.read_numbers.Goals as goal

pub returns : goal.returns
returns c = read_end _ _ _ _ c.as_chunks.ensures.front c.loop-i.invariant (omega arith) (omega arith) c.type_inv.bytes
