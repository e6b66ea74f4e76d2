-- The goals of `next_kept` that the search leaves.
use Rattle.std.proofs.Common.{arith}
use Rattle.repair.proofs.Pruning.{nexting_out, nexting_found, nexting_next, nexting_end}
use Rattle.repair.proofs.prune.next_kept.Goals as goal

pub returns-then-at-eq0 : goal.returns-then-at-eq0
returns-then-at-eq0 c = (search (nexting_out, c.then-at-eq0.either), omega arith)

pub returns-then-mark_of-ne0 : goal.returns-then-mark_of-ne0
returns-then-mark_of-ne0 c = (search nexting_found, omega arith)

pub loop-preserved : goal.loop-preserved
loop-preserved c = search nexting_next

pub returns : goal.returns
returns c = (search nexting_end, omega arith)
