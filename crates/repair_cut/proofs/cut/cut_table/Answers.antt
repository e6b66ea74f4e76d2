-- The goals of `cut_table` that the search leaves.
use Rattle.repair_cut.proofs.Cutting.{cutting_start, cutting_next, cutting_end}
use Rattle.repair_cut.proofs.cut.cut_table.Goals as goal

pub loop-b-init : goal.loop-b-init
loop-b-init c = search cutting_start

pub loop-b-preserved : goal.loop-b-preserved
loop-b-preserved c = search cutting_next

pub returns : goal.returns
returns c = search cutting_end
