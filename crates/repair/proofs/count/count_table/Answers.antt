-- The goals of `count_table` that the search leaves.
use Rattle.repair.proofs.Tallying.{tally_start, tally_small, tally_next, tally_end}
use Rattle.repair.proofs.count.count_table.Goals as goal

pub loop-b-init : goal.loop-b-init
loop-b-init c = search tally_start

pub overflow_add-count : goal.overflow_add-count
overflow_add-count c = search tally_small

pub loop-b-preserved : goal.loop-b-preserved
loop-b-preserved c = search tally_next

pub returns : goal.returns
returns c = search tally_end
