-- The goals of `table_checked` that the search leaves.
use Rattle.verify.proofs.Tabling.{tabling_start, tabling_out, tabling_fits, tabling_next, tabling_end}
use Rattle.verify.proofs.table.table_checked.Goals as goal

pub loop-b-init : goal.loop-b-init
loop-b-init c = search tabling_start

pub returns-in_default : goal.returns-in_default
returns-in_default c = search tabling_out

pub overflow_sub-left : goal.overflow_sub-left
overflow_sub-left c = search tabling_fits

pub loop-b-preserved : goal.loop-b-preserved
loop-b-preserved c = search tabling_next

pub returns : goal.returns
returns c = search (tabling_end, c.requires.buckets_fit)
