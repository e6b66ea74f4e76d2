-- The goals of `prune_table` that the search leaves.
use Rattle.repair.proofs.Pruning.{pruning_start, pruning_next, pruning_end}
use Rattle.repair.proofs.prune.prune_table.Goals as goal

pub loop-head-init : goal.loop-head-init
loop-head-init c = search pruning_start

pub loop-head-preserved : goal.loop-head-preserved
loop-head-preserved c = search pruning_next

pub returns : goal.returns
returns c = search (pruning_end, c.requires.buckets_fit)
