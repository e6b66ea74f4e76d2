-- The goals of `prune_chain` that the search leaves.
use Rattle.repair.proofs.Pruning.{linking_next, linking_end, linking_out}
use Rattle.repair.proofs.prune.prune_chain.Goals as goal

pub loop-preserved : goal.loop-preserved
loop-preserved c = search linking_next

pub returns-after-loop-clause-entries_after : goal.returns-after-loop-clause-entries_after
returns-after-loop-clause-entries_after c = search linking_out

pub returns-then-at-eq0-clause-entries_after : goal.returns-then-at-eq0-clause-entries_after
returns-then-at-eq0-clause-entries_after c = search linking_end
