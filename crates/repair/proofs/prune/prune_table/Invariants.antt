-- `repair::prune::prune_table` meets its contract: the chains before bucket b are pruned.
use Rattle.std.proofs.Common.{drop}
use Rattle.repair.proofs.Pruning.{PruningUp}
use Rattle.repair.proofs.prune.prune_table.Given as goal

abbrev pub invariant-loop-head : goal.invariant-loop-head
invariant-loop-head l =
    PruningUp l.marks l.capacity (drop l.size l.fn.buckets) l.initial.head-items l.initial.entries l.head-items l.entries l.head-index
