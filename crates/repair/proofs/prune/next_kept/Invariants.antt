-- `repair::prune::next_kept` meets its contract: the next from here is the next from the head.
use Rattle.repair.proofs.Pruning.{Nexting}
use Rattle.repair.proofs.prune.next_kept.Given as goal

abbrev pub invariant-loop : goal.invariant-loop
invariant-loop l = Nexting l.entries l.marks l.capacity l.head l.at l.counter
