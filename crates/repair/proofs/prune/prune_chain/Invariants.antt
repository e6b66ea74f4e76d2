-- `repair::prune::prune_chain` meets its contract: what is linked from here, and what was linked, is the whole chain.
use Rattle.repair.proofs.Pruning.{Linking}
use Rattle.repair.proofs.prune.prune_chain.Given as goal

abbrev pub invariant-loop : goal.invariant-loop
invariant-loop l = Linking l.marks l.capacity l.first l.initial.entries l.entries l.at l.counter
