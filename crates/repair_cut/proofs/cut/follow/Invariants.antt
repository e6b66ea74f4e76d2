-- `repair_cut::cut::follow` meets its contract: the entries met from here and those before are all that are met.
use Rattle.repair_cut.proofs.Cutting.{Following}
use Rattle.repair_cut.proofs.cut.follow.Given as goal

abbrev pub invariant-loop : goal.invariant-loop
invariant-loop l = Following l.entries l.capacity l.size l.b l.head l.initial.marks l.marks l.at l.last l.counter
