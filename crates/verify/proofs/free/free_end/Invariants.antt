-- `verify::free::free_end` meets its contract: the end from here is the end from the head.
use Rattle.verify.proofs.Ending.{Ending}
use Rattle.verify.proofs.free.free_end.Given as goal

abbrev pub invariant-loop : goal.invariant-loop
invariant-loop l = Ending l.entries l.capacity l.count l.head l.at l.counter l.last
