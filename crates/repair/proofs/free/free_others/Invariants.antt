-- `repair::free::free_others` meets its contract: what is freed from here down, and what was freed, is all.
use Rattle.repair.proofs.Freeing.{FreeingDown}
use Rattle.repair.proofs.free.free_others.Given as goal

abbrev pub invariant-loop-n : goal.invariant-loop-n
invariant-loop-n l = FreeingDown l.marks l.capacity l.initial.entries l.entries l.head l.n
