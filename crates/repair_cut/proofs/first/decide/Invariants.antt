-- `repair_cut::first::decide` meets its contract: the entries before n are marked.
use Rattle.repair_cut.proofs.Deciding.{Decides}
use Rattle.repair_cut.proofs.first.decide.Given as goal

abbrev pub invariant-loop-n : goal.invariant-loop-n
invariant-loop-n l = Decides l.fn.s l.current l.other l.entries l.initial.marks l.marks l.n
