-- `verify::held::count_held` meets its contract: the count so far is that of the entries before n.
use Rattle.verify.proofs.Selves.{Counting}
use Rattle.verify.proofs.held.count_held.Given as goal

abbrev pub invariant-loop-n : goal.invariant-loop-n
invariant-loop-n l = Counting l.s l.current l.other l.entries l.n l.count
