-- `verify::table::table_checked` meets its contract: the chains before bucket b are sound, and what is left of the count is for the others.
use Rattle.verify.proofs.Tabling.{Tabling}
use Rattle.verify.proofs.table.table_checked.Given as goal

abbrev pub invariant-loop-b : goal.invariant-loop-b
invariant-loop-b l = Tabling l.entries l.capacity l.used l.buckets l.size l.left l.b
