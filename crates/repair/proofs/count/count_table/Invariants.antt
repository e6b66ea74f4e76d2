-- `repair::count::count_table` meets its contract: the count so far is that of the chains before bucket b.
use Rattle.repair.proofs.Tallying.{Tally}
use Rattle.repair.proofs.count.count_table.Given as goal

abbrev pub invariant-loop-b : goal.invariant-loop-b
invariant-loop-b l = Tally l.buckets l.entries l.capacity l.size l.count l.b
