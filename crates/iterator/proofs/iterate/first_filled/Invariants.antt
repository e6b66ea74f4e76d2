-- `first_filled` meets its contract: the search from here on is that from the first bucket on.
use Rattle.iterator.proofs.Searching.{Searching}
use Rattle.iterator.proofs.iterate.first_filled.Given as goal

abbrev pub invariant-loop-b : goal.invariant-loop-b
invariant-loop-b l = Searching l.table.buckets.now l.from l.table.size l.b
