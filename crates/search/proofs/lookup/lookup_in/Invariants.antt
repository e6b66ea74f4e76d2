-- `search::lookup::lookup_in` meets its contract: the search from here is the search from the head.
use Rattle.memory.specs.Length.{bucket_chain}
use Rattle.search.proofs.Searching.{Searching}
use Rattle.search.proofs.lookup.lookup_in.Given as goal

abbrev pub invariant-loop-next : goal.invariant-loop-next
invariant-loop-next l =
    Searching l.entries l.key l.table l.before l.found l.chain (bucket_chain l.size l.entries l.capacity l.used l.buckets l.bucket)

abbrev pub decreases-loop-next : goal.decreases-loop-next
decreases-loop-next l = l.chain.budget
