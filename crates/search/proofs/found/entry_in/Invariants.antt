-- `search::found::entry_in` meets its contract: the search from here is the search from the head.
use Rattle.memory.specs.Length.{bucket_chain}
use Rattle.search.proofs.Seeking.{Seeking}
use Rattle.search.proofs.found.entry_in.Given as goal

abbrev pub invariant-loop-n : goal.invariant-loop-n
invariant-loop-n l = Seeking l.entries l.key l.chain (bucket_chain l.size l.entries l.capacity l.used l.buckets l.bucket)

abbrev pub decreases-loop-n : goal.decreases-loop-n
decreases-loop-n l = l.chain.budget
