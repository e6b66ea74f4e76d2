-- `memory::chain::chain_length` meets its contract: the entries met, and what is left of the chain, are the chain.
use Rattle.model.specs.Memory.{chain, in_bucket}
use Rattle.memory.proofs.Counting.{Counting}
use Rattle.memory.proofs.chain.chain_length.Given as goal

abbrev pub invariant-loop-count : goal.invariant-loop-count
invariant-loop-count l =
    Counting l.budget l.count l.chain (chain (in_bucket l.size l.b) l.entries l.capacity l.budget l.head)

abbrev pub decreases-loop-count : goal.decreases-loop-count
decreases-loop-count l = l.chain.budget
