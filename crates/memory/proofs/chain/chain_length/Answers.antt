-- `memory::chain::chain_length` meets its contract: each way out, by what the step along the chain came to.
use Rattle.memory.proofs.Counting.{counting_start, counting_out, counting_next, counting_end}
use Rattle.memory.proofs.chain.chain_length.Goals as goal

pub loop-count-init : goal.loop-count-init
loop-count-init c = counting_start _

pub returns-in_err-next : goal.returns-in_err-next
returns-in_err-next c = counting_out _ _ _ _ c.loop-count.invariant _ _ c.in_err-next.ensures c.from_residual.ensures.1

pub loop-count-preserved : goal.loop-count-preserved
loop-count-preserved c = counting_next _ _ _ _ c.loop-count.invariant _ _ (rw c.in-Some.is at c.in_ok-next.ensures)

pub returns : goal.returns
returns c = counting_end _ _ _ _ c.loop-count.invariant (rw c.in_default.is at c.in_ok-next.ensures)
