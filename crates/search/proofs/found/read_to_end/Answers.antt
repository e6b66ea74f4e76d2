-- `search::found::read_to_end` meets its contract: each way out, by what the step along the chain came to.
use Rattle.search.proofs.Reading.{reading_start, reading_next, reading_out, reading_end}
use Rattle.search.proofs.found.read_to_end.Goals as goal

pub loop-init : goal.loop-init
loop-init c = reading_start _

pub returns-in_err-next : goal.returns-in_err-next
returns-in_err-next c = reading_out _ _ c.loop.invariant _ _ c.in_err-next.ensures c.from_residual.ensures.1

pub loop-preserved : goal.loop-preserved
loop-preserved c = reading_next _ _ c.loop.invariant _ _ (rw c.in-Some.is at c.in_ok-next.ensures)

pub returns : goal.returns
returns c = reading_end _ _ c.loop.invariant (rw c.in_default.is at c.in_ok-next.ensures)
