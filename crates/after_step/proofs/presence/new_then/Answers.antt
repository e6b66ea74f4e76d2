-- `after_step::presence::new_then` meets its contract: the survey of the chain as it is, and one compare.
use Rattle.after_step.proofs.Deciding.{new_unsound, new_shared, new_apart}
use Rattle.after_step.proofs.presence.new_then.Goals as goal

pub returns-in_err-there : goal.returns-in_err-there
returns-in_err-there c = search (new_unsound, c.from_residual.ensures.1, c.in_err-there.ensures)

pub returns-then-there-moving : goal.returns-then-there-moving
returns-then-there-moving c = search (new_shared, c.in_ok-there.ensures)

pub returns : goal.returns
returns c = search (new_apart, c.in_ok-there.ensures)
