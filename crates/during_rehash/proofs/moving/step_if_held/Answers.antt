-- `during_rehash::moving::step_if_held` meets its contract: what a lookup tells once the step is taken decides.
use Rattle.after_step.proofs.Deciding.{exit_is}
use Rattle.during_rehash.proofs.Preparing.{untold_refused, absent_refused, held_taken}
use Rattle.during_rehash.proofs.moving.step_if_held.Goals as goal

pub returns-in_err-foresight : goal.returns-in_err-foresight
returns-in_err-foresight c = rw (exit_is _ _ c.from_residual.ensures.1) (search (untold_refused, c.in_err-foresight.ensures))

pub returns-then-foresight : goal.returns-then-foresight
returns-then-foresight c = search (held_taken, c.in_ok-foresight.ensures)

pub returns-else-foresight : goal.returns-else-foresight
returns-else-foresight c = search (absent_refused, c.in_ok-foresight.ensures)
