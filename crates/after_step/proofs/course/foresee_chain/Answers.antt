-- `after_step::course::foresee_chain` meets its contract: the survey tells what moves, and with the old table's
-- chain and the new one's whether the key is held after the move.
use borrow.Author.Rules.{rules}
use Rattle.after_step.proofs.Deciding.{moving_room, old_enough, new_enough}
use Rattle.after_step.proofs.Courses.{foreseen_unsound, foreseen_old, foreseen_new, foreseen_moving}
use Rattle.after_step.proofs.course.foresee_chain.Goals as goal

pub overflow_sub-left : goal.overflow_sub-left
overflow_sub-left c = search (rules, old_enough, c.in_ok-moving.ensures)

pub overflow_add-budget : goal.overflow_add-budget
overflow_add-budget c = search (moving_room, c.in_ok-moving.ensures)

pub overflow_sub-budget : goal.overflow_sub-budget
overflow_sub-budget c = search (new_enough, c.in_ok-moving.ensures)

pub returns-in_err-moving : goal.returns-in_err-moving
returns-in_err-moving c = search (foreseen_unsound, c.from_residual.ensures.1, c.in_err-moving.ensures)

pub returns-in_err-in_old : goal.returns-in_err-in_old
returns-in_err-in_old c = search (foreseen_old, c.from_residual-in_err-in_old.ensures.1, c.in_err-in_old.ensures, c.in_ok-moving.ensures)

pub returns-in_err-in_new : goal.returns-in_err-in_new
returns-in_err-in_new c =
    search (foreseen_new, c.from_residual-in_err-in_new.ensures.1, c.in_err-in_new.ensures, c.in_ok-in_old.ensures, c.in_ok-moving.ensures)

pub returns : goal.returns
returns c = search (foreseen_moving, c.in_ok-in_new.ensures, c.in_ok-in_old.ensures, c.in_ok-moving.ensures)
