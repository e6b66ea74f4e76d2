-- `dict_delete::delete::step_then_delete` meets its contract: the step is refused, or the key is deleted from what it leaves.
use Rattle.after_step.proofs.Deciding.{exit_is}
use Rattle.dict_delete.proofs.Deleting.{delete_refused, then_sound, delete_held}
use Rattle.dict_delete.proofs.delete.step_then_delete.Goals as goal

pub returns-in_err-then : goal.returns-in_err-then
returns-in_err-then c = rw (exit_is _ _ c.from_residual.ensures.1) (search (delete_refused, c.in_err-then.ensures))

pub delete_alone-requires : goal.delete_alone-requires
delete_alone-requires c = search (then_sound, c.in_ok-then.ensures)

-- the key is deleted from what the step leaves
pub returns : goal.returns
returns c = search (delete_held, c.in_ok-then.ensures)
