-- `dict_delete::delete::delete` meets its contract: the test of the state comes first, and then whether a step is due.
use borrow.Author.Rules.{rules}
use Rattle.dict_rehash.proofs.Due.{due_tested}
use Rattle.after_step.proofs.Deciding.{exit_is}
use Rattle.dict_delete.proofs.Deleting.{delete_unsound, delete_now}
use Rattle.dict_delete.proofs.delete.delete.Goals as goal

pub returns-in_err-require_sound : goal.returns-in_err-require_sound
returns-in_err-require_sound c =
    let h = c.in_err-require_sound.ensures in rw (exit_is _ _ c.from_residual.ensures.1, h.0) (delete_unsound _ _ _ _ _ h.1)

pub delete_after_step-requires : goal.delete_after_step-requires
delete_after_step-requires c = record { sound = search (rules, c.in_ok-require_sound.ensures); step_due = search due_tested }

pub returns-then-s-2 : goal.returns-then-s-2
returns-then-s-2 c = search (delete_now, due_tested)

pub returns-else-s-2 : goal.returns-else-s-2
returns-else-s-2 c = search (delete_now, due_tested)
