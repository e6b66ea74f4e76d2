-- `dict_delete::delete::step_lent` meets its contract: the flag says which lent buffer is current.
use Rattle.dict_delete.proofs.Deleting.{due_first, due_second, step_first, step_second}
use Rattle.dict_delete.proofs.delete.step_lent.Goals as goal

pub step_if_held-requires : goal.step_if_held-requires
step_if_held-requires c = search due_second

pub step_if_held-requires-else-s : goal.step_if_held-requires-else-s
step_if_held-requires-else-s c = search due_first

pub returns-then-s : goal.returns-then-s
returns-then-s c = search step_second

pub returns-else-s : goal.returns-else-s
returns-else-s c = search step_first
