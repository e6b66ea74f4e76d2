-- `dict_rehash::rehash::rehash_step` meets its contract: the state's flag says which buffer is the current one.
use Rattle.model.specs.Calls.{rehash_step}
use Rattle.memory.proofs.Orientation.{writing_bad_state}
use Rattle.memory.proofs.Tested.{lent_first, lent_second}
use Rattle.dict_rehash.proofs.Stepping.{step_lent_first, step_lent_second}
use Rattle.dict_rehash.proofs.rehash.rehash_step.Goals as goal

pub returns-in_err-require_sound : goal.returns-in_err-require_sound
unfolding rehash_step
returns-in_err-require_sound c = writing_bad_state _ _ _ _ _ _ c.from_residual.ensures.1 c.in_err-require_sound.ensures _

pub step_in-requires : goal.step_in-requires
step_in-requires c = search (lent_second, c.in_ok-require_sound.ensures)

pub step_in-requires-else-s : goal.step_in-requires-else-s
step_in-requires-else-s c = search (lent_first, c.in_ok-require_sound.ensures)

pub returns-then-s : goal.returns-then-s
returns-then-s c = search (step_lent_second, c.in_ok-require_sound.ensures)

pub returns-else-s : goal.returns-else-s
returns-else-s c = search (step_lent_first, c.in_ok-require_sound.ensures)
