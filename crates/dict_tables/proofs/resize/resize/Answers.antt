-- `dict_tables::resize::resize` meets its contract: a state that is not sound is refused, and the new table lies in the other buffer.
use Rattle.model.specs.Calls.{resize}
use Rattle.memory.proofs.Orientation.{writing_bad_state, writing_first, writing_second}
use Rattle.dict_tables.proofs.resize.resize.Goals as goal

pub returns-in_err-require_sound : goal.returns-in_err-require_sound
unfolding resize
returns-in_err-require_sound c = writing_bad_state _ _ _ _ _ _ c.from_residual.ensures.1 c.in_err-require_sound.ensures _

pub returns-then-s : goal.returns-then-s
unfolding resize
returns-then-s c = writing_second _ _ _ _ c.in_ok-require_sound.ensures _ _ _ _ _ _ c.if-s.true (c.begin.ensures _ _)

pub returns-else-s : goal.returns-else-s
unfolding resize
returns-else-s c = writing_first _ _ _ _ c.in_ok-require_sound.ensures _ _ _ _ _ _ c.if-s.false (c.begin-else-s.ensures _ _)
