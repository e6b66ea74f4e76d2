-- `repair::repair::repair` meets its contract: a state that is not sound is refused.
use Rattle.model.specs.Repair as definition
use Rattle.memory.proofs.Orientation.{writing_bad_state}
use Rattle.memory.proofs.Tested.{lent_first, lent_second}
use Rattle.repair.proofs.Orienting.{repair_first, repair_second}
use Rattle.repair.proofs.repair.repair.Goals as goal

pub repair_sound-requires : goal.repair_sound-requires
repair_sound-requires c = search (lent_second, c.in_ok-require_sound.ensures)

pub repair_sound-requires-else-s : goal.repair_sound-requires-else-s
repair_sound-requires-else-s c = search (lent_first, c.in_ok-require_sound.ensures)

pub returns-in_err-require_sound : goal.returns-in_err-require_sound
unfolding definition.repair
returns-in_err-require_sound c = writing_bad_state _ _ _ _ _ _ c.from_residual.ensures.1 c.in_err-require_sound.ensures _

pub returns-then-s : goal.returns-then-s
returns-then-s c = search (repair_second, c.in_ok-require_sound.ensures)

pub returns-else-s : goal.returns-else-s
returns-else-s c = search (repair_first, c.in_ok-require_sound.ensures)
