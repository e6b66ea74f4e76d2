-- `verify::verify::verify` meets its contract: a state that is not sound is refused.
use Rattle.model.specs.Verify as definition
use Rattle.memory.proofs.Orientation.{reading_bad_state}
use Rattle.memory.proofs.Tested.{lent_first, lent_second}
use Rattle.verify.proofs.Parts.{verify_first, verify_second}
use Rattle.verify.proofs.verify.verify.Goals as goal

pub verified-requires : goal.verified-requires
verified-requires c = search (lent_second, c.in_ok-require_sound.ensures)

pub verified-requires-else-s : goal.verified-requires-else-s
verified-requires-else-s c = search (lent_first, c.in_ok-require_sound.ensures)

pub returns-then-s : goal.returns-then-s
returns-then-s c = search (verify_second, c.in_ok-require_sound.ensures)

pub returns-else-s : goal.returns-else-s
returns-else-s c = search (verify_first, c.in_ok-require_sound.ensures)

pub returns-in_err-require_sound : goal.returns-in_err-require_sound
unfolding definition.verify
returns-in_err-require_sound c = reading_bad_state _ _ _ _ _ _ c.from_residual.ensures.1 c.in_err-require_sound.ensures _
