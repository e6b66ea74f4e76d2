-- `end_safe` meets its contract: each way out is a case of the definition.
use Rattle.model.specs.Memory.{size_of, used_of}
use Rattle.model.specs.Calls.{state_of, noted}
use Rattle.model.specs.Iterators.{end_safe}
use Rattle.memory.proofs.Orientation.{reading_bad_state}
use Rattle.iterator.proofs.Answering.{one_ended, none_begun}
use Rattle.iterator.proofs.safe.end_safe.Goals as goal

pub returns-in_err-require_sound : goal.returns-in_err-require_sound
unfolding end_safe
returns-in_err-require_sound c = reading_bad_state _ _ _ _ _ _ c.from_residual.ensures.1 c.in_err-require_sound.ensures _

pub returns-then-s-eq0 : goal.returns-then-s-eq0
returns-then-s-eq0 c = search (none_begun, c.in_ok-require_sound.ensures)

pub returns : goal.returns
unfolding noted state_of size_of used_of
returns c = search (one_ended, c.in_ok-require_sound.ensures)
