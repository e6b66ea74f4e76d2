-- `begin_iterator` meets its contract: a state that is not sound is refused.
use Rattle.model.specs.Iterators.{begin_iterator}
use Rattle.memory.proofs.Orientation.{reading_bad_state}
use Rattle.iterator.proofs.Answering.{begun}
use Rattle.iterator.proofs.plain.begin_iterator.Goals as goal

pub returns-in_err-require_sound : goal.returns-in_err-require_sound
unfolding begin_iterator
returns-in_err-require_sound c = reading_bad_state _ _ _ _ _ _ c.from_residual.ensures.1 c.in_err-require_sound.ensures _

pub returns : goal.returns
returns c = search (begun, c.in_ok-require_sound.ensures)
