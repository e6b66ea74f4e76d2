-- `end_iterator` meets its contract: each way out is a case of the definition.
use Rattle.model.specs.Iterators.{end_iterator}
use Rattle.memory.proofs.Orientation.{reading_bad_state}
use Rattle.iterator.proofs.Answering.{ended, changed}
use Rattle.iterator.proofs.plain.end_iterator.Goals as goal

pub returns-in_err-require_sound : goal.returns-in_err-require_sound
unfolding end_iterator
returns-in_err-require_sound c = reading_bad_state _ _ _ _ _ _ c.from_residual.ensures.1 c.in_err-require_sound.ensures _

pub returns-then-fingerprint-fingerprint_of : goal.returns-then-fingerprint-fingerprint_of
returns-then-fingerprint-fingerprint_of c = search (changed, c.in_ok-require_sound.ensures)

pub returns : goal.returns
returns c = search (ended, c.in_ok-require_sound.ensures)
