-- `begin_safe` meets its contract: each way out is a case of the definition.
use Rattle.model.specs.Limits.{most_safe_iterators}
use Rattle.model.specs.Memory.{size_of, used_of}
use Rattle.model.specs.Calls.{state_of, noted}
use Rattle.model.specs.Iterators.{begin_safe}
use Rattle.memory.proofs.Orientation.{reading_bad_state}
use Rattle.iterator.proofs.Answering.{one_begun, too_many}
use Rattle.iterator.proofs.safe.begin_safe.Goals as goal

pub returns-in_err-require_sound : goal.returns-in_err-require_sound
unfolding begin_safe
returns-in_err-require_sound c = reading_bad_state _ _ _ _ _ _ c.from_residual.ensures.1 c.in_err-require_sound.ensures _

pub returns-then-s-ge-MOST_SAFE_ITERATORS : goal.returns-then-s-ge-MOST_SAFE_ITERATORS
unfolding most_safe_iterators
returns-then-s-ge-MOST_SAFE_ITERATORS c = search (too_many, c.in_ok-require_sound.ensures)

pub returns : goal.returns
unfolding most_safe_iterators noted state_of size_of used_of
returns c = search (one_begun, c.in_ok-require_sound.ensures)
