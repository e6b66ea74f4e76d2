-- `memory::state::is_sound` meets its contract: either half of the definition, by the flag.
use Rattle.model.proofs.Soundness.{sound_rehashing, sound_resting}
use Rattle.memory.proofs.state.is_sound.Goals as goal

pub returns-then-s : goal.returns-then-s
returns-then-s c = search sound_rehashing

pub returns-else-s : goal.returns-else-s
returns-else-s c = search sound_resting
