-- `memory::state::is_sound_capacity` meets its contract: the tests are the definition's.
use Rattle.std.proofs.Common.{rules}
use Rattle.model.specs.Memory.{sound_capacity}
use Rattle.model.specs.Limits.{legal_capacity, largest_capacity}
use Rattle.memory.proofs.state.is_sound_capacity.Goals as goal

pub overflow_mul-result : goal.overflow_mul-result
unfolding sound_capacity legal_capacity largest_capacity
overflow_mul-result c = search rules

pub returns : goal.returns
unfolding sound_capacity legal_capacity largest_capacity
returns c = search rules
