-- `memory::state::is_sound_base` meets its contract: the tests are the definition's.
use Rattle.std.proofs.Common.{rules}
use Rattle.model.specs.Limits.{most_safe_iterators}
use Rattle.model.specs.Memory.{keys_held, sound_base}
use Rattle.memory.proofs.state.is_sound_base.Goals as goal

pub overflow_cast-held : goal.overflow_cast-held
unfolding sound_base keys_held most_safe_iterators
overflow_cast-held c = search rules

pub overflow_cast-held-2 : goal.overflow_cast-held-2
unfolding sound_base keys_held most_safe_iterators
overflow_cast-held-2 c = search rules

pub overflow_add-held : goal.overflow_add-held
unfolding sound_base keys_held most_safe_iterators
overflow_add-held c = search rules

pub is_sound_capacity-requires : goal.is_sound_capacity-requires
unfolding sound_base keys_held most_safe_iterators
is_sound_capacity-requires c = search rules

pub is_sound_table-requires : goal.is_sound_table-requires
unfolding sound_base keys_held most_safe_iterators
is_sound_table-requires c = search rules

pub overflow_cast-result : goal.overflow_cast-result
unfolding sound_base keys_held most_safe_iterators
overflow_cast-result c = search rules

pub returns : goal.returns
unfolding sound_base keys_held most_safe_iterators
returns c = cc
