-- `memory::state::is_sound_table` meets its contract: the tests are the definition's.
use Rattle.std.proofs.Common.{rules}
use Rattle.model.specs.Memory.{sound_table}
use Rattle.memory.proofs.state.is_sound_table.Goals as goal

pub is_legal_size-requires : goal.is_legal_size-requires
unfolding sound_table
is_legal_size-requires c = search rules

pub returns : goal.returns
unfolding sound_table
returns c = cc
