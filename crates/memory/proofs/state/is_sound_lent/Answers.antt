-- `memory::state::is_sound_lent` meets its contract: the lengths are chosen by the flag, as in the definition.
use Rattle.std.proofs.Common.{rules}
use Rattle.memory.specs.Lent.{sound_lent}
use Rattle.memory.proofs.state.is_sound_lent.Goals as goal

pub choose-current-requires : goal.choose-current-requires
unfolding sound_lent
choose-current-requires c = search rules

pub choose-other-requires : goal.choose-other-requires
unfolding sound_lent
choose-other-requires c = search rules

pub is_sound-requires : goal.is_sound-requires
unfolding sound_lent
is_sound-requires c = search rules

pub returns : goal.returns
unfolding sound_lent
returns c = cc
