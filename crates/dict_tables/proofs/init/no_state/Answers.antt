-- `dict_tables::init::no_state` meets its contract: it is the empty state of zeros, with no permission to grow.
use Rattle.model.specs.Memory.{size_of, used_of}
use Rattle.model.specs.Calls.{noted, state_of}
use Rattle.dict_tables.proofs.NewStore.{not_allowed}
use Rattle.dict_tables.proofs.init.no_state.Goals as goal

pub returns : goal.returns
unfolding noted state_of size_of used_of
returns c = search not_allowed
