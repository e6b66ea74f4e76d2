-- `memory::entry::value_of` meets its contract: the value is the third of the entry's three places.
use Rattle.model.proofs.Fields.{value_at}
use Rattle.memory.proofs.entry.value_of.Goals as goal

pub returns : goal.returns
returns c = search value_at
