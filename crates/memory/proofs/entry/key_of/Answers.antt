-- `memory::entry::key_of` meets its contract: the key is the second of the entry's three places.
use Rattle.model.proofs.Fields.{key_at}
use Rattle.memory.proofs.entry.key_of.Goals as goal

pub returns : goal.returns
returns c = search key_at
