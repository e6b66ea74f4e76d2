-- `memory::entry::link_of` meets its contract: the link is the first of the entry's three places.
use Rattle.model.proofs.Fields.{link_at}
use Rattle.memory.proofs.entry.link_of.Goals as goal

pub returns : goal.returns
returns c = search link_at
