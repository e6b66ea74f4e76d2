-- `memory::entry::set_link` meets its contract: one place is written.
use Rattle.model.proofs.Fields.{set_link_at}
use Rattle.memory.proofs.entry.set_link.Goals as goal

pub returns : goal.returns
returns c = search set_link_at
