-- `memory::entry::set_value` meets its contract: one place is written.
use Rattle.model.proofs.Fields.{set_value_at}
use Rattle.memory.proofs.entry.set_value.Goals as goal

pub returns : goal.returns
returns c = search set_value_at
