-- `memory::entry::set_entry` meets its contract: three places are written.
use Rattle.std.proofs.Common.{arith, length-set}
use Rattle.model.proofs.Fields.{set_entry_at}
use Rattle.memory.proofs.entry.set_entry.Goals as goal

pub bounds-entries-at-2 : goal.bounds-entries-at-2
bounds-entries-at-2 c = simp length-set (omega arith)

pub bounds-entries-at-3 : goal.bounds-entries-at-3
bounds-entries-at-3 c = simp length-set (omega arith)

pub returns : goal.returns
returns c = search set_entry_at
