-- `search::lookup::look_up` meets its contract: the only table, or both.
use Rattle.search.proofs.Readable.{old_readable, new_readable}
use Rattle.search.proofs.Lookups.{looked_up_resting, looked_up_rehashing}
use Rattle.search.proofs.lookup.look_up.Goals as goal

pub lookup_in-old-requires : goal.lookup_in-old-requires
lookup_in-old-requires c = search old_readable

pub lookup_in-new-requires : goal.lookup_in-new-requires
lookup_in-new-requires c = search new_readable

pub returns-then-s : goal.returns-then-s
returns-then-s c = search looked_up_rehashing

pub returns-else-s : goal.returns-else-s
returns-else-s c = search looked_up_resting
