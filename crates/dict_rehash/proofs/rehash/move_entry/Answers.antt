-- `dict_rehash::rehash::move_entry` meets its contract: the link is read first, then the entry heads its bucket.
use Rattle.dict_rehash.proofs.Relinking.{entry_moved}
use Rattle.dict_rehash.proofs.rehash.move_entry.Goals as goal

pub returns : goal.returns
returns c = search entry_moved
