-- `dict_delete::remove::free_entry` meets its contract: the entry off its chain heads the free list.
use borrow.Author.Rules.{rules}
use Rattle.dict_delete.proofs.Removing.{freed}
use Rattle.dict_delete.proofs.remove.free_entry.Goals as goal

pub returns : goal.returns
returns c = record { buckets_after = search rules; entries_after = search freed }
