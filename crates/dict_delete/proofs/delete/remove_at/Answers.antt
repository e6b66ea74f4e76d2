-- `dict_delete::delete::remove_at` meets its contract: the entry that a lookup found leaves the table that it is in.
use borrow.Author.Rules.{rules}
use Rattle.model.specs.Memory.{size_of}
use Rattle.model.specs.Calls.{state_of, old_new, recounted, with_count}
use Rattle.dict_delete.proofs.Removing.{old_removable, new_removable, old_used, new_used, removed_old, removed_new}
use Rattle.dict_delete.proofs.delete.remove_at.Goals as goal

pub free_entry-requires : goal.free_entry-requires
free_entry-requires c = record { readable = search old_removable; is_entry = search rules }

pub free_entry-requires-in-New : goal.free_entry-requires-in-New
free_entry-requires-in-New c = record { readable = search new_removable; is_entry = search rules }

pub returns-in-Old : goal.returns-in-Old
unfolding recounted state_of with_count old_new size_of
returns-in-Old c = search removed_old

pub returns-in-New : goal.returns-in-New
unfolding recounted state_of with_count old_new size_of
returns-in-New c = search removed_new

pub overflow_sub-t : goal.overflow_sub-t
overflow_sub-t c = search old_used

pub overflow_sub-t-in-New : goal.overflow_sub-t-in-New
overflow_sub-t-in-New c = search new_used
