-- `dict_delete::remove::remove_in` meets its contract: what the lookup found decides, and an entry that it names is in range.
use Rattle.model.specs.Memory.{size_of}
use Rattle.model.specs.Calls.{state_of, old_new, recounted, with_count}
use Rattle.dict_delete.proofs.Resting.{in_damaged, in_absent, in_readable, in_before, in_entry, in_used, in_removed}
use Rattle.dict_delete.proofs.remove.remove_in.Goals as goal

pub free_entry-requires : goal.free_entry-requires
free_entry-requires c = record { readable = search in_readable; is_entry = search (in_entry, in_before) }

pub returns-in-Damaged : goal.returns-in-Damaged
returns-in-Damaged c = search in_damaged

pub returns-in-Absent : goal.returns-in-Absent
returns-in-Absent c = search in_absent

pub returns-in-At : goal.returns-in-At
unfolding recounted state_of with_count old_new size_of
returns-in-At c = search in_removed

pub overflow_sub-t : goal.overflow_sub-t
overflow_sub-t c = search in_used
