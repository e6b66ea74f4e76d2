-- `dict_delete::delete::remove_sound` meets its contract: what the lookup found decides, and an entry that it names is in range.
use borrow.Author.Rules.{rules}
use Rattle.model.specs.Calls.{held, deleted}
use Rattle.model.proofs.Lookups.{located}
use Rattle.dict_delete.proofs.Removing.{deleted_by}
use Rattle.dict_delete.proofs.delete.remove_sound.Goals as goal

pub remove_at-requires : goal.remove_at-requires
remove_at-requires c = record { sound = search rules; located = search located }

pub returns-in-Damaged : goal.returns-in-Damaged
unfolding deleted held
returns-in-Damaged c = search deleted_by

pub returns-in-Absent : goal.returns-in-Absent
unfolding deleted held
returns-in-Absent c = search deleted_by

pub returns-in-At : goal.returns-in-At
unfolding deleted held
returns-in-At c = search deleted_by
