-- `verify::held::free_verified` meets its contract: the last entry decides, where the list is sound and long enough.
use Rattle.verify.proofs.Parts.{free_unsound, free_none, free_some, last_entry, searchable}
use Rattle.verify.proofs.held.free_verified.Goals as goal

pub finds_itself-requires : goal.finds_itself-requires
finds_itself-requires c = record { searchable = search searchable; is_entry = last_entry _ _ _ _ _ _ _ c.free_end.ensures c.in-Ok-Some.is c.in-Ok-Some.field-0-is }

pub returns-in-Ok-Some : goal.returns-in-Ok-Some
returns-in-Ok-Some c = search free_some

pub returns-in-Ok-None : goal.returns-in-Ok-None
returns-in-Ok-None c = search free_none

pub returns-in-Err : goal.returns-in-Err
returns-in-Err c = search free_unsound
