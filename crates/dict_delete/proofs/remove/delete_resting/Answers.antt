-- `dict_delete::remove::delete_resting` meets its contract: the flag says which lent buffer has the only table.
use borrow.Author.Rules.{rules}
use Rattle.during_rehash.proofs.Resting.{first_sound, second_sound}
use Rattle.dict_delete.proofs.Deleting.{alone_first, alone_second}
use Rattle.dict_delete.proofs.remove.delete_resting.Goals as goal

pub remove_in-requires : goal.remove_in-requires
remove_in-requires c = record { sound = search second_sound; resting = search rules }

pub remove_in-requires-else-s : goal.remove_in-requires-else-s
remove_in-requires-else-s c = record { sound = search first_sound; resting = search rules }

-- the second buffer has it
pub returns-then-s : goal.returns-then-s
returns-then-s c = search (alone_second, c.remove_in.ensures)

pub returns-else-s : goal.returns-else-s
returns-else-s c = search (alone_first, c.remove_in-else-s.ensures)
