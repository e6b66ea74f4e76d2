-- `dict_add::add::add_resting` meets its contract: the flag says which lent buffer has the only table.
use borrow.Author.Rules.{rules}
use Rattle.during_rehash.proofs.Resting.{first_sound, second_sound}
use Rattle.dict_add.proofs.Adding.{added_first, added_second}
use Rattle.dict_add.proofs.add.add_resting.Goals as goal

pub add_in-requires : goal.add_in-requires
add_in-requires c = record { sound = search second_sound; resting = search rules }

pub add_in-requires-else-s : goal.add_in-requires-else-s
add_in-requires-else-s c = record { sound = search first_sound; resting = search rules }

pub returns-then-s : goal.returns-then-s
returns-then-s c = search (added_second, c.add_in.ensures)

pub returns-else-s : goal.returns-else-s
returns-else-s c = search (added_first, c.add_in-else-s.ensures)
