-- `dict_add::add::add_rehashing` meets its contract: the flag says which lent buffer is current.
use borrow.Author.Rules.{rules}
use Rattle.memory.proofs.Tested.{lent_first, lent_second}
use Rattle.dict_add.proofs.Adding.{moving_first, moving_second}
use Rattle.dict_add.proofs.add.add_rehashing.Goals as goal

pub add_during-requires : goal.add_during-requires
add_during-requires c = record { sound = search lent_second; rehashing = search rules }

pub add_during-requires-else-s : goal.add_during-requires-else-s
add_during-requires-else-s c = record { sound = search lent_first; rehashing = search rules }

-- the second buffer is the current one
pub returns-then-s : goal.returns-then-s
returns-then-s c = search moving_second

pub returns-else-s : goal.returns-else-s
returns-else-s c = search moving_first
