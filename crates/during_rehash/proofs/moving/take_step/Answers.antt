-- `during_rehash::moving::take_step` meets its contract: no chain moves, or the one that was told of.
use borrow.Author.Rules.{rules}
use Rattle.dict_rehash.proofs.Due.{due_rehashing}
use Rattle.during_rehash.proofs.Going.{still_taken, chain_below, chain_read, chain_taken}
use Rattle.during_rehash.proofs.moving.take_step.Goals as goal

pub move_counted-requires : goal.move_counted-requires
move_counted-requires c = record { sound = search rules; rehashing = (search due_rehashing, search chain_below); old_chain = search chain_read }

pub returns-in-Still : goal.returns-in-Still
returns-in-Still c = search still_taken

pub returns-in-Moving : goal.returns-in-Moving
returns-in-Moving c = search chain_taken
