-- `dict_rehash::rehash::move_counted` meets its contract: a chain that was counted is moved, and its bucket emptied.
use Rattle.dict_rehash.proofs.Stepping.{target_legal, target_fits, chain_from, bucket_moved, bucket_behind, moved_old, moved_new}
use Rattle.dict_rehash.proofs.rehash.move_counted.Goals as goal

pub move_chain-requires : goal.move_chain-requires
move_chain-requires c = record { legal = (search target_legal, search target_fits); chain_of = search chain_from }

pub overflow_add-b : goal.overflow_add-b
overflow_add-b c = search bucket_behind

pub state_after-requires : goal.state_after-requires
state_after-requires c = (search moved_old, search moved_new)

pub returns : goal.returns
returns c = search (bucket_moved, moved_old, moved_new)
