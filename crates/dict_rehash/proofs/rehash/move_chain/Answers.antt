-- The goals of `move_chain` that the search leaves.
use Rattle.dict_rehash.proofs.Relinking.{relinking_start, relinking_pos, relinking_fits, relinking_next, relinking_end}
use Rattle.dict_rehash.proofs.rehash.move_chain.Goals as goal

pub loop-init : goal.loop-init
loop-init c = search relinking_start

pub move_entry-at-requires-clause-is_entry : goal.move_entry-at-requires-clause-is_entry
move_entry-at-requires-clause-is_entry c = (search relinking_pos, search relinking_fits)

pub loop-preserved : goal.loop-preserved
loop-preserved c = search relinking_next

pub returns : goal.returns
returns c = search relinking_end
