-- The goals of `link_free` that the search leaves.
use Rattle.dict_tables.proofs.FreeList.{linking_start, linking_next, linking_end}
use Rattle.dict_tables.proofs.init.link_free.Goals as goal

pub loop-below-init : goal.loop-below-init
loop-below-init c = search linking_start

pub loop-below-preserved : goal.loop-below-preserved
loop-below-preserved c = search linking_next

pub returns : goal.returns
returns c = search linking_end
