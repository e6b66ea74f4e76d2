-- `dict_tables::init::link_free` meets its contract: the entries above the one to write next are on the free list, and the
-- rest is as it was.
use Rattle.dict_tables.proofs.FreeList.{Linking}
use Rattle.dict_tables.proofs.init.link_free.Given as goal

abbrev pub invariant-loop-below : goal.invariant-loop-below
invariant-loop-below l = Linking l.initial.entries l.capacity l.below l.link l.entries

abbrev pub decreases-loop-below : goal.decreases-loop-below
decreases-loop-below l = l.below
