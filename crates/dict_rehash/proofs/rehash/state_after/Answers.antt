-- `dict_rehash::rehash::state_after` meets its contract: the rehash is over, or goes on.
use Rattle.model.specs.Memory.{size_of}
use Rattle.model.specs.Calls.{state_of, old_new, retabled, finished, advanced}
use Rattle.dict_rehash.proofs.Stepping.{settled_end, settled_on}
use Rattle.dict_rehash.proofs.rehash.state_after.Goals as goal

pub returns-then-count-s : goal.returns-then-count-s
unfolding finished advanced retabled state_of old_new size_of
returns-then-count-s c = search settled_end

pub returns-else-count-s : goal.returns-else-count-s
unfolding advanced retabled state_of old_new size_of
returns-else-count-s c = search settled_on
