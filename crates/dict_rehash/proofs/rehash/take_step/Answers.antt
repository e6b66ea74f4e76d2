-- `dict_rehash::rehash::take_step` meets its contract: with no keys in the old table no chain moves.
use borrow.Author.Rules.{rules}
use Rattle.dict_rehash.proofs.Stepping.{none_moved, step_finished, step_moved}
use Rattle.dict_rehash.proofs.rehash.take_step.Goals as goal

pub state_after-requires : goal.state_after-requires
state_after-requires c = (search rules, search none_moved)

pub returns-then-s-eq0 : goal.returns-then-s-eq0
returns-then-s-eq0 c = search (rules, step_finished, none_moved)

pub returns-else-s-eq0 : goal.returns-else-s-eq0
returns-else-s-eq0 c = search step_moved
