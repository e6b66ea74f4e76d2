-- `dict_rehash::rehash::move_next` meets its contract: what comes from the next bucket on decides.
use borrow.Author.Rules.{rules}
use Rattle.model.specs.Calls.{ahead_of}
use Rattle.dict_rehash.proofs.Stepping.{index_fits, none_moved, next_end, next_empty, next_filled, next_below}
use Rattle.dict_rehash.proofs.rehash.move_next.Goals as goal

pub look_ahead-requires : goal.look_ahead-requires
look_ahead-requires c = (search index_fits, search rules)

pub move_bucket-requires-clause-rehashing : goal.move_bucket-requires-clause-rehashing
move_bucket-requires-clause-rehashing c = (search rules, search (next_below, index_fits))

pub state_after-requires : goal.state_after-requires
state_after-requires c = (search rules, search none_moved)

pub returns-in-Filled : goal.returns-in-Filled
unfolding ahead_of
returns-in-Filled c = search next_filled

pub returns-in-Empty : goal.returns-in-Empty
unfolding ahead_of
returns-in-Empty c = search (rules, next_empty, none_moved)

pub returns-in-End : goal.returns-in-End
unfolding ahead_of
returns-in-End c = search next_end
