-- `during_rehash::moving::link_then` meets its contract: the link stays, or the chain's move decides.
use borrow.Author.Rules.{rules}
use Rattle.dict_rehash.proofs.Due.{due_rehashing}
use Rattle.during_rehash.proofs.Going.{still_link, chain_goes}
use Rattle.during_rehash.proofs.moving.link_then.Goals as goal

pub link_beside-requires : goal.link_beside-requires
link_beside-requires c = record { sound = search rules; rehashing = (search due_rehashing, search rules, search rules); goes_chain = search chain_goes }

pub returns-in-Still : goal.returns-in-Still
returns-in-Still c = search still_link
