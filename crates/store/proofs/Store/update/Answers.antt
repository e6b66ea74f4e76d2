-- `store::Store::update` meets its contract: the state stays.
use borrow.Author.Rules.{rules}
use Rattle.store.proofs.Keeping.{left_as}
use Rattle.store.proofs.Store.update.Goals as goal

pub returns-clause-outcome : goal.returns-clause-outcome
returns-clause-outcome c = search (rules, left_as)
