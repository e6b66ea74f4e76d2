-- `store::Store::rehash_step` meets its contract: the state that the step leaves is the store's.
use borrow.Author.Rules.{rules}
use Rattle.store.proofs.Keeping.{stepped_ok, stepped_err}
use Rattle.store.proofs.Store.rehash_step.Goals as goal

pub returns-in_err-moved-clause-outcome : goal.returns-in_err-moved-clause-outcome
returns-in_err-moved-clause-outcome c = search (rules, stepped_err)

pub returns-clause-outcome : goal.returns-clause-outcome
returns-clause-outcome c = search (rules, stepped_ok)
