-- `store::Store::init` meets its contract: the state of the new store is the store's.
use borrow.Author.Rules.{rules}
use Rattle.store.proofs.Keeping.{started_ok, started_err}
use Rattle.store.proofs.Store.init.Goals as goal

pub returns-in-Ok-clause-outcome : goal.returns-in-Ok-clause-outcome
returns-in-Ok-clause-outcome c = search (rules, started_ok)

pub returns-in-Err-clause-outcome : goal.returns-in-Err-clause-outcome
returns-in-Err-clause-outcome c = search (rules, started_err)
