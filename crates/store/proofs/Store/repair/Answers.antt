-- `store::Store::repair` meets its contract: the state that the call leaves is the store's.
use borrow.Author.Rules.{rules}
use Rattle.store.proofs.Keeping.{kept_ok, kept_err}
use Rattle.store.proofs.Store.repair.Goals as goal

pub returns-in_err-self-clause-outcome : goal.returns-in_err-self-clause-outcome
returns-in_err-self-clause-outcome c = search (rules, kept_err)

pub returns-clause-outcome : goal.returns-clause-outcome
returns-clause-outcome c = search (rules, kept_ok)
