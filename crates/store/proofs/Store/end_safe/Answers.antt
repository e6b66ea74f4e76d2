-- `store::Store::end_safe` meets its contract: the state that the call answers is the store's.
use borrow.Author.Rules.{rules}
use Rattle.store.proofs.Keeping.{noted_ok, noted_err}
use Rattle.store.proofs.Store.end_safe.Goals as goal

pub returns-in_err-self-clause-outcome : goal.returns-in_err-self-clause-outcome
returns-in_err-self-clause-outcome c = search (rules, noted_err)

pub returns-clause-outcome : goal.returns-clause-outcome
returns-clause-outcome c = search (rules, noted_ok)
