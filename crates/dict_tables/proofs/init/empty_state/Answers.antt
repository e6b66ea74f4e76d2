-- `dict_tables::init::empty_state` meets its contract: the code writes the definition's fields.
use borrow.Author.Rules.{rules}
use Rattle.model.specs.Calls.{empty_state, state_of, old_new}
use Rattle.dict_tables.proofs.init.empty_state.Goals as goal

pub returns : goal.returns
unfolding empty_state state_of old_new
returns c = search rules
