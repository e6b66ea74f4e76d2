-- `exports::suspects_begin_safe` meets its contract.
use borrow.Author.Rules.{rules}
use Rattle.model.specs.Sequences.{StateCall, Call, given, perform, world}
use Rattle.export_calls.proofs.Telling.{state_tells}
use Rattle.exports.proofs.suspects_begin_safe.Goals as goal

pub returns : goal.returns
unfolding perform given world
returns c = c.run_write.ensures.called (Call.note StateCall.begin_safe) (λ f g e s a f' g' e' p. search (rules, state_tells, p))
