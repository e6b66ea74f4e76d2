-- `exports::suspects_add` meets its contract.
use borrow.Author.Rules.{rules}
use Rattle.model.specs.Sequences.{KeyCall, Call, given, perform, world}
use Rattle.export_calls.proofs.Telling.{left_tells}
use Rattle.exports.proofs.suspects_add.Goals as goal

pub returns : goal.returns
unfolding perform given world
returns c = c.run_write.ensures.called (Call.on c.args.key (KeyCall.add c.args.value)) (λ f g e s a f' g' e' p. search (rules, left_tells, p))
