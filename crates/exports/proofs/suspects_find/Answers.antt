-- `exports::suspects_find` meets its contract.
use borrow.Author.Rules.{rules}
use Rattle.model.specs.Sequences.{KeyCall, Call, given, perform, world}
use Rattle.export_calls.proofs.Telling.{value_tells}
use Rattle.exports.proofs.suspects_find.Goals as goal

pub returns : goal.returns
unfolding perform given world
returns c = c.run_read.ensures.called (Call.on c.args.key KeyCall.find) (λ f g e s a p.
    record { answers = search (rules, value_tells, p); keeps = search (rules, p) })
