-- `exports::suspects_begin_iterator` meets its contract.
use borrow.Author.Rules.{rules}
use Rattle.model.specs.Sequences.{ReadCall, Call, given, perform, world}
use Rattle.export_calls.proofs.Telling.{value_tells}
use Rattle.exports.proofs.suspects_begin_iterator.Goals as goal

pub returns : goal.returns
unfolding perform given world
returns c = c.run_read.ensures.called (Call.read ReadCall.begin_iterator) (λ f g e s a p.
    record { answers = search (rules, value_tells, p); keeps = search (rules, p) })
