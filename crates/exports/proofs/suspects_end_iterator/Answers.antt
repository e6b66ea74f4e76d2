-- `exports::suspects_end_iterator` meets its contract.
use borrow.Author.Rules.{rules}
use Rattle.model.specs.Sequences.{ReadCall, Call, given, perform, world}
use Rattle.export_calls.proofs.Telling.{done_tells}
use Rattle.exports.proofs.suspects_end_iterator.Goals as goal

pub returns : goal.returns
unfolding perform given world
returns c = c.run_read.ensures.called (Call.read (ReadCall.end_iterator c.args.fingerprint)) (λ f g e s a p.
    record { answers = search (rules, done_tells, p); keeps = search (rules, p) })
