-- `exports::suspects_suggested_size` meets its contract.
use borrow.Author.Rules.{rules}
use Rattle.model.specs.Sequences.{ReadCall, Call, given, perform, world}
use Rattle.export_calls.proofs.Telling.{value_tells}
use Rattle.exports.proofs.Flags.{flag_refused, flag_passed}
use Rattle.exports.proofs.suspects_suggested_size.Goals as goal

pub returns-in_default : goal.returns-in_default
returns-in_default c = search flag_refused

pub returns : goal.returns
unfolding perform given world
returns c = flag_passed _ _ _ _ _ _ _ _ _ _ _ c.flag_of.ensures c.in-Some.is (c.run_read.ensures.called (Call.read (ReadCall.suggested_size c.in-Some.growing)) (λ f g e s a p.
    record { answers = search (rules, value_tells, p); keeps = search (rules, p) }))
