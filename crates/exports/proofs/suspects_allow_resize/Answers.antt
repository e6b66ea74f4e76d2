-- `exports::suspects_allow_resize` meets its contract.
use borrow.Author.Rules.{rules}
use Rattle.model.specs.Sequences.{StateCall, Call, given, perform, world}
use Rattle.export_calls.proofs.Telling.{state_tells}
use Rattle.exports.proofs.Flags.{flag_refused, flag_passed}
use Rattle.exports.proofs.suspects_allow_resize.Goals as goal

pub returns-in_default : goal.returns-in_default
returns-in_default c = search flag_refused

pub returns : goal.returns
unfolding perform given world
returns c = flag_passed _ _ _ _ _ _ _ _ _ _ _ c.flag_of.ensures c.in-Some.is (c.run_write.ensures.called (Call.note (StateCall.allow_resize c.in-Some.allowed)) (λ f g e s a f' g' e' p. search (rules, state_tells, p)))
