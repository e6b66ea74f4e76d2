-- `exports::suspects_rehash_step` meets its contract.
use borrow.Author.Rules.{rules}
use Rattle.model.specs.Sequences.{Call, given, perform, world}
use Rattle.export_calls.proofs.Telling.{left_tells}
use Rattle.exports.proofs.suspects_rehash_step.Goals as goal

pub returns : goal.returns
unfolding perform given world
returns c = c.run_write.ensures.called Call.rehash_step (λ f g e s a f' g' e' p. search (rules, left_tells, p))
