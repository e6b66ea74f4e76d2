-- `dict_rehash::rehash::step_in` meets its contract: the tests in the order of the answers, then the step.
use Rattle.std.proofs.lemmas.Bool.{not-true, not-false}
use Rattle.dict_rehash.proofs.Stepping.{step_resting, step_paused, step_due_lem}
use Rattle.dict_rehash.proofs.rehash.step_in.Goals as goal

pub take_step-requires-clause-rehashing : goal.take_step-requires-clause-rehashing
take_step-requires-clause-rehashing c = search not-false

pub returns-then-not-s : goal.returns-then-not-s
returns-then-not-s c = search (step_resting, not-true)

pub returns-then-s-ne0 : goal.returns-then-s-ne0
returns-then-s-ne0 c = search (step_paused, not-false)

pub returns : goal.returns
returns c = search (step_due_lem, not-false)
