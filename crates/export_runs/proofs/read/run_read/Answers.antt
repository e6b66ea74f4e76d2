-- `export_runs::read::run_read` meets its contract.
use borrow.Author.Rules.{rules}
use Rattle.export_runs.proofs.Running.{first_whole, second_whole, entries_whole, room_fits, answer_whole, not_refused, refusal, refused_call, read_run}
use Rattle.export_runs.proofs.read.run_read.Goals as goal

pub numbers_of-f-requires : goal.numbers_of-f-requires
numbers_of-f-requires g c = search (rules, room_fits, first_whole, c.in-Some.ensures.some)

pub numbers_of-g-requires : goal.numbers_of-g-requires
numbers_of-g-requires g c = search (rules, room_fits, second_whole, c.in-Some.ensures.some)

pub numbers_of-e-requires : goal.numbers_of-e-requires
numbers_of-e-requires g c = search (rules, room_fits, entries_whole, c.in-Some.ensures.some)

pub write_answer-requires : goal.write_answer-requires
write_answer-requires g c = search (answer_whole, c.in-Some.ensures.some)

pub returns-in_default-clause-refusal : goal.returns-in_default-clause-refusal
returns-in_default-clause-refusal g c = λ unfit. search refusal

pub returns-in_default-clause-called : goal.returns-in_default-clause-called
returns-in_default-clause-called g c = λ call is. search refused_call

pub returns-clause-refusal : goal.returns-clause-refusal
returns-clause-refusal g c = λ unfit. absurd (search (not_refused, c.in-Some.ensures.some))

pub returns-clause-called : goal.returns-clause-called
returns-clause-called g c = λ call is. search (read_run, c.in-Some.ensures.some, is _ _ _ _ _ c.call-a.ensures)
