-- `export_runs::write::run_init` meets its contract.
use borrow.Author.Rules.{rules}
use Rattle.model.specs.Sequences.{world, perform}
use Rattle.export_calls.proofs.Telling.{left_tells}
use Rattle.export_runs.proofs.Running.{first_fitting, second_fitting, entries_fitting, state_fitting, answer_fitting, start_refused, init_run}
use Rattle.export_runs.proofs.write.run_init.Goals as goal

pub returns-then-not-fit : goal.returns-then-not-fit
returns-then-not-fit c = search start_refused

pub on_numbers-a-requires-clause-first_whole : goal.on_numbers-a-requires-clause-first_whole
on_numbers-a-requires-clause-first_whole c = search first_fitting

pub on_numbers-a-requires-clause-second_whole : goal.on_numbers-a-requires-clause-second_whole
on_numbers-a-requires-clause-second_whole c = search second_fitting

pub on_numbers-a-requires-clause-entries_whole : goal.on_numbers-a-requires-clause-entries_whole
on_numbers-a-requires-clause-entries_whole c = search entries_fitting

pub write_started-requires : goal.write_started-requires
write_started-requires c = search state_fitting

pub write_answer-requires : goal.write_answer-requires
write_answer-requires c = search answer_fitting

pub returns : goal.returns
unfolding perform world
returns c =
    let r = c.on_numbers-a.ensures in
    init_run _ _ _ _ _ c.fit.result c.fit.ensures c.if-not-fit.false _ _ _ _ _ _ _ _ _ _ _ _ _ c.on_numbers-a.result
    r.first_read r.second_read r.entries_read (search (rules, left_tells, r.ran)) r.first_written r.second_written r.entries_written
    c.write_started.ensures c.write_answer.ensures
