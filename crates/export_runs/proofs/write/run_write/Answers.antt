-- `export_runs::write::run_write` meets its contract.
use borrow.Author.Rules.{rules}
use Rattle.export_runs.proofs.Running.{first_whole, second_whole, entries_whole, state_whole, answer_whole, not_refused, refusal, refused_call, write_run}
use Rattle.export_runs.proofs.write.run_write.Goals as goal

pub on_numbers-a-requires-clause-first_whole : goal.on_numbers-a-requires-clause-first_whole
on_numbers-a-requires-clause-first_whole g c = search (first_whole, c.in-Some.ensures.some)

pub on_numbers-a-requires-clause-second_whole : goal.on_numbers-a-requires-clause-second_whole
on_numbers-a-requires-clause-second_whole g c = search (second_whole, c.in-Some.ensures.some)

pub on_numbers-a-requires-clause-entries_whole : goal.on_numbers-a-requires-clause-entries_whole
on_numbers-a-requires-clause-entries_whole g c = search (entries_whole, c.in-Some.ensures.some)

pub write_state-requires : goal.write_state-requires
write_state-requires g c = search (state_whole, c.in-Some.ensures.some)

pub write_answer-requires : goal.write_answer-requires
write_answer-requires g c = search (answer_whole, c.in-Some.ensures.some)

pub returns-in_default-clause-refusal : goal.returns-in_default-clause-refusal
returns-in_default-clause-refusal g c = λ unfit. search refusal

pub returns-in_default-clause-called : goal.returns-in_default-clause-called
returns-in_default-clause-called g c = λ call is. search refused_call

pub returns-clause-refusal : goal.returns-clause-refusal
returns-clause-refusal g c = λ unfit. absurd (search (not_refused, c.in-Some.ensures.some))

pub returns-clause-called : goal.returns-clause-called
returns-clause-called g c = λ call is.
    let r = c.on_numbers-a.ensures in
    write_run _ _ _ _ _ _ c.in-Some.ensures.some _ _ _ _ _ _ _ _ _ _ _ call c.on_numbers-a.result r.first_read r.second_read r.entries_read
    (search (rules, is, r.ran)) r.first_written r.second_written r.entries_written c.write_state.ensures c.write_answer.ensures
