-- `script_run::answer::write_answer` meets its contract: 0 and the values, or a refusal's number.
use Rattle.script_run.proofs.Room.{done_room, done_written, number_room, number_written}
use Rattle.script_run.proofs.answer.write_answer.Goals as goal

pub write_values-requires : goal.write_values-requires
write_values-requires c = search done_room

pub write_number_line-requires : goal.write_number_line-requires
write_number_line-requires c = search number_room

pub returns-in-Ok : goal.returns-in-Ok
returns-in-Ok c = search done_written

pub returns-in-Err : goal.returns-in-Err
returns-in-Err c = search number_written
