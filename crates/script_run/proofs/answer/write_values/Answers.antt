-- `script_run::answer::write_values` meets its contract: whatever the values are, they have room in a line.
use Rattle.script_run.specs.Answers.{values_of, handed}
use Rattle.script_run.proofs.Room.{values_room, values_written, pairs_taken}
use Rattle.script_run.proofs.answer.write_values.Goals as goal

pub write_result_line-requires : goal.write_result_line-requires
unfolding values_of handed
write_result_line-requires c = search values_room

pub write_result_line-requires-in-One : goal.write_result_line-requires-in-One
unfolding values_of handed
write_result_line-requires-in-One c = search values_room

pub write_result_line-requires-in-Two : goal.write_result_line-requires-in-Two
unfolding values_of handed
write_result_line-requires-in-Two c = search values_room

pub slice_bounds-write_result_line-end-in-Walk-2 : goal.slice_bounds-write_result_line-end-in-Walk-2
slice_bounds-write_result_line-end-in-Walk-2 c = search pairs_taken

pub write_result_line-requires-in-Walk : goal.write_result_line-requires-in-Walk
unfolding values_of handed
write_result_line-requires-in-Walk c = search values_room

pub returns-in-None : goal.returns-in-None
unfolding values_of handed
returns-in-None c = search values_written

pub returns-in-One : goal.returns-in-One
unfolding values_of handed
returns-in-One c = search values_written

pub returns-in-Two : goal.returns-in-Two
unfolding values_of handed
returns-in-Two c = search values_written

pub returns-in-Walk : goal.returns-in-Walk
unfolding values_of handed
returns-in-Walk c = search values_written
