-- The goals of `parse_number` that the search leaves.
use Rattle.script.proofs.Reading.{reading_out, reading_stop, reading_next, reading_done}
use Rattle.script.proofs.number.parse_number.Goals as goal

pub returns-then-is_empty : goal.returns-then-is_empty
returns-then-is_empty c = search reading_out

pub returns-then-not-is_ascii_digit : goal.returns-then-not-is_ascii_digit
returns-then-not-is_ascii_digit c = search reading_stop

pub loop-b-preserved : goal.loop-b-preserved
loop-b-preserved c = search reading_next

pub returns : goal.returns
returns c = search reading_done
