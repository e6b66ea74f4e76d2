-- `script::answer::write_number_line` meets its contract: the number, then a line feed.
use Rattle.std.proofs.Common.{arith}
use Rattle.script.proofs.Answering.{number_line_room, number_line_end, number_line_wrote}
use Rattle.script.proofs.answer.write_number_line.Goals as goal

pub number-requires : goal.number-requires
number-requires c = search number_line_room

pub byte-requires : goal.byte-requires
byte-requires c = search number_line_end

pub returns : goal.returns
returns c = number_line_wrote _ _ _ _ _ _ _ c.number.ensures.wrote c.byte.ensures.wrote (grind arith)
