-- `script::answer::write_result_line` meets its contract: 0, the values of both parts, then a line feed.
use Rattle.std.proofs.Common.{arith}
use Rattle.script.proofs.Answering.{result_room, values_room, more_room, end_room, result_wrote}
use Rattle.script.proofs.answer.write_result_line.Goals as goal

pub number-requires : goal.number-requires
number-requires c = search result_room

pub values-requires : goal.values-requires
values-requires c = search values_room

pub values-requires-2 : goal.values-requires-2
values-requires-2 c = search more_room

pub byte-requires : goal.byte-requires
byte-requires c = search end_room

pub returns : goal.returns
returns c =
    result_wrote _ _ _ c.requires _ _ c.number.ensures.wrote _ _ c.values.ensures.wrote _ _ c.values-2.ensures.wrote _ _ _ c.byte.ensures.wrote
    (grind arith)
