-- The goals of `values` that the search leaves.
use Rattle.std.proofs.Common.{rules}
use Rattle.script.proofs.Writing.{values_start, space_room, digits_room, values_next, values_wrote}
use Rattle.script.proofs.answer.Line.values.Goals as goal

pub loop-value-init : goal.loop-value-init
loop-value-init c = search (rules, values_start)

pub byte-requires : goal.byte-requires
byte-requires c = search space_room

pub number-requires : goal.number-requires
number-requires c = search digits_room

pub loop-value-preserved : goal.loop-value-preserved
loop-value-preserved c = record { same_buffer = search rules; writing = search values_next }

pub returns-clause-wrote : goal.returns-clause-wrote
returns-clause-wrote c = search values_wrote
