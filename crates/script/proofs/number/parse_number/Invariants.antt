-- `script::number::parse_number` meets its contract: the value so far and the bytes from here are the whole word's.
use Rattle.script.proofs.Reading.{Reading}
use Rattle.script.proofs.number.parse_number.Given as goal

abbrev pub invariant-loop-b : goal.invariant-loop-b
invariant-loop-b l = Reading l.word l.value l.b-index
