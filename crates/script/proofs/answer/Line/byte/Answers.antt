-- `script::answer::Line::byte` meets its contract: one place is written.
use Rattle.script.proofs.Writing.{wrote_byte}
use Rattle.script.proofs.answer.Line.byte.Goals as goal

pub returns-clause-wrote : goal.returns-clause-wrote
returns-clause-wrote c = search wrote_byte
