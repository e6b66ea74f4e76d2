-- `script::answer::Line::number` meets its contract: the digits of the number's tenth, then the last. The measure is the number.
use Rattle.script.proofs.answer.Line.+number.Given as goal

abbrev pub decreases-number : goal.decreases-number
decreases-number l = l.n
