-- The goals of `number` that the search leaves.
use Rattle.std.proofs.Common.{arith}
use Rattle.script.specs.Answers.{Wrote}
use Rattle.script.proofs.Digits.{before_last}
use Rattle.script.proofs.Writing.{front_more, front_none, tenth_room, last_room, number_wrote}
use Rattle.script.proofs.answer.Line.+number.Goals.{then-n-ge10, else-n-ge10}
use Rattle.script.proofs.answer.Line.+number.Goals as goal

pub number-requires : goal.number-requires
number-requires t c = (omega arith, search tenth_room)

pub byte-requires : goal.byte-requires
byte-requires t c =
    let front : Wrote c.args.self.now.out.now c.args.self.now.written (before_last c.args.n) c.if-n-ge10.self.out.now c.if-n-ge10.self.written =
    elim c.if-n-ge10.branch [ then-n-ge10 w ↦ search front_more | else-n-ge10 w ↦ search front_none ] in
    search last_room

pub returns-clause-wrote : goal.returns-clause-wrote
returns-clause-wrote t c =
    let front : Wrote c.args.self.now.out.now c.args.self.now.written (before_last c.args.n) c.if-n-ge10.self.out.now c.if-n-ge10.self.written =
    elim c.if-n-ge10.branch [ then-n-ge10 w ↦ search front_more | else-n-ge10 w ↦ search front_none ] in
    search number_wrote
