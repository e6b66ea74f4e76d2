-- The goals of `decide` that the search leaves.
use Rattle.std.proofs.Common.{◌≡◌, arith}
use Rattle.repair_cut.proofs.Deciding.{decides_start, next_met, next_not_met, last_met, last_not_met}
use Rattle.repair_cut.proofs.first.decide.Goals.{then-mark_of-ne0, else-mark_of-ne0}
use Rattle.repair_cut.proofs.first.decide.Goals as goal

pub loop-n-init : goal.loop-n-init
loop-n-init c = search decides_start

pub loop-n-preserved : goal.loop-n-preserved
loop-n-preserved c =
    elim c.if-mark_of-ne0.branch [ then-mark_of-ne0 w ↦ search next_met | else-mark_of-ne0 w ↦ search next_not_met ]

pub returns-after-mark_of-ne0 : goal.returns-after-mark_of-ne0
returns-after-mark_of-ne0 c =
    let last : c.loop-n.n ≡ c.args.s.capacity = omega arith in
    elim c.if-mark_of-ne0.branch [ then-mark_of-ne0 w ↦ search last_met | else-mark_of-ne0 w ↦ search last_not_met ]
