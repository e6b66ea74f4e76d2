-- The goals of `count_held` that the search leaves.
use Rattle.std.proofs.Common.{◌≡◌, arith}
use Rattle.verify.proofs.Selves.{counting_start, counting_next, counting_end}
use Rattle.verify.proofs.held.count_held.Goals as goal

pub loop-n-init : goal.loop-n-init
loop-n-init c = search counting_start

pub loop-n-preserved : goal.loop-n-preserved
loop-n-preserved c = search counting_next

pub returns-2 : goal.returns-2
returns-2 c =
    let last : c.loop-n.n ≡ c.args.s.capacity = omega arith in search counting_end
