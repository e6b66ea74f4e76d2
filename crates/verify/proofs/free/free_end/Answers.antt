-- The goals of `free_end` that the search leaves.
use Rattle.verify.proofs.Ending.{ending_out, ending_next, ending_full, ending_long}
use Rattle.verify.proofs.free.free_end.Goals as goal

pub returns-then-at-eq0 : goal.returns-then-at-eq0
returns-then-at-eq0 c = search (ending_out, c.then-at-eq0.either)

pub loop-preserved : goal.loop-preserved
loop-preserved c = search ending_next

pub returns-then-at-eq0-2 : goal.returns-then-at-eq0-2
returns-then-at-eq0-2 c = search ending_full

pub returns-else-at-eq0-2 : goal.returns-else-at-eq0-2
returns-else-at-eq0-2 c = search ending_long
