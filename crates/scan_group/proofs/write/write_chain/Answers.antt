-- The goals of `write_chain` that the search leaves.
use native.Mathlib.Omega.{arith}
use lib.ListN.{length-set}
use Rattle.scan_group.proofs.Writing.{writing_start, writing_next, writing_end, writing_place}
use Rattle.scan_group.proofs.write.write_chain.Goals as goal

pub loop-at-init : goal.loop-at-init
loop-at-init c = search writing_start

pub bounds-list-to-in-loop-at : goal.bounds-list-to-in-loop-at
bounds-list-to-in-loop-at c = simp length-set (omega arith)

pub loop-at-preserved : goal.loop-at-preserved
loop-at-preserved c = search writing_next

pub returns : goal.returns
returns c = record { list_after = search writing_end; value = search writing_place }
