-- The goals of `Group::write` that the search leaves.
use Rattle.std.proofs.Common.{◌+◌, ◌≤◌, length, arith}
use Rattle.scan_group.proofs.Writing.{small_writable, group_start, next_below, next_writable, step_fits, group_next, group_end}
use Rattle.scan_group.proofs.lent.Group.write.Goals as goal

pub write_chain-to-requires : goal.write_chain-to-requires
write_chain-to-requires c = search small_writable

pub loop-b-init : goal.loop-b-init
loop-b-init c =
    group_start _ _ _ c.requires _ c.write_chain-to.ensures.value c.write_chain-to.ensures.list_after _
    (rw c.into_iter-b-iterator.ensures.into_iter_gives c.larger-b-items.ensures)

pub head-requires : goal.head-requires
head-requires c = search (next_below, c.in-Some.ensures.steps)

pub write_chain-to-requires-in-loop-b : goal.write_chain-to-requires-in-loop-b
write_chain-to-requires-in-loop-b c = search (next_writable, c.in-Some.ensures.steps)

pub overflow_add-to : goal.overflow_add-to
overflow_add-to c =
    let fits : c.loop-b.to + c.write_chain-to-in-loop-b.result ≤ length c.loop-b.list = search (step_fits, c.in-Some.ensures.steps)
    in omega arith

pub loop-b-preserved : goal.loop-b-preserved
loop-b-preserved c = search (group_next, c.in-Some.ensures.steps)

pub returns : goal.returns
returns c = search (group_end, c.in-None.ensures.steps)
