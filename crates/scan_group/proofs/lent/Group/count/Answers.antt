-- The goals of `Group::count` that the search leaves.
use Rattle.scan_group.proofs.Counting.{first_out, first_fits, counting_start, next_below, counting_out, counting_fits, counting_next, counting_end}
use Rattle.scan_group.proofs.lent.Group.count.Goals as goal

pub returns-in_err-left : goal.returns-in_err-left
returns-in_err-left c = search (first_out, c.in_err-left.was)

pub overflow_sub-left : goal.overflow_sub-left
overflow_sub-left c = search (first_fits, c.in_ok-left.was)

pub loop-b-init : goal.loop-b-init
loop-b-init c =
    counting_start _ _ _ _ c.count_chain.ensures c.bucket_index-first.ensures _ c.in_ok-left.was _
    (rw c.into_iter-b-iterator.ensures.into_iter_gives c.larger-b-items.ensures)

pub chain-requires : goal.chain-requires
chain-requires c = search (next_below, c.in-Some.ensures.steps)

pub returns-in_err-left-2 : goal.returns-in_err-left-2
returns-in_err-left-2 c = search (counting_out, c.in-Some.ensures.steps, c.in_err-left-2.was)

pub overflow_sub-left-in-loop-b : goal.overflow_sub-left-in-loop-b
overflow_sub-left-in-loop-b c = search (counting_fits, c.in-Some.ensures.steps, c.in_ok-left-2.was)

pub loop-b-preserved : goal.loop-b-preserved
loop-b-preserved c = search (counting_next, c.in-Some.ensures.steps, c.in_ok-left-2.was)

pub returns : goal.returns
returns c = search (counting_end, c.in-None.ensures.steps)
