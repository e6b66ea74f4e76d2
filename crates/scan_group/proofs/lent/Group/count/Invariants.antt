-- `Group::count` meets its contract: the entries counted, and those of the buckets that are left, are those of the group.
use Rattle.scan_group.specs.Sweep.{buckets_left}
use Rattle.scan_group.proofs.Counting.{Counting}
use Rattle.scan_group.proofs.lent.Group.count.Given as goal

abbrev pub invariant-loop-b : goal.invariant-loop-b
invariant-loop-b l =
    Counting l.self l.limit l.left (buckets_left l.b-iterator.small l.b-iterator.large l.b-iterator.next)
