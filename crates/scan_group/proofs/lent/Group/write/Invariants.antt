-- `Group::write` meets its contract: the pairs written, and those of the buckets that are left, are those of the group.
use Rattle.scan_group.specs.Sweep.{buckets_left}
use Rattle.scan_group.proofs.Writing.{WritingGroup}
use Rattle.scan_group.proofs.lent.Group.write.Given as goal

abbrev pub invariant-loop-b : goal.invariant-loop-b
invariant-loop-b l =
    WritingGroup l.self l.fn.list l.list l.to (buckets_left l.b-iterator.small l.b-iterator.large l.b-iterator.next)
