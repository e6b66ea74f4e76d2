-- `write_chain` meets its contract: the pairs written, and those of the entries from here on, are those of the whole chain.
use Prim.Native.Nat.{◌-◌}
use lib.ListN.{length}
use Rattle.scan_group.proofs.Writing.{Writing}
use Rattle.scan_group.proofs.write.write_chain.Given as goal

abbrev pub invariant-loop-at : goal.invariant-loop-at
invariant-loop-at l = Writing l.entries l.initial.list l.head l.at l.to l.list

abbrev pub decreases-loop-at : goal.decreases-loop-at
decreases-loop-at l = length l.initial.list - l.to
