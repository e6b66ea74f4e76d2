-- `after_step::link::link_moved` meets its contract: through the rest of the chain the link is what it is through the whole.
use Prim.Native.Nat.{◌-◌}
use Rattle.dict_rehash.specs.MovedChains.{chains}
use Rattle.after_step.proofs.LinkAfter.{Telling}
use Rattle.after_step.proofs.link.link_moved.Given as goal

abbrev pub invariant-loop : goal.invariant-loop
invariant-loop l = Telling l.size l.head l.count l.n (chains l.buckets l.entries) l.own l.link l.at l.counter

abbrev pub decreases-loop : goal.decreases-loop
decreases-loop l = l.count - l.counter
