-- `dict_rehash::rehash::move_chain` meets its contract: moving the rest of the chain gives what moving the whole of it gives.
use Prim.Native.Nat.{◌-◌}
use Rattle.dict_rehash.specs.MovedChains.{chains}
use Rattle.dict_rehash.proofs.Relinking.{Relinking}
use Rattle.dict_rehash.proofs.rehash.move_chain.Given as goal

abbrev pub invariant-loop : goal.invariant-loop
invariant-loop l = Relinking l.size l.head l.count (chains l.initial.buckets l.initial.entries) (chains l.buckets l.entries) l.at l.counter

abbrev pub decreases-loop : goal.decreases-loop
decreases-loop l = l.count - l.counter
