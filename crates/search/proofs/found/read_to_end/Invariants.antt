-- `search::found::read_to_end` meets its contract: the whole chain is as sound as what is left of it.
use Rattle.memory.specs.Chains.{rest}
use Rattle.search.proofs.Reading.{Reading}
use Rattle.search.proofs.found.read_to_end.Given as goal

abbrev pub invariant-loop : goal.invariant-loop
invariant-loop l = Reading l.left (rest l.chain)

abbrev pub decreases-loop : goal.decreases-loop
decreases-loop l = l.left.budget
