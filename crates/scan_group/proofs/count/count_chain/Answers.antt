-- `scan_group::count::count_chain` meets its contract: what is left of the limit may end the reading first.
use Rattle.scan_group.proofs.Counting.{limited}
use Rattle.scan_group.proofs.count.count_chain.Goals as goal

pub returns : goal.returns
returns c = search limited
