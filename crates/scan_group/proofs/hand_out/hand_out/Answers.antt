-- `hand_out` meets its contract: each way out is a case of the definition.
use Rattle.scan_group.proofs.HandingOut.{one_damaged, one_short, one_writable, one_written}
use Rattle.scan_group.proofs.hand_out.hand_out.Goals as goal

pub returns-in_err-count : goal.returns-in_err-count
returns-in_err-count c = search (one_damaged, c.in_err-count.was)

pub returns-then-list-count : goal.returns-then-list-count
returns-then-list-count c = search (one_short, c.in_ok-count.was)

pub write_chain-requires : goal.write_chain-requires
write_chain-requires c = search (one_writable, c.in_ok-count.was)

pub returns : goal.returns
returns c = search (one_written, c.in_ok-count.was)
