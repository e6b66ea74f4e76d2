-- `scan_two` meets its contract: each way out is a case of the definition.
use Rattle.dict_scan.proofs.Scanning.{two_damaged, two_short, two_writable, two_written}
use Rattle.dict_scan.proofs.scan.scan_two.Goals as goal

pub returns-in_err-total : goal.returns-in_err-total
returns-in_err-total c = search (two_damaged, c.in_err-total.was)

pub returns-then-list-total : goal.returns-then-list-total
returns-then-list-total c = search (two_short, c.in_ok-total.was)

pub write-requires : goal.write-requires
write-requires c = search (two_writable, c.in_ok-total.was)

pub returns : goal.returns
returns c = search (two_written, c.in_ok-total.was)
