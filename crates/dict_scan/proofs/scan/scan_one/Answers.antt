-- `scan_one` meets its contract: the bucket and the next cursor are those of the cursor.
use Rattle.dict_scan.proofs.Scanning.{one_handed_out}
use Rattle.dict_scan.proofs.scan.scan_one.Goals as goal

pub returns : goal.returns
returns c = search one_handed_out
