-- `repair_main::calls::answer_calls` meets its contract.
use Rattle.repair_main.proofs.Numbering.{both}
use Rattle.repair_main.proofs.calls.answer_calls.Goals as goal

pub returns : goal.returns
returns c = search both
