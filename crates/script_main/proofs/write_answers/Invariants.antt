-- `script_main::write_answers` ends: each block uses up some of the script.
use Prim.Native.Nat.{◌-◌}
use lib.ListN.{length}
use Rattle.script_main.proofs.write_answers.Given as goal

abbrev pub decreases-loop-from : goal.decreases-loop-from
decreases-loop-from l = length l.script - l.from
