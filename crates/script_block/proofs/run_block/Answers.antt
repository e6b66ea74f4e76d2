-- The goals of `run_block` that the search leaves.
use Rattle.std.proofs.Common.{refl, rules}
use Rattle.script.specs.Program.{program_limit}
use Rattle.script_block.proofs.Gathering.{gathering_start, gathering_next, whole_next, none_left}
use Rattle.script_block.proofs.run_block.Goals as goal

pub loop-filled-init : goal.loop-filled-init
unfolding program_limit
loop-filled-init c = search (rules, gathering_start)

pub loop-filled-preserved : goal.loop-filled-preserved
unfolding program_limit
loop-filled-preserved c =
    record {
      same_buffers = search rules;
      pairs = search rules;
      block = search whole_next;
      gathering =
          gathering_next _ _ _ _ _ _ _ _ _ c.loop-filled.invariant.gathering _ _ _ _ _ _ c.loop-filled.invariant.block refl
          c.loop-filled-test.true c.run_line-length.ensures.runs c.in-Some.ensures.script_value c.in-Some.ensures.reaches;
    }

pub returns-in_default-clause-runs_block : goal.returns-in_default-clause-runs_block
returns-in_default-clause-runs_block c = search none_left
