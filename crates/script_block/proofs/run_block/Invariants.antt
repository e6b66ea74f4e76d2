-- `script_block::run_block` meets its contract: what the block has and what is to be written stay the answers that were due.
use Prim.Native.Nat.{◌+◌, ◌-◌}
use mathlib.Core.Path.{◌≡◌}
use lib.ListN.{length}
use Rattle.script_run.specs.Answers.{pair_room}
use Rattle.store.specs.Stores.{world_of, SameBuffers}
use Rattle.script_block.proofs.Gathering.{block_room, Gathering}
use Rattle.script_block.proofs.run_block.Given as goal

abbrev pub invariant-loop-filled : goal.invariant-loop-filled
invariant-loop-filled l = record {
  same_buffers : SameBuffers l.initial.store l.store;
  pairs : length l.pairs ≡ pair_room;
  block : length l.block ≡ block_room;
  gathering : Gathering l.script (world_of l.initial.store) l.initial.pairs l.from (world_of l.store) l.pairs l.block l.next l.filled;
}

abbrev pub decreases-loop-filled : goal.decreases-loop-filled
decreases-loop-filled l = length l.script + 1 - l.next
