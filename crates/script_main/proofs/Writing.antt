-- A block's front.
-- Assumes nothing.
use Prim.Native.Nat.{ℕ, ◌≤◌}
use mathlib.Core.Path.{◌≡◌, sym}
use mathlib.Core.List.{List}
use lib.ListN.{length, take}
use lib.Seq.{length-take-le}
use Rattle.model.specs.Sequences.{World}
use Rattle.script_block.specs.Blocks.{RunsBlock}

pub front_counted : (filled : ℕ) (block : List ℕ) → filled ≤ length block → filled ≡ length (take filled block)
front_counted filled block h = sym (length-take-le filled block h)

pub block_within : (script : List ℕ) (w : World) (lent : List ℕ) (from : ℕ) (w' : World) (lent' : List ℕ) (next : ℕ) (block : List ℕ)
    (filled : ℕ) → RunsBlock script w lent from w' lent' next block filled → filled ≤ length block
block_within script w lent from w' lent' next block filled ran = ran.within
