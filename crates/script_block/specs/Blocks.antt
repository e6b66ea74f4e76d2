-- A script's answers in blocks: what a block has, and what is then still to be written.
use Rattle.std.specs.Prelude.{ℕ, ◌≤◌, ◌<◌, ◌≡◌, List, [], ◌++◌, length, take, drop}
use Rattle.model.specs.Sequences.{World}
use Rattle.script.specs.Lines.{lines_of}
use Rattle.script.specs.Program.{run_lines}

-- Some lines of the script have run, and their answers stand in the block, from its front: what the block has there, the
-- world and the list that walk calls are lent are what those lines write and leave. If there was a line, one has run.
-- What the block has behind the answers is left free.
pub record RunsBlock (script : List ℕ) (w : World) (lent : List ℕ) (from : ℕ) (after : World) (handed : List ℕ) (next : ℕ)
    (block : List ℕ) (filled : ℕ) : Type 0 where
  pub lines : List (List ℕ)
  pub rest : lines_of (drop from script) ≡ lines ++ lines_of (drop next script)
  pub answers : take filled block ≡ (run_lines w lent lines).written
  pub world : after ≡ (run_lines w lent lines).world
  pub list : handed ≡ (run_lines w lent lines).lent
  pub within : filled ≤ length block
  pub further : from < length script → from < next

-- What a program writes that takes block after block until the script is used up.
pub data Blocks (script : List ℕ) : World → List ℕ → ℕ → List ℕ → Type 0 where
  done : {w : World} {lent : List ℕ} {from : ℕ} → length script ≤ from → Blocks script w lent from []
  more : {w : World} {lent : List ℕ} {from : ℕ} {after : World} {handed : List ℕ} {next : ℕ} {rest : List ℕ}
      (block : List ℕ) (filled : ℕ) → RunsBlock script w lent from after handed next block filled
      → Blocks script after handed next rest → Blocks script w lent from (take filled block ++ rest)
