-- The blocks of a script, one after another, are its answers.
-- Assumes nothing.
use Prim.Native.Nat.{ℕ, ◌*◌, ◌≤◌}
use mathlib.Core.Path.{◌≡◌, sym, ap, ◌∙◌}
use mathlib.Core.List.{List, [], ◌++◌}
use lib.ListN.{length, take, drop, drop_of_length-le, replicate}
use borrow.Author.Tests.{le-ltb}
use Rattle.model.specs.Sequences.{World}
use Rattle.script.specs.Lines.{lines_of, split, closed, line_feed}
use Rattle.script.specs.Program.{Ran, and_then, run_lines, run_script, longest_script, program_limit, first_world}
use Rattle.script_block.specs.Blocks.{RunsBlock, Blocks}
use Rattle.script_block.proofs.Lines.{lines_both}

none_left : (script : List ℕ) (w : World) (lent : List ℕ) (from : ℕ) → length script ≤ from
    → [] ≡ (run_lines w lent (lines_of (drop from script))).written
unfolding run_lines lines_of split closed line_feed
none_left script w lent from h = rw (drop_of_length-le script h)

-- a block's answers, and then those of the lines behind it
block_then : (script : List ℕ) (w : World) (lent : List ℕ) (from : ℕ) (after : World) (handed : List ℕ) (next : ℕ) (block : List ℕ)
    (filled : ℕ) → RunsBlock script w lent from after handed next block filled → (more : List ℕ)
    → more ≡ (run_lines after handed (lines_of (drop next script))).written
    → take filled block ++ more ≡ (run_lines w lent (lines_of (drop from script))).written
unfolding and_then
block_then script w lent from after handed next block filled ran more e =
    let r = run_lines w lent ran.lines in
    let behind = lines_of (drop next script) in
    ap (λ (l : List ℕ). take filled block ++ l) e
    ∙ ap (λ (l : List ℕ). l ++ (run_lines after handed behind).written) ran.answers
    ∙ ap (λ (v : World). r.written ++ (run_lines v handed behind).written) ran.world
    ∙ ap (λ (l : List ℕ). r.written ++ (run_lines r.world l behind).written) ran.list
    ∙ ap (λ (a : Ran). a.written) (sym (lines_both w lent ran.lines behind))
    ∙ ap (λ (ls : List (List ℕ)). (run_lines w lent ls).written) (sym ran.rest)

pub blocks_answer : {script : List ℕ} {w : World} {lent : List ℕ} {from : ℕ} {written : List ℕ} → Blocks script w lent from written
    → written ≡ (run_lines w lent (lines_of (drop from script))).written
blocks_answer {script} {w} {lent} {from} (Blocks.done h) = none_left script w lent from h
blocks_answer (Blocks.more block filled ran blocks) = block_then _ _ _ _ _ _ _ block filled ran _ (blocks_answer blocks)

-- what a program writes that begins with no store and takes block after block is what the script is to be answered with
pub script_answered : (script written : List ℕ) → length script ≤ longest_script
    → Blocks script first_world (replicate (program_limit * 2) 0) 0 written → written ≡ run_script script
unfolding run_script
script_answered script written h b = rw (le-ltb longest_script (length script) h) (blocks_answer b)
