-- What a block has, and what is still to be written, as lines run.
-- Assumes nothing.
use Prim.Native.Nat.{ℕ, suc, ◌+◌, ◌-◌, ◌≤◌, ◌<◌}
use mathlib.Core.Path.{◌≡◌, refl, sym, ap, ◌∙◌, subst}
use Rattle.std.proofs.Common.{Option, Some, None}
use mathlib.Core.List.{List, [], ◌∷◌, ◌++◌, append-nil, append_assoc}
use native.Mathlib.Nat.{add-zero, add-suc, suc-add}
use native.Mathlib.Numerals.{add-one}
use native.Mathlib.Omega.{arith}
use lib.ListN.{length, take, drop, set, length-set, length-drop}
use lib.Seq.{length-take-le, take-append-le, take-append-add, take-suc-set, append_snoc}
use borrow.Rule.Slice.PartMut.{mid_of, post_of, put_mid, same_len_mid}
use Rattle.model.specs.Sequences.{World}
use Rattle.script.specs.Lines.{lines_of}
use Rattle.script.specs.Answers.{put}
use Rattle.script.specs.Places.{lines_from, Reaches}
use Rattle.script.specs.Program.{Ran, and_then, run_line, run_lines}
use Rattle.script_run.specs.Answers.{line_room}
use Rattle.script_run.specs.Runs.{Runs}
use Rattle.script_block.specs.Blocks.{RunsBlock}
use Rattle.script.proofs.Writing.{wrote_length}
use Rattle.script_block.proofs.Lines.{one_more}

-- the block has room for two of the longest answers
abbrev pub block_room : ℕ
block_room = line_room + line_room

-- Bytes at the front of a buffer

put_front : (out : List ℕ) (at : ℕ) (xs : List ℕ) → at + length xs ≤ length out
    → take (at + length xs) (put out at xs) ≡ take at out ++ xs
unfolding put
put_front out at [] h = rw (add-zero at) (sym (append-nil (take at out)))
put_front out at (x ∷ xs) h =
    ap (λ (n : ℕ). take n (put (set out at x) (suc at) xs)) (add-suc at (length xs) ∙ sym (suc-add at (length xs)))
    ∙ put_front (set out at x) (suc at) xs (omega (arith, length-set out at x))
    ∙ ap (λ (l : List ℕ). l ++ xs) (take-suc-set out at x (omega arith))
    ∙ append_snoc (take at out) x xs

-- Lines, one a turn

pub record Gathering (script : List ℕ) (w : World) (lent : List ℕ) (from : ℕ) (after : World) (handed block : List ℕ) (next filled : ℕ) : Type 0 where
  pub lines : List (List ℕ)
  pub rest : lines_of (drop from script) ≡ lines ++ lines_of (drop next script)
  pub answers : take filled block ≡ (run_lines w lent lines).written
  pub leaves : after ≡ (run_lines w lent lines).world
  pub list : handed ≡ (run_lines w lent lines).lent
  pub within : filled ≤ length block
  pub reached : from ≤ next
  pub idle : next ≡ from → filled ≡ 0

module _ (script : List ℕ) (w : World) (lent : List ℕ) (from : ℕ) where
  pub gathering_start : (block : List ℕ) → Gathering script w lent from w lent block from 0
  unfolding run_lines
  gathering_start block =
      record {
        lines = [];
        rest = refl;
        answers = refl;
        leaves = refl;
        list = refl;
        within = omega arith;
        reached = omega arith;
        idle = λ h. refl;
      }

  module _ (w' : World) (lent' block : List ℕ) (next filled : ℕ) (h : Gathering script w lent from w' lent' block next filled) where
    -- there is no next line, or no room for the longest answer
    done : (from < length script → from < next) → RunsBlock script w lent from w' lent' next block filled
    done further =
        record {
          lines = h.lines;
          rest = h.rest;
          answers = h.answers;
          world = h.leaves;
          list = h.list;
          within = h.within;
          further = further;
        }

    pub none_left : (found : Option ℕ) → Reaches (length script) next found → found ≡ None → RunsBlock script w lent from w' lent' next block filled
    unfolding Reaches
    none_left found reaches e =
        let ended : length script ≤ next = subst (Reaches (length script) next) e reaches in
        done (λ more. omega arith)

    -- the next line runs, into what is left of the block
    module _ (w'' : World) (lent'' out : List ℕ) (end size n : ℕ) (whole : length block ≡ size) (two : size ≡ line_room + line_room)
        (room : filled ≤ size - line_room)
        (ran : Runs (run_line w' lent' (take (end - next) (drop next script))) w'' lent'' (mid_of filled (size - filled) block) out n) where
      part_length : length (mid_of filled (size - filled) block) ≡ size - filled
      part_length = length-take-le (size - filled) (drop filled block) (omega (arith, length-drop filled block))

      out_length : length out ≡ length (mid_of filled (size - filled) block)
      out_length = wrote_length (mid_of filled (size - filled) block) 0 (run_line w' lent' (take (end - next) (drop next script))).written out n ran.line.wrote

      written : take n out ≡ (run_line w' lent' (take (end - next) (drop next script))).written
      written =
          ap (λ (k : ℕ). take k out) ran.line.wrote.behind
          ∙ ap (take (0 + length (run_line w' lent' (take (end - next) (drop next script))).written)) ran.line.wrote.buffer
          ∙ put_front (mid_of filled (size - filled) block) 0 (run_line w' lent' (take (end - next) (drop next script))).written
          (omega (arith, ran.line.short, part_length, ran.line.wrote.behind))

      pub whole_next : length (put_mid filled (size - filled) block out) ≡ size
      whole_next = same_len_mid filled (size - filled) block out out_length ∙ whole

      -- the answers behind those that the block had
      answered : take (filled + n) (put_mid filled (size - filled) block out)
          ≡ take filled block ++ (run_line w' lent' (take (end - next) (drop next script))).written
      answered =
          let l : length (take filled block) ≡ filled = length-take-le filled block (omega (arith, h.within)) in
          ap (λ (k : ℕ). take (k + n) (put_mid filled (size - filled) block out)) (sym l)
          ∙ take-append-add (take filled block) (out ++ post_of filled (size - filled) block) n
          ∙ ap (λ (k : List ℕ). take filled block ++ k)
          (take-append-le n out (post_of filled (size - filled) block) (omega (arith, ran.line.short, part_length, out_length)) ∙ written)

      pub gathering_next : lines_of (drop next script) ≡ lines_from script next (Some end) → Reaches (length script) next (Some end)
          → Gathering script w lent from w'' lent'' (put_mid filled (size - filled) block out) (end + 1) (filled + n)
      unfolding and_then lines_from Reaches
      gathering_next at reaches =
          let r = run_lines w lent h.lines in
          let l = take (end - next) (drop next script) in
          let q = run_line r.world r.lent l in
          let same : run_line w' lent' l ≡ q =
          ap (λ (v : World). run_line v lent' l) h.leaves ∙ ap (λ (k : List ℕ). run_line r.world k l) h.list in
          let all : and_then r q ≡ run_lines w lent (h.lines ++ l ∷ []) = one_more w lent h.lines l in
          record {
            lines = h.lines ++ l ∷ [];
            rest =
                h.rest ∙ ap (λ (ls : List (List ℕ)). h.lines ++ ls)
                (at ∙ ap (λ (k : ℕ). l ∷ lines_of (drop k script)) (sym (add-one end)))
                ∙ sym (append_assoc h.lines (l ∷ []) (lines_of (drop (end + 1) script)));
            answers =
                answered
                ∙ ap (λ (a : Ran). take filled block ++ a.written) same
                ∙ ap (λ (l : List ℕ). l ++ q.written) h.answers
                ∙ ap (λ (a : Ran). a.written) all;
            leaves = ran.world ∙ ap (λ (a : Ran). a.world) same ∙ ap (λ (a : Ran). a.world) all;
            list = ran.list ∙ ap (λ (a : Ran). a.lent) same ∙ ap (λ (a : Ran). a.lent) all;
            within = omega (arith, whole_next, ran.line.short);
            reached = omega (arith, h.reached, reaches);
            idle = λ k. absurd (omega (arith, h.reached, reaches));
          }
