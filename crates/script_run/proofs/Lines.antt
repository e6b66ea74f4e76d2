-- A line's run from its command's.
-- Assumes nothing.
use Prim.Native.Nat.{ℕ}
use mathlib.Core.Path.{◌≡◌, refl, sym, ◌∙◌, subst}
use mathlib.Core.List.{List}
use Rattle.std.proofs.Common.{Option, Some, None, Result, Ok, Err}
use Rattle.std.specs.Prelude.{ok_or, IsErrAnd}
use Rattle.model.specs.Sequences.{World}
use Rattle.script.specs.declared.line.Command.{Command}
use Rattle.script.specs.Lines.{command}
use Rattle.script.specs.Program.{Ran, run_command, run_said, run_line}
use Rattle.script_run.specs.declared.answer.Refusal.{Refusal}
use Rattle.script_run.specs.declared.answer.Values.{Values}
use Rattle.script_run.specs.Answers.{refusal_number, line_of, Fits, Written}
use Rattle.script_run.specs.Runs.{Leaves, Runs}

module _ (w : World) (lent line : List ℕ) (o : Option Command) (q : Result Command Refusal) (p : o ≡ command line)
    (k : q ≡ ok_or o Refusal.BadLine) where
  -- a line that says a command
  pub said_leaves : (c : Command) (r : Result Values Refusal) (after : World) (lent' : List ℕ) → q ≡ Ok c
      → Leaves (run_command w lent c) r after lent' → Leaves (run_line w lent line) r after lent'
  unfolding run_line run_said
  said_leaves c r after lent' e l = rw (← p) (at o (sym k ∙ e))
    where
      at : (o : Option Command) → ok_or o Refusal.BadLine ≡ Ok c → Leaves (run_said w lent o) r after lent'
      at (Some d) e = let same : d ≡ c = cc in rw same l
      at None e = absurd cc

  -- one that says nothing
  pub bad_leaves : (f : Refusal) (r : Result Values Refusal) → q ≡ Err f → IsErrAnd r (λ g. g ≡ f) → Leaves (run_line w lent line) r w lent
  unfolding run_line run_said line_of refusal_number Fits
  bad_leaves f r e h = rw (← p) (at o r (sym k ∙ e) h)
    where
      at : (o : Option Command) (r : Result Values Refusal) → ok_or o Refusal.BadLine ≡ Err f → IsErrAnd r (λ g. g ≡ f)
          → Leaves (run_said w lent o) r w lent
      at o (Ok v) e h = elim h [ ]
      at (Some d) (Err g) e h = absurd cc
      at None (Err g) e h = let same : g ≡ Refusal.BadLine = cc in rw same (record { same = refl; fits = tt })

-- the line that an answer is written as
pub written_runs : (ran : Ran) (answer : Result Values Refusal) (after : World) (lent before out : List ℕ) (n : ℕ)
    → Leaves ran answer after lent → Written (line_of answer lent) before out n → Runs ran after lent before out n
written_runs ran answer after lent before out n l t =
    subst (λ (q : Ran). Runs q after lent before out n) l.same (record { line = t; world = refl; list = refl })
