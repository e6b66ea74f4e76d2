-- What running a line leaves.
use Rattle.std.specs.Prelude.{ℕ, ◌≡◌, Result, List}
use Rattle.model.specs.Sequences.{World}
use Rattle.script.specs.Program.{Ran}
use Rattle.script_run.specs.declared.answer.Refusal.{Refusal}
use Rattle.script_run.specs.declared.answer.Values.{Values}
use Rattle.script_run.specs.Answers.{line_of, Fits, Written}

-- what there is behind an answer: the world, and the list that walk calls are lent
abbrev pub ran_of : Result Values Refusal → World → List ℕ → Ran
ran_of answer after lent = record { written = line_of answer lent; world = after; lent = lent }

-- a line's answer, and the world and the list for the next line
pub record Leaves (ran : Ran) (answer : Result Values Refusal) (after : World) (lent : List ℕ) : Type 0 where
  pub same : ran_of answer after lent ≡ ran
  pub fits : Fits answer lent

-- .. and the line that it is written as
pub record Runs (ran : Ran) (after : World) (lent before out : List ℕ) (length : ℕ) : Type 0 where
  pub line : Written ran.written before out length
  pub world : after ≡ ran.world
  pub list : lent ≡ ran.lent
