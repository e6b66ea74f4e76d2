-- What a line is answered with, as the code has it, and the line that it is written as.
use Rattle.std.specs.Prelude.{ℕ, ◌+◌, ◌*◌, ◌≤◌, Result, Ok, Err, List, [], ◌∷◌, ◌++◌, length, take}
use Rattle.model.specs.declared.ScanError.{ScanError}
use Rattle.model.specs.Answers.{error_number}
use Rattle.script.specs.Answers.{answer_line, bad_line, Wrote}
use Rattle.script.specs.Program.{program_limit}
use Rattle.script_run.specs.declared.answer.Refusal.{Refusal}
use Rattle.script_run.specs.declared.answer.Values.{Values}

-- the places of the list that walk calls are lent
abbrev pub pair_room : ℕ
pair_room = program_limit * 2

-- room for 0 and the line feed, then a cursor, a number of keys and the pairs, each number with its space
abbrev pub line_room : ℕ
line_room = 2 + (2 + pair_room) * 11

unfoldable pub values_of : Values → List ℕ
values_of Values.None = []
values_of (Values.One a) = a ∷ []
values_of (Values.Two a b) = a ∷ b ∷ []
values_of (Values.Walk next count) = next ∷ count ∷ []

-- how many numbers of the list are written behind the values
unfoldable pub handed : Values → ℕ
handed Values.None = 0
handed (Values.One a) = 0
handed (Values.Two a b) = 0
handed (Values.Walk next count) = count * 2

unfoldable pub refusal_number : Refusal → ℕ
refusal_number Refusal.BadLine = bad_line
refusal_number Refusal.Short = 9
refusal_number (Refusal.Store e) = error_number e

unfoldable pub scan_refusal : ScanError → Refusal
scan_refusal (ScanError.Short count) = Refusal.Short
scan_refusal (ScanError.Refused e) = Refusal.Store e

-- 0 and the values, where walk calls are lent that list
unfoldable pub done_line : Values → List ℕ → List ℕ
done_line values lent = answer_line 0 (values_of values ++ take (handed values) lent)

-- an answer's line
unfoldable pub line_of : Result Values Refusal → List ℕ → List ℕ
line_of (Ok values) lent = done_line values lent
line_of (Err refusal) lent = answer_line (refusal_number refusal) []

-- the list has what is written of it
unfoldable pub Fits : Result Values Refusal → List ℕ → Type 0
Fits (Ok values) lent = handed values ≤ length lent
Fits (Err refusal) lent = Unit {0}

-- There is room for the longest answer, the list is no longer than that is made for, and has what is written of it.
pub record Room (out lent : List ℕ) (values : Values) : Type 0 where
  pub line : line_room ≤ length out
  pub pairs : length lent ≤ pair_room
  pub fits : handed values ≤ length lent

-- A line is in the buffer, so many bytes from its front and no more than the longest has.
pub record Written (line before out : List ℕ) (length : ℕ) : Type 0 where
  pub wrote : Wrote before 0 line out length
  pub short : length ≤ line_room
