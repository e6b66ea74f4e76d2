-- A script's lines by their places in it, as the code finds them.
use Rattle.std.specs.Prelude.{ℕ, suc, ◌-◌, ◌≤◌, Option, Some, None, List, [], ◌∷◌, take, drop}
use Rattle.script.specs.Lines.{lines_of}

-- the lines from a place on: the bytes until the end of the first, then the lines behind its line feed
unfoldable pub lines_from : List ℕ → ℕ → Option ℕ → List (List ℕ)
lines_from script from None = []
lines_from script from (Some end) = take (end - from) (drop from script) ∷ lines_of (drop (suc end) script)

-- a line lies within the script, of that length
unfoldable pub Reaches : ℕ → ℕ → Option ℕ → Type 0
Reaches length from None = length ≤ from
Reaches length from (Some end) = (from ≤ end) × (end ≤ length)
