-- The line that answers a line: the number, on 0 the result's numbers too, one space between, a line feed at the end.
use Rattle.std.specs.Prelude.{ℕ, zero, suc, ◌+◌, ◌≡◌, List, [], ◌∷◌, ◌++◌, length, set}
use Rattle.script.specs.Numbers.{decimal}
use Rattle.script.specs.Lines.{space, line_feed}

-- a space before each
unfoldable pub spaced : List ℕ → List ℕ
spaced [] = []
spaced (value ∷ values) = space ∷ decimal value ++ spaced values

unfoldable pub answer_line : ℕ → List ℕ → List ℕ
answer_line zero values = decimal zero ++ spaced values ++ line_feed ∷ []
answer_line (suc number) values = decimal (suc number) ++ line_feed ∷ []

unfoldable pub bad_line : ℕ
bad_line = 10

-- a buffer once some bytes are put into it, from a place on
unfoldable pub put : List ℕ → ℕ → List ℕ → List ℕ
put out at [] = out
put out at (b ∷ bs) = put (set out at b) (suc at) bs

-- what a writer does: the bytes are in the buffer from a place on, and the next place is behind them
pub record Wrote (before : List ℕ) (at : ℕ) (bytes after : List ℕ) (next : ℕ) : Type 0 where
  pub behind : next ≡ at + length bytes
  pub buffer : after ≡ put before at bytes
