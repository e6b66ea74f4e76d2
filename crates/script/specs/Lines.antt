-- A line of a script: a letter, then its numbers, with one space before each.
use Rattle.std.specs.Prelude.{ℕ, cond, Option, Some, None, option_and_then, List, [], ◌∷◌, eqb}
use Rattle.script.specs.declared.line.Arguments.{Arguments}
use Rattle.script.specs.declared.line.Command.{Command}
use Rattle.script.specs.Numbers.{number}

unfoldable pub space : ℕ
space = 32

unfoldable pub line_feed : ℕ
line_feed = 10

-- The parts of some bytes between the marks, in order. Two marks in a row have an empty part between them.

unfoldable pub begun : ℕ → List (List ℕ) → List (List ℕ)
begun b [] = []
begun b (part ∷ parts) = (b ∷ part) ∷ parts

unfoldable pub split : ℕ → List ℕ → List (List ℕ)
split mark [] = [] ∷ []
split mark (b ∷ bs) = cond (eqb b mark) ([] ∷ split mark bs) (begun b (split mark bs))

-- The numbers of a line: none, one or two, each good.

unfoldable pub one : Option ℕ → Option Arguments
one None = None
one (Some a) = Some (Arguments.One a)

unfoldable pub two : Option ℕ → Option ℕ → Option Arguments
two None second = None
two (Some a) None = None
two (Some a) (Some b) = Some (Arguments.Two a b)

unfoldable pub arguments : List (List ℕ) → Option Arguments
arguments [] = Some Arguments.Zero
arguments (a ∷ []) = one (number a)
arguments (a ∷ b ∷ []) = two (number a) (number b)
arguments (a ∷ b ∷ c ∷ words) = None

-- The letters are N 78, A 65, V 86; D 68, F 70, R 82, C 67; S 83.
unfoldable pub named : ℕ → Arguments → Option Command
named letter Arguments.Zero = cond (eqb letter 83) (Some Command.RehashStep) None
named letter (Arguments.One a) =
    cond (eqb letter 68) (Some (Command.Delete a))
    (cond (eqb letter 70) (Some (Command.Find a))
    (cond (eqb letter 82) (Some (Command.Resize a))
    (cond (eqb letter 67) (Some (Command.Scan a)) None)))
named letter (Arguments.Two a b) =
    cond (eqb letter 78) (Some (Command.Init a b))
    (cond (eqb letter 65) (Some (Command.Add a b))
    (cond (eqb letter 86) (Some (Command.Update a b)) None))

-- the first word is one letter
unfoldable pub spoken : List (List ℕ) → Option Command
spoken [] = None
spoken ([] ∷ words) = None
spoken ((letter ∷ []) ∷ words) = option_and_then (named letter) (arguments words)
spoken ((letter ∷ b ∷ more) ∷ words) = None

unfoldable pub command : List ℕ → Option Command
command line = spoken (split space line)

-- The lines of a script. A line feed ends a line, and the last one may lack it; an empty script has no line.

unfoldable pub closed : List (List ℕ) → List (List ℕ)
closed [] = []
closed ([] ∷ []) = []
closed ((b ∷ line) ∷ []) = (b ∷ line) ∷ []
closed (line ∷ next ∷ lines) = line ∷ closed (next ∷ lines)

unfoldable pub lines_of : List ℕ → List (List ℕ)
lines_of script = closed (split line_feed script)
