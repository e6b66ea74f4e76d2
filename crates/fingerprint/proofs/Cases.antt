-- The table of cases holds: the fingerprints of all rows are computed, as one list.
-- Assumes nothing.
use Rattle.std.proofs.Common.{◌≡◌, ℕ, List, [], ◌∷◌, refl}
use Rattle.fingerprint.specs.Mix.{cut, plus, inverse, left, right, mixed, folded, fingerprint}
use Rattle.fingerprint.specs.Cases.{Row, AllHold, highest, ones, cases}

computed : List Row → List ℕ
computed [] = []
computed (Row.prints numbers print ∷ rows) = fingerprint numbers ∷ computed rows

expected : List Row → List ℕ
expected [] = []
expected (Row.prints numbers print ∷ rows) = print ∷ expected rows

each : (rows : List Row) → computed rows ≡ expected rows → AllHold rows
unfolding computed expected AllHold
each [] e = tt
each (Row.prints numbers print ∷ rows) e = (cc, each rows (cc))

pub cases_hold : AllHold cases
unfolding computed expected highest ones cases cut plus inverse left right mixed folded fingerprint
cases_hold = each cases refl
