-- The table of cases holds: what all rows speak of is computed, as one list.
-- Assumes nothing.
use Prim.Native.Nat.{ℕ}
use mathlib.Core.Path.{◌≡◌, refl}
use mathlib.Core.Bool.{Bool}
use mathlib.Core.List.{List, [], ◌∷◌}
use Rattle.little_endian.specs.Words.{decode, encode}
use Rattle.lent_bytes.specs.Exports.{Done, lengths_fit, exported}
use Rattle.export_laws.proofs.Computing.{exporting}
use Rattle.export_laws.specs.Cases.{Row, Holds, AllHold, nines, zeros, new_state, new_store, held_state, held, cases}

data Value : Type 0 where
  numbers : List ℕ → Value
  test : Bool → Value
  outcome : Done → Value

computed : List Row → List Value
computed [] = []
computed (Row.codes bytes ns ∷ rows) = Value.numbers (decode bytes) ∷ Value.numbers (encode ns) ∷ computed rows
computed (Row.fits state first second entries list answer fit ∷ rows) =
    Value.test (lengths_fit state first second entries list answer) ∷ computed rows
computed (Row.does x before number after ∷ rows) = Value.outcome (exported x before) ∷ computed rows

expected : List Row → List Value
expected [] = []
expected (Row.codes bytes ns ∷ rows) = Value.numbers ns ∷ Value.numbers bytes ∷ expected rows
expected (Row.fits state first second entries list answer fit ∷ rows) = Value.test fit ∷ expected rows
expected (Row.does x before number after ∷ rows) = Value.outcome (Done.done number after) ∷ expected rows

each : (rows : List Row) → computed rows ≡ expected rows → AllHold rows
unfolding computed expected AllHold Holds
each [] e = tt
each (Row.codes bytes ns ∷ rows) e = ((cc, cc), each rows (cc))
each (Row.fits state first second entries list answer fit ∷ rows) e = (cc, each rows (cc))
each (Row.does x before number after ∷ rows) e = (cc, each rows (cc))

pub cases_hold : AllHold cases
unfolding exporting computed expected nines zeros new_state new_store held_state held cases
cases_hold = each cases refl
