-- The stores of specs/ReadCalls are excluded by demand 3.
-- Assumes nothing.
use mathlib.Core.Path.{refl}
use mathlib.Core.Bool.{true, false}
use mathlib.Core.List.{[], ◌∷◌}
use Rattle.model.specs.Sequences.{ReadCall, Call}
use Rattle.refinement.specs.Demand3.{Demand3}
use Rattle.wrong_stores.specs.ReadCalls.{suggests_seven, suggests_one, looks_away}
use Rattle.wrong_stores.proofs.Start.{computing, add, at, differ, no_look}

-- `answers`: the suggested size goes by the keys held, ..
pub suggests_seven_excluded : Demand3 suggests_seven → ⊥
unfolding computing suggests_seven
suggests_seven_excluded d =
    differ 0 (7 ∷ []) (4 ∷ []) refl
    ((at d 1 refl (Call.read (ReadCall.suggested_size true) ∷ [])).answers.0.values (no_look refl))

-- .. and is at least 4
pub suggests_one_excluded : Demand3 suggests_one → ⊥
unfolding computing suggests_one
suggests_one_excluded d =
    differ 0 (1 ∷ []) (4 ∷ []) refl
    ((at d 1 refl (Call.read (ReadCall.suggested_size false) ∷ [])).answers.0.values (no_look refl))

-- `look`: a look is the current buffer's table
pub looks_away_excluded : Demand3 looks_away → ⊥
unfolding computing looks_away
looks_away_excluded d = differ 0 (0 ∷ []) (1 ∷ []) refl (at d 1 refl (add 1 10 ∷ [])).look
