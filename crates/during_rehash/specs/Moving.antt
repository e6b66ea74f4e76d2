-- Add and delete during a rehash, as the functions below the public calls promise them: on the current and the other bucket
-- buffer.
use Rattle.std.specs.Prelude.{ℕ, Bool, true, false, List, Result, Ok, Err}
use Rattle.model.specs.declared.State.{State}
use Rattle.model.specs.declared.Error.{Error}
use Rattle.model.specs.Calls.{After, oriented, back, add_after_step}

-- the lent buffers, from the current and the other one
abbrev pub first_of : Bool → List ℕ → List ℕ → List ℕ
first_of second current other = oriented second (λ x y. x) current other

abbrev pub second_of : Bool → List ℕ → List ℕ → List ℕ
second_of second current other = oriented second (λ x y. y) current other

unfoldable pub add_moving : State → List ℕ → List ℕ → List ℕ → ℕ → ℕ → After (Result State Error)
add_moving s current other entries key value =
    back s.second_is_current
    (add_after_step s (first_of s.second_is_current current other) (second_of s.second_is_current current other) entries key value)

-- The step that comes before a delete, by whether a lookup finds the key once it is taken: it is taken where the key is held
-- then, and else the delete is refused, and all is as it was.
unfoldable pub if_held : Result Bool Error → After (Result (ℕ × State) Error) → List ℕ → List ℕ → List ℕ → After (Result (ℕ × State) Error)
if_held (Err error) step current other entries = After.after (Err error) current other entries
if_held (Ok false) step current other entries = After.after (Err Error.Absent) current other entries
if_held (Ok true) step current other entries = step
