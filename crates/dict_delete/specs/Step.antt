-- The step that comes before a delete, on the lent buffers: by whether a lookup finds the key once it is taken.
use Rattle.std.specs.Prelude.{ℕ, List, Result}
use Rattle.model.specs.declared.State.{State}
use Rattle.model.specs.declared.Error.{Error}
use Rattle.model.specs.Calls.{After, rehash_step}
use Rattle.after_step.specs.Presence.{presence_after}
use Rattle.during_rehash.specs.Moving.{if_held}

unfoldable pub step_for : State → (first second entries : List ℕ) → ℕ → After (Result (ℕ × State) Error)
step_for s first second entries key =
    if_held (presence_after key (rehash_step s first second entries)) (rehash_step s first second entries) first second entries
