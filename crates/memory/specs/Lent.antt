-- A state beside the lent buffers, as the code tests it: they enter by their lengths, and the flag says which is current.
use Rattle.std.specs.Prelude.{ℕ, Bool, cond}
use Rattle.model.specs.declared.State.{State}
use Rattle.model.specs.Memory.{sound_state}

-- the lengths of the first bucket buffer, the second, the entry buffer
unfoldable pub sound_lent : ℕ → ℕ → ℕ → State → Bool
sound_lent first second entries s =
    sound_state (cond s.second_is_current second first) (cond s.second_is_current first second) entries s
