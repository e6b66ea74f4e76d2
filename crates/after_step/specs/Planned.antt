-- What a call knows that is to take a step: that one is due, and what is told of the key once it is taken.
use Rattle.std.specs.Prelude.{ℕ, ◌≡◌, Bool, true, List, length, Result}
use Rattle.model.specs.declared.State.{State}
use Rattle.model.specs.declared.Error.{Error}
use Rattle.model.specs.Calls.{rehash_step, step_due}
use Rattle.memory.specs.Lent.{sound_lent}
use Rattle.after_step.specs.Presence.{presence_after}

pub record Planned (s : State) (first second entries : List ℕ) (key : ℕ) (v : Result Bool Error) : Type 0 where
  pub sound : sound_lent (length first) (length second) (length entries) s ≡ true
  pub due : step_due s ≡ true
  pub told : v ≡ presence_after key (rehash_step s first second entries)
