-- What the code's words say of a step before it is taken.
use Rattle.std.specs.Prelude.{ℕ, ◌≡◌, true, List, length, Ok, Err}
use Rattle.model.specs.declared.State.{State}
use Rattle.model.specs.declared.Error.{Error}
use Rattle.model.specs.Calls.{step_taken, step_due}
use Rattle.model.proofs.Soundness.{Sound}
use Rattle.after_step.specs.Presence.{presence_then}
use Rattle.after_step.specs.Course.{Course, Goes}
use Rattle.during_rehash.specs.declared.foresee.Step.{Step}
use Rattle.during_rehash.specs.declared.foresee.Foresight.{Foresight}

-- in a sound state a step is due: a rehash is under way, and no safe iterator holds it up
pub record StepDue (s : State) (current other entries : List ℕ) : Type 0 where
  pub sound : Sound s (length current) (length other) (length entries)
  pub due : step_due s ≡ true

abbrev pub course_of : Step → Course
course_of (Step.Still next) = Course.Still next
course_of (Step.Moving chain) = Course.Moving chain

-- it does what is told
pub record Going (s : State) (current other entries : List ℕ) (step : Step) : Type 0 where
  pub due : StepDue s current other entries
  pub goes : Goes s current other entries s.free_head (step_taken s current other entries) (course_of step)

-- and the key is held once it is taken, or not, as is told
pub record Foretold (s : State) (current other entries : List ℕ) (key : ℕ) (f : Foresight) : Type 0 where
  pub going : Going s current other entries f.step
  pub told : Ok f.held ≡ presence_then key s.second_is_current (step_taken s current other entries)

-- it meets damage, or the lookup after it would
pub record Untold (s : State) (current other entries : List ℕ) (key : ℕ) (error : Error) : Type 0 where
  pub told : Err error ≡ presence_then key s.second_is_current (step_taken s current other entries)
