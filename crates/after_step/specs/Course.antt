-- What is known of a step before it is taken: what it does, and what a lookup answers after it.
use Rattle.std.specs.Prelude.{ℕ, ◌<◌, ◌≡◌, Bool, false, List, length, Result, Ok, Err}
use Rattle.std.proofs.Math.Option.{Option, none, some}
use Rattle.model.specs.declared.State.{State}
use Rattle.model.specs.declared.Error.{Error}
use Rattle.model.specs.Calls.{After, step_done, moved_chain}
use Rattle.dict_rehash.specs.MovedChains.{old_chain, OldChain}
use Rattle.after_step.specs.declared.course.ChainSight.{ChainSight}
use Rattle.after_step.specs.Presence.{presence_then}
use Rattle.after_step.specs.Told.{among}

-- What a step does: it is refused; no chain moves, and this bucket is the next one; or a chain moves, of which so much is known.
-- (Only damaged memory has a free entry there.)
pub data Course : Type 0 where
  Refused : Course
  Still : ℕ → Course
  Moving : ChainSight → Course

-- with what a lookup answers after it
pub record Foresight : Type 0 where
  pub presence : Result Bool Error
  pub course : Course

abbrev pub sight : Result Bool Error → Course → Foresight
sight v c = record { presence = v; course = c }

-- That the step `a`, on the current and the other bucket buffer, moves the chain of that bucket: it has that many entries, and
-- entry n is one of them or not.
pub record GoesChain (s : State) (current other entries : List ℕ) (n : ℕ) (a : After (Result (ℕ × State) Error)) (c : ChainSight) : Type 0 where
  pub below : c.bucket < s.old_size
  pub chain : OldChain s current entries c.bucket c.count
  pub step : moved_chain s current other entries c.bucket (old_chain s current entries c.bucket) ≡ a
  pub met : c.meets ≡ among n chain.ns

-- that the step does what is told
unfoldable pub Goes : State → (current other entries : List ℕ) → ℕ → After (Result (ℕ × State) Error) → Course → Type 0
Goes s current other entries n a Course.Refused = After.after (Err Error.Damaged) current other entries ≡ a
Goes s current other entries n a (Course.Still next) =
    After.after (step_done s 0 next) current other entries ≡ a
Goes s current other entries n a (Course.Moving c) = GoesChain s current other entries n a c

-- and that a lookup of the key answers so after it
pub record Foreseen (s : State) (current other entries : List ℕ) (key n : ℕ) (a : After (Result (ℕ × State) Error)) (r : Foresight) : Type 0 where
  pub told : r.presence ≡ presence_then key s.second_is_current a
  pub goes : Goes s current other entries n a r.course

-- What a step that comes to bucket b does, by the chain there: it is refused where that chain is not sound, and else moves it. (For
-- damage elsewhere, which tells nothing of the key: `held` is false.)
unfoldable pub chain_course : ℕ → ℕ → Option (List ℕ) → Course
chain_course b n none = Course.Refused
chain_course b n (some ns) =
    Course.Moving (record { bucket = b; count = length ns; held = false; meets = among n ns })

-- From what is told of the chain of bucket b: it moves; or there is damage, on that chain, where the step is refused, or on one that
-- a lookup reads after it, where it moves too.
unfoldable pub ForeseenChain : State → (current other entries : List ℕ) → (key n : ℕ) → After (Result (ℕ × State) Error) → ℕ → Result ChainSight Error → Type 0
ForeseenChain s current other entries key n a b (Err e) =
    Foreseen s current other entries key n a (sight (Err e) (chain_course b n (old_chain s current entries b)))
ForeseenChain s current other entries key n a b (Ok c) =
    (c.bucket ≡ b) × Foreseen s current other entries key n a (sight (Ok c.held) (Course.Moving c))
