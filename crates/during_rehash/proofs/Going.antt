-- A step that does what is told: the first free entry's link then, and the step for real.
-- Assumes nothing.
use Prim.Native.Nat.{ℕ, ◌<◌}
use mathlib.Core.Path.{◌≡◌, refl, ap, ◌∙◌}
use mathlib.Core.List.{List}
use Rattle.model.specs.declared.State.{State}
use Rattle.model.specs.declared.Error.{Error}
use Rattle.model.specs.Memory.{link_of}
use Rattle.model.specs.Calls.{After, advanced, settled, step_done, moved_chain, step_taken}
use Rattle.dict_rehash.specs.MovedChains.{old_chain, OldChain}
use Rattle.after_step.specs.declared.course.ChainSight.{ChainSight}
use Rattle.after_step.specs.Presence.{entries_after}
use Rattle.after_step.specs.Course.{Course, Goes, GoesChain}
use Rattle.after_step.proofs.Courses.{goes_still, link_still}
use Rattle.during_rehash.specs.declared.foresee.Step.{Step}
use Rattle.during_rehash.specs.Foretold.{Going}
use Rattle.std.specs.Prelude.{Result, Ok}

module _ (s : State) (current other entries : List ℕ) (step : Step) (k : Going s current other entries step) where
  abbrev meant : After (Result (ℕ × State) Error)
  meant = step_taken s current other entries

  -- no chain moves
  module _ (next : ℕ) (e : step ≡ Step.Still next) where
    still : Goes s current other entries s.free_head meant (Course.Still next)
    still = rw e at k.goes

    pub still_link : (link : ℕ) → link ≡ link_of entries s.free_head → link ≡ link_of (entries_after meant) s.free_head
    still_link link h = link_still s current other entries s.free_head meant (Course.Still next) still next refl link h

    pub still_taken : (t : State) → t ≡ settled (advanced s 0 next) → After.after (Ok (0, t)) current other entries ≡ meant
    unfolding step_done
    still_taken t h =
        ap (λ (u : State). After.after (Ok (0, u)) current other entries) h
        ∙ goes_still s current other entries s.free_head meant (Course.Still next) still next refl

  -- a chain moves
  module _ (c : ChainSight) (e : step ≡ Step.Moving c) where
    pub chain_goes : GoesChain s current other entries s.free_head (step_taken s current other entries) c
    unfolding Goes
    chain_goes = rw e at k.goes

    pub chain_below : c.bucket < s.old_size
    chain_below = chain_goes.below

    pub chain_read : OldChain s current entries c.bucket c.count
    chain_read = chain_goes.chain

    pub chain_taken : (m : ℕ × State) (x y z : List ℕ)
        → After.after (Ok m) x y z ≡ moved_chain s current other entries c.bucket (old_chain s current entries c.bucket)
        → After.after (Ok m) x y z ≡ meant
    chain_taken m x y z h = h ∙ chain_goes.step
