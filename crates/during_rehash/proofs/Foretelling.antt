-- From what is foreseen of a step to the code's words for it.
-- Assumes nothing.
use Prim.Native.Nat.{ℕ, ◌<◌}
use mathlib.Core.Path.{◌≡◌, refl, subst}
use mathlib.Core.Bool.{Bool}
use mathlib.Core.List.{List}
use native.Mathlib.Omega.{arith}
use Rattle.model.specs.declared.State.{State}
use Rattle.model.specs.declared.Table.{Table}
use Rattle.model.specs.declared.Error.{Error}
use Rattle.model.specs.declared.Ahead.{Ahead}
use Rattle.model.specs.Calls.{After, both, moved_chain, ahead_of, step_taken}
use Rattle.search.specs.Found.{Found, found_of}
use Rattle.search.specs.Tables.{searched_in}
use Rattle.dict_rehash.specs.MovedChains.{old_chain}
use Rattle.dict_rehash.proofs.Stepping.{next_filled, step_moved}
use Rattle.after_step.specs.declared.course.ChainSight.{ChainSight}
use Rattle.after_step.specs.Told.{found_presence}
use Rattle.after_step.specs.Course.{Course, sight, Foreseen, ForeseenChain}
use Rattle.after_step.specs.Presence.{presence_then}
use Rattle.after_step.proofs.Courses.{same_step, chain_damaged, chain_sound, foreseen_end, foreseen_empty, foreseen_ahead, foreseen_ended}
use Rattle.during_rehash.specs.declared.foresee.Step.{Step}
use Rattle.during_rehash.specs.Foretold.{StepDue, Foretold, Untold}
use Rattle.std.specs.Prelude.{Result, Ok, Err}

module _ (s : State) (current other entries : List ℕ) (key : ℕ) (d : StepDue s current other entries) where
  abbrev step : After (Result (ℕ × State) Error)
  step = step_taken s current other entries

  abbrev Sees : Result Bool Error → Course → Type 0
  Sees v course = Foreseen s current other entries key s.free_head step (sight v course)

  -- with no keys in the old table
  module _ (z : s.old_used ≡ 0) (y : Found) (g : (t : Table) → y ≡ found_of (searched_in entries s.capacity s.new_used other s.new_size key t)) where
    pub ended_untold : (x : Error) → Err x ≡ found_presence y → Untold s current other entries key x
    ended_untold x e = record { told = (foreseen_ended s current other entries key s.free_head z y (Err x) g e).told }

    pub ended_told : (held : Bool) → Ok held ≡ found_presence y
        → Foretold s current other entries key (record { held = held; step = Step.Still s.rehash_index })
    ended_told held e =
        let k = foreseen_ended s current other entries key s.free_head z y (Ok held) g e in
        record { going = record { due = d; goes = k.goes }; told = k.told }

  -- by what comes from the next bucket on
  module _ (some_keys : s.old_used ≡ 0 → ⊥) (r : Ahead) (f : r ≡ ahead_of s current) where
    pub end_untold : r ≡ Ahead.End → Untold s current other entries key Error.Damaged
    end_untold e =
        record {
          told =
              (foreseen_ahead s current other entries key s.free_head some_keys (sight (Err Error.Damaged) Course.Refused)
              (foreseen_end s current other entries key s.free_head r (ahead_of s current) f e)).told;
        }

    module _ (b : ℕ) (e : r ≡ Ahead.Empty b) (y : Found)
        (g : y ≡ found_of (both
        (searched_in entries s.capacity s.old_used current s.old_size key Table.Old)
        (searched_in entries s.capacity s.new_used other s.new_size key Table.New))) where
      still : (v : Result Bool Error) → v ≡ found_presence y → Sees v (Course.Still b)
      still v h =
          let l : 0 < s.old_used = omega arith in
          foreseen_ahead s current other entries key s.free_head some_keys (sight v (Course.Still b))
          (foreseen_empty s current other entries key s.free_head r (ahead_of s current) f b e l y v g h)

      pub empty_untold : (x : Error) → Err x ≡ found_presence y → Untold s current other entries key x
      empty_untold x h = record { told = (still (Err x) h).told }

      pub empty_told : (held : Bool) → Ok held ≡ found_presence y
          → Foretold s current other entries key (record { held = held; step = Step.Still b })
      empty_told held h =
          let k = still (Ok held) h in
          record { going = record { due = d; goes = k.goes }; told = k.told }

    module _ (b : ℕ) (e : r ≡ Ahead.Filled b) where
      moving : moved_chain s current other entries b (old_chain s current entries b) ≡ step
      moving = step_moved s current other entries _ some_keys (next_filled s current other entries r (ahead_of s current) f b e _ refl)

      pub chain_untold : (x : Error)
          → ForeseenChain s current other entries key s.free_head
          (moved_chain s current other entries b (old_chain s current entries b)) b (Err x)
          → Untold s current other entries key x
      chain_untold x h =
          record {
            told =
                subst (λ (a : After (Result (ℕ × State) Error)). Err x ≡ presence_then key s.second_is_current a) moving
                (chain_damaged s current other entries key s.free_head b _ x h);
          }

      pub chain_told : (c : ChainSight)
          → ForeseenChain s current other entries key s.free_head
          (moved_chain s current other entries b (old_chain s current entries b)) b (Ok c)
          → Foretold s current other entries key (record { held = c.held; step = Step.Moving c })
      chain_told c h =
          let k = same_step s current other entries key s.free_head _ _ moving _
          (chain_sound s current other entries key s.free_head b _ c h) in
          record { going = record { due = d; goes = k.goes }; told = k.told }
