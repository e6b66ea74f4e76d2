-- The stores of specs/HiddenSteps are excluded: by demand 3, by demand 1, and by how soon a rehash ends. And ours ends one by an
-- add and a delete.
-- Assumes nothing.
use Prim.Native.Nat.{ℕ, zero, suc}
use mathlib.Core.Path.{◌≡◌, refl}
use mathlib.Core.Logic.{inl}
use mathlib.Core.List.{List, [], ◌∷◌, ◌++◌}
use mathlib.Core.Bool.{false}
use lib.ListN.{get_or}
use borrow.Author.Tests.{eqb-false}
use native.Mathlib.Omega.{arith}
use Rattle.model.specs.declared.Table.{Table}
use Rattle.model.specs.Memory.{Place}
use Rattle.model.specs.Cases.{rehashing, counting}
use Rattle.model.specs.Sequences.{World, Call, Outcome, perform}
use Rattle.refinement.specs.Demand1.{Demand1, SoundChain, Damaged, key_places, step_world}
use Rattle.refinement.specs.Demand3.{lengths_of, Demand3}
use Rattle.refinement.specs.RehashesEnd.{UnderWay, answered_steps, RehashesEnd}
use Rattle.refinement.proofs.HiddenSteps.{alone}
use Rattle.wrong_stores.specs.Rehashes as rehashes
use Rattle.wrong_stores.specs.HiddenSteps as wrong
use Rattle.wrong_stores.specs.HiddenSteps.{adds_unmoved, deletes_unmoved, adds_then_steps, deletes_then_steps, adds_after_two, adds_passing_one, add_step_stays, delete_step_stays, finds_stepping, updates_stepping, walks_stepping, iterates_stepping, looks_before}
use Rattle.wrong_stores.proofs.StepRules.{one_step_ends, two_of_two}
use Rattle.wrong_stores.proofs.Start.{computing, zeros, reached, reached_ideal, room, find, update, add, delete, at, rehash_at, apart, neither}

unfoldable stepping : Unit {0}
unfolding computing alone rehashes.going_on wrong.then_steps adds_then_steps deletes_then_steps wrong.stepped wrong.also_steps adds_unmoved deletes_unmoved adds_after_two adds_passing_one add_step_stays delete_step_stays finds_stepping updates_stepping walks_stepping iterates_stepping looks_before
stepping = tt

-- Demand 3, `answers`, `number`. Key 0 is the only one, and a rehash from size 2 to 4 is begun: a call, and then a step, ..

abbrev then_step : Call → List Call
then_step c = add 0 10 ∷ Call.resize 4 ∷ c ∷ Call.rehash_step ∷ []

-- .. which is refused, since an add or a delete has moved key 0, and that ended the rehash; ..
pub adds_unmoved_excluded : Demand3 adds_unmoved → ⊥
unfolding stepping
adds_unmoved_excluded d = eqb-false 0 8 refl (at d 2 refl (then_step (add 1 11))).answers.1.1.1.0.number

pub deletes_unmoved_excluded : Demand3 deletes_unmoved → ⊥
unfolding stepping
deletes_unmoved_excluded d = eqb-false 0 8 refl (at d 2 refl (then_step (delete 0))).answers.1.1.1.0.number

-- .. and is answered, since no other call has
pub finds_stepping_excluded : Demand3 finds_stepping → ⊥
unfolding stepping
finds_stepping_excluded d = eqb-false 8 0 refl (at d 2 refl (then_step (find 0))).answers.1.1.1.0.number

pub updates_stepping_excluded : Demand3 updates_stepping → ⊥
unfolding stepping
updates_stepping_excluded d = eqb-false 8 0 refl (at d 2 refl (then_step (update 0 20))).answers.1.1.1.0.number

pub walks_stepping_excluded : Demand3 walks_stepping → ⊥
unfolding stepping
walks_stepping_excluded d = eqb-false 8 0 refl (at d 2 refl (then_step (Call.scan 0 room))).answers.1.1.1.0.number

pub iterates_stepping_excluded : Demand3 iterates_stepping → ⊥
unfolding stepping
iterates_stepping_excluded d =
    eqb-false 8 0 refl (at d 2 refl (then_step (Call.iterate 0 room))).answers.1.1.1.0.number

-- key 0, and those keys, in a rehash from size 2 to 4
begun : List Call → World
begun calls = reached 2 (add 0 10 ∷ calls)

-- With keys 0 and 1 an add leaves one of them in the old table, and a step is answered.
pub adds_after_two_excluded : Demand3 adds_after_two → ⊥
unfolding stepping
adds_after_two_excluded d = eqb-false 8 0 refl (at d 2 refl (add 1 11 ∷ then_step (add 2 12))).answers.1.1.1.1.0.number

-- A delete of key 0 leaves key 1 in the old table, and a step is answered. (Had it gone before its step, bucket 0 would be
-- empty, and the step would have moved key 1.)
pub deletes_then_steps_excluded : Demand3 deletes_then_steps → ⊥
unfolding stepping
deletes_then_steps_excluded d = eqb-false 8 0 refl (at d 2 refl (add 1 11 ∷ then_step (delete 0))).answers.1.1.1.1.0.number

-- An add before its step leaves another order in a chain, which only the definitions of the calls exclude: key 4 comes behind
-- key 0.
pub adds_then_steps_excluded : ((w : World) (c : Call) → adds_then_steps w c ≡ perform w c) → ⊥
unfolding stepping begun
adds_then_steps_excluded same =
    apart (λ (o : Outcome). get_or o.second 0 0) _ _ refl (same (begun (Call.resize 4 ∷ [])) (add 4 14))

-- After an add that is refused, key 0 is still found; ..
pub add_step_stays_excluded : Demand3 (add_step_stays 4) → ⊥
unfolding stepping
add_step_stays_excluded d =
    eqb-false 2 0 refl (at d 2 refl (add 0 10 ∷ Call.resize 4 ∷ add 0 11 ∷ find 0 ∷ [])).answers.1.1.1.0.number

-- .. and so after a delete
pub delete_step_stays_excluded : Demand3 (delete_step_stays 3) → ⊥
unfolding stepping
delete_step_stays_excluded d =
    eqb-false 2 0 refl (at d 2 refl (add 0 10 ∷ Call.resize 4 ∷ delete 1 ∷ find 0 ∷ [])).answers.1.1.1.0.number

-- Demand 1, `refusals`: the first bucket is as it was, whatever the number, ..

abbrev first_bucket : Outcome → ℕ
first_bucket o = get_or o.first 0 0

pub add_step_stays_excluded_by_refusals : (Demand1 (add_step_stays 4) → ⊥) × (Demand1 (add_step_stays 5) → ⊥) × (Demand1 (add_step_stays 2) → ⊥)
unfolding stepping begun rehashing counting
add_step_stays_excluded_by_refusals = (
  λ d. apart first_bucket _ _ refl (d.refusals (begun (Call.resize 4 ∷ [])) (add 0 11) (eqb-false 4 0 refl)),
  λ d.
      apart first_bucket _ _ refl
      (d.refusals (begun (add 2 12 ∷ add 3 13 ∷ Call.resize 4 ∷ [])) (add 1 11) (eqb-false 5 0 refl)),
  λ d. apart first_bucket _ _ refl (d.refusals (counting 2) (add 5 11) (eqb-false 2 0 refl)),
)

pub delete_step_stays_excluded_by_refusals : (Demand1 (delete_step_stays 3) → ⊥) × (Demand1 (delete_step_stays 2) → ⊥)
unfolding stepping begun rehashing counting
delete_step_stays_excluded_by_refusals = (
  λ d. apart first_bucket _ _ refl (d.refusals (begun (Call.resize 4 ∷ [])) (delete 1) (eqb-false 3 0 refl)),
  λ d. apart first_bucket _ _ refl (d.refusals (counting 2) (delete 1) (eqb-false 2 0 refl)),
)

-- .. and `numbers`: after the step one key is left in the old table, as the state counts, but two are on the chain of bucket 1
chain_long : Damaged (step_world (counting 2)) (key_places (step_world (counting 2)) 5)
unfolding computing rehashing counting
chain_long = (Place.bucket Table.Old 1, inl refl, too_long)
  where
    too_long : SoundChain (step_world (counting 2)) (Place.bucket Table.Old 1) → ⊥
    too_long (zero, fits, c) = eqb-false 2 0 refl c.end
    too_long (suc zero, fits, c) = eqb-false 3 0 refl c.end
    too_long (suc (suc count), fits, c) = omega arith

pub looks_before_excluded : Demand1 looks_before → ⊥
unfolding stepping rehashing counting
looks_before_excluded d =
    neither (λ h. eqb-false 0 1 refl h.1)
    (λ h.
    neither (λ i. eqb-false 0 2 refl i.1) (λ i. neither (λ j. eqb-false 0 2 refl j.1) (λ j. j.0 chain_long) i.1)
    h.1)
    (d.numbers (counting 2) (add 5 11))

-- How soon a rehash ends, `within_filled`: one filled bucket of 16, the last, and two adds: the steps inside them count.
pub adds_passing_one_excluded : RehashesEnd adds_passing_one → ⊥
unfolding stepping
adds_passing_one_excluded d =
    let h = (rehash_at d 16 refl (add 15 10 ∷ Call.resize 8 ∷ []) (add 1 11 ∷ add 2 12 ∷ [])).within_filled
    (refl, (refl, refl)) in
    omega arith

-- `within_size`: with one bucket, filled, the step of an add or a delete ends it, and these count, whether they take it or not.

pub adds_unmoved_excluded_by_size : RehashesEnd adds_unmoved → ⊥
unfolding stepping
adds_unmoved_excluded_by_size d = one_step_ends d (add 1 11) (refl, refl) refl

pub deletes_unmoved_excluded_by_size : RehashesEnd deletes_unmoved → ⊥
unfolding stepping
deletes_unmoved_excluded_by_size d = one_step_ends d (delete 0) (refl, refl) refl

-- Ours: of two filled buckets an add moves one, and a delete the other, which ends the rehash.

pub ends_inside : UnderWay perform (lengths_of zeros) false (reached 2 two_of_two) (reached_ideal 2 two_of_two) (add 2 12 ∷ [])
    × (answered_steps perform (lengths_of zeros) (reached 2 two_of_two) (reached_ideal 2 two_of_two) (add 2 12 ∷ []) ≡ 1)
    × ((reached 2 (two_of_two ++ add 2 12 ∷ delete 2 ∷ [])).state.rehashing ≡ false)
unfolding computing
ends_inside = ((refl, refl), refl, refl)
