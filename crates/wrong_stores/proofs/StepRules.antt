-- The stores of specs/StepRules are excluded: by demand 3, by demand 1 where no history leads, and by how soon a rehash ends.
-- And a rehash of ours that takes as many steps as are allowed.
-- Assumes nothing.
use Prim.Native.Nat.{ℕ, ◌+◌, ◌≤◌, ◌<◌}
use mathlib.Core.Path.{◌≡◌, refl, subst, ◌∙◌}
use mathlib.Core.Logic.{inl, inr}
use mathlib.Core.List.{List, [], ◌∷◌}
use mathlib.Core.Bool.{false}
use lib.Dec.{lit≤, lit<}
use lib.ListN.{get_or, replicate, get_or-replicate}
use lib.Seq.{get_or-set_other}
use borrow.Author.Tests.{eqb-false}
use native.Mathlib.Omega.{arith}
use Rattle.model.specs.declared.Table.{Table}
use Rattle.model.specs.Memory.{Place}
use Rattle.model.specs.Cases.{sparse}
use Rattle.model.specs.Sequences.{World, Call, Outcome, perform, run}
use Rattle.model.proofs.Tests.{true_not_false}
use Rattle.refinement.specs.Demand1.{Demand1, head_of, StepDamaged}
use Rattle.refinement.specs.Demand3.{Ideal, lengths_of, Demand3}
use Rattle.refinement.specs.RehashesEnd.{UnderWay, answered_steps, filled_buckets, most_steps, RehashesEnd}
use Rattle.wrong_stores.specs.StepRules as wrong
use Rattle.wrong_stores.specs.StepRules.{passes_eleven, passes_nine, passes_one, passes_filled, passes_to_end, ends_late, never_done, ends_at_once, turning}
use Rattle.wrong_stores.specs.Rehashes as rehashes
use Rattle.wrong_stores.specs.Rehashes.{steps_ahead}
use Rattle.wrong_stores.proofs.Start.{computing, zeros, reached, reached_ideal, find, add, at, rehash_at, differ, neither, must_step_damaged, no_look}

-- Demand 3, `answers`, `values`. One key in a table of 16, and a rehash to 8: the tenth bucket is in reach, the eleventh not.

abbrev one_key : ℕ → List Call
one_key key = add key 10 ∷ Call.resize 8 ∷ Call.rehash_step ∷ []

unfoldable looks : Unit {0}
unfolding computing wrong.looking wrong.passing passes_eleven passes_nine passes_one
looks = tt

pub passes_eleven_excluded : Demand3 passes_eleven → ⊥
unfolding looks
passes_eleven_excluded d =
    differ 0 (1 ∷ 0 ∷ []) (0 ∷ 1 ∷ []) refl ((at d 16 refl (one_key 10)).answers.1.1.0.values (no_look refl))

pub passes_nine_excluded : Demand3 passes_nine → ⊥
unfolding looks
passes_nine_excluded d =
    differ 0 (0 ∷ 1 ∷ []) (1 ∷ 0 ∷ []) refl ((at d 16 refl (one_key 9)).answers.1.1.0.values (no_look refl))

pub passes_filled_excluded : Demand3 passes_filled → ⊥
unfolding looks passes_filled
passes_filled_excluded d =
    differ 0 (0 ∷ 1 ∷ []) (1 ∷ 0 ∷ []) refl ((at d 16 refl (one_key 3)).answers.1.1.0.values (no_look refl))

-- a step that moves the only key ends the rehash, ..

unfoldable ending : Unit {0}
unfolding computing wrong.goes_on ends_late never_done ends_at_once
ending = tt

pub ends_late_excluded : Demand3 ends_late → ⊥
unfolding ending
ends_late_excluded d =
    differ 1 (1 ∷ 1 ∷ []) (1 ∷ 0 ∷ []) refl ((at d 16 refl (one_key 3)).answers.1.1.0.values (no_look refl))

-- .. a step in an empty store does, ..
pub never_done_excluded : Demand3 never_done → ⊥
unfolding ending
never_done_excluded d =
    differ 1 (0 ∷ 1 ∷ []) (0 ∷ 0 ∷ []) refl
    ((at d 2 refl (Call.resize 4 ∷ Call.rehash_step ∷ [])).answers.1.0.values (no_look refl))

-- .. and one that leaves a key in the old table does not
pub ends_at_once_excluded : Demand3 ends_at_once → ⊥
unfolding ending
ends_at_once_excluded d =
    differ 1 (1 ∷ 0 ∷ []) (1 ∷ 1 ∷ []) refl
    ((at d 2 refl (add 0 10 ∷ add 1 11 ∷ Call.resize 4 ∷ Call.rehash_step ∷ [])).answers.1.1.1.0.values (no_look refl))

-- Demand 1, `numbers`. The old table is said to hold a key, but from bucket 6 on, of 16, there is none: the end comes with the
-- tenth bucket, and the step is damaged; ..

all_empty_lem : (next : ℕ) → 0 < next → (b : ℕ) → next ≤ b → b < 16 → head_of (sparse 0 next) (Place.bucket Table.Old b) ≡ 0
unfolding computing sparse
all_empty_lem next pos b from below =
    get_or-set_other (replicate 16 0) 0 b 1 0 (omega arith) ∙ get_or-replicate 16 b 0 0 below

end_first : StepDamaged (sparse 0 6)
unfolding computing sparse
end_first = (lit< tt, inl (lit≤ tt, all_empty_lem 6 (lit< tt)))

pub passes_to_end_excluded : Demand1 passes_to_end → ⊥
unfolding computing passes_to_end sparse
passes_to_end_excluded d =
    must_step_damaged 0 refl true_not_false (λ up. omega arith) refl end_first (d.numbers (sparse 0 6) Call.rehash_step)

-- .. and from bucket 5 on a step passes ten, and is not damaged
not_damaged : StepDamaged (sparse 0 5) → ⊥
unfolding computing sparse
not_damaged (pos, inl (reach, end)) = omega arith
not_damaged (pos, inr (b, first, unsound)) =
    first.filled (all_empty_lem 5 (lit< tt) b first.from_next (omega (arith, first.in_reach)))

pub passes_eleven_excluded_by_numbers : Demand1 passes_eleven → ⊥
unfolding looks sparse
passes_eleven_excluded_by_numbers d =
    neither (λ h. eqb-false 2 1 refl h.1)
    (λ h.
    neither (λ i. true_not_false i.0)
    (λ i.
    neither (λ j. eqb-false 2 18 refl j.1)
    (λ j. neither (λ k. not_damaged k.0) (λ k. eqb-false 2 0 refl k.1) j.1)
    i.1)
    h.1)
    (d.numbers (sparse 0 5) Call.rehash_step)

-- How soon a rehash ends, `within_size`: with one bucket, filled, it is not under way any more after one answered step; ..

abbrev pub one_of_one : List Call
one_of_one = add 0 10 ∷ Call.resize 2 ∷ []

pub one_step_ends : {does : World → Call → Outcome} → RehashesEnd does → (c : Call)
    → UnderWay does (lengths_of zeros) false (reached 1 one_of_one) (reached_ideal 1 one_of_one) (c ∷ [])
    → answered_steps does (lengths_of zeros) (reached 1 one_of_one) (reached_ideal 1 one_of_one) (c ∷ []) ≡ 1 → ⊥
unfolding computing
one_step_ends d c under_way one = let h = (rehash_at d 1 refl one_of_one (c ∷ [])).within_size under_way in omega (arith, one)

pub ends_late_excluded_by_size : RehashesEnd ends_late → ⊥
unfolding ending
ends_late_excluded_by_size d = one_step_ends d Call.rehash_step (refl, refl) refl

-- .. and if the state still says that one is under way, its flag does not make that another one; ..
pub turning_excluded : RehashesEnd turning → ⊥
unfolding computing turning
turning_excluded d = one_step_ends d Call.rehash_step (refl, refl) refl

-- .. with two, empty, at most two do, whatever comes between them
pub never_done_excluded_by_size : RehashesEnd never_done → ⊥
unfolding ending
never_done_excluded_by_size d =
    let h = (rehash_at d 2 refl (Call.resize 4 ∷ []) (Call.rehash_step ∷ find 0 ∷ Call.resize 4 ∷ Call.rehash_step ∷ [])).within_size
    (refl, (refl, (refl, (refl, refl)))) in
    omega arith

-- `within_filled`: one filled bucket of 16, the last: two steps; ..
pub passes_one_excluded : RehashesEnd passes_one → ⊥
unfolding looks
passes_one_excluded d =
    let h = (rehash_at d 16 refl (add 15 10 ∷ Call.resize 8 ∷ []) (Call.rehash_step ∷ Call.rehash_step ∷ [])).within_filled
    (refl, (refl, refl)) in
    omega arith

-- .. and none of two: one step, which `within_size` does not ask for
pub never_done_excluded_by_filled : RehashesEnd never_done → ⊥
unfolding ending
never_done_excluded_by_filled d =
    let h = (rehash_at d 2 refl (Call.resize 4 ∷ []) (Call.rehash_step ∷ [])).within_filled (refl, refl) in
    omega arith

-- `each_step`: the next bucket is not the one behind an empty one, ..
abbrev heads : List ℕ
heads = 1 ∷ 0 ∷ 2 ∷ replicate 13 0

pub steps_ahead_excluded_by_each_step : RehashesEnd steps_ahead → ⊥
unfolding computing steps_ahead rehashes.going_on rehashes.behind_empty
steps_ahead_excluded_by_each_step d =
    neither (λ far. omega (arith, far.1))
    (λ (b, first, filled, is).
    let one : 1 ≡ b = omega arith in filled (subst (λ (n : ℕ). ◌≡◌ {A = ℕ} (get_or heads n 0) 0) one refl))
    ((rehash_at d 4 refl (add 0 10 ∷ add 2 12 ∷ Call.resize 8 ∷ []) []).each_step Call.rehash_step (refl, refl) refl)

-- .. and the buckets passed are empty
pub passes_filled_excluded_by_each_step : RehashesEnd passes_filled → ⊥
unfolding looks passes_filled
passes_filled_excluded_by_each_step d =
    neither (λ far. eqb-false 1 0 refl (far.0 3 (lit≤ tt) (lit< tt)))
    (λ (b, first, filled, is). eqb-false 1 0 refl (first.empty_before 3 (lit≤ tt) (omega arith)))
    ((rehash_at d 16 refl (add 3 10 ∷ Call.resize 8 ∷ []) []).each_step Call.rehash_step (refl, refl) refl)

-- Both bounds are met by ours: with two filled buckets of two, and with one of 16, the last. One step leaves the rehash under
-- way, and the second ends it.

abbrev pub two_of_two : List Call
two_of_two = add 0 10 ∷ add 1 11 ∷ Call.resize 4 ∷ []

abbrev last_of_sixteen : List Call
last_of_sixteen = add 15 10 ∷ Call.resize 8 ∷ []

unfoldable pub EndsWith : World → Ideal → ℕ → Type 0
EndsWith w i most =
    UnderWay perform (lengths_of zeros) i.turned w i (Call.rehash_step ∷ [])
    × (answered_steps perform (lengths_of zeros) w i (Call.rehash_step ∷ []) + 1 ≡ most)
    × ((run perform w (Call.rehash_step ∷ Call.rehash_step ∷ [])).state.rehashing ≡ false)

pub steps_met : EndsWith (reached 2 two_of_two) (reached_ideal 2 two_of_two) (reached 2 two_of_two).state.old_size
    × EndsWith (reached 16 last_of_sixteen) (reached_ideal 16 last_of_sixteen)
    (most_steps (reached 16 last_of_sixteen).state.old_size (filled_buckets (reached 16 last_of_sixteen)))
unfolding computing EndsWith
steps_met = (((refl, refl), refl, refl), ((refl, refl), refl, refl))
