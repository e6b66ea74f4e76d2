-- The stores of specs/Passes are excluded, by demand 3 or by demand 1.
-- Assumes nothing.
use Prim.Native.Nat.{ℕ, zero, suc, ◌<◌}
use mathlib.Core.Path.{◌≡◌, refl, ap}
use mathlib.Core.List.{[], ◌∷◌}
use lib.ListN.{get_or}
use lib.Dec.{lit<, lit≤}
use borrow.Author.Tests.{eqb-false}
use native.Mathlib.Omega.{arith}
use Rattle.model.specs.Memory.{in_bucket}
use Rattle.model.specs.Sequences.{World, Call, Outcome}
use Rattle.refinement.specs.Demand1.{Demand1, BucketDamaged, KeysFrom}
use Rattle.refinement.specs.Demand3.{Demand3}
use Rattle.wrong_stores.specs.Walks.{overwriting}
use Rattle.wrong_stores.specs.Refusals.{as_damaged, as_short, miscounting, scribbling}
use Rattle.wrong_stores.specs.Passes.{handing_at, skips_new, stops_at_empty, again, hands_again, hands_part, keeps_forged, iterates_backwards, iterates_beyond, iterates_refused, iterates_damaged, iterates_short, iterates_miscounting}
use Rattle.wrong_stores.proofs.Start.{computing, reached, room, add, at, apart, differ, neither, no_look, single}

-- Demand 3, `answers`, `values`: the place behind the first filled bucket from the place given on, and its keys.

-- keys 0 and 1, of which a step has moved key 0 to bucket 0 of the new table, and 2 is that bucket's place
pub skips_new_excluded : Demand3 skips_new → ⊥
unfolding computing handing_at skips_new
skips_new_excluded d =
    differ 0 (6 ∷ 0 ∷ []) (3 ∷ 1 ∷ []) refl
    ((at d 2 refl (add 0 10 ∷ add 1 11 ∷ Call.resize 4 ∷ Call.rehash_step ∷ Call.iterate 2 room ∷ [])).answers.1.1.1.1.0.values
    (no_look refl))

pub stops_at_empty_excluded : Demand3 stops_at_empty → ⊥
unfolding computing handing_at stops_at_empty
stops_at_empty_excluded d =
    differ 0 (1 ∷ 0 ∷ []) (2 ∷ 1 ∷ []) refl
    ((at d 2 refl (add 1 10 ∷ Call.iterate 0 room ∷ [])).answers.1.0.values (no_look refl))

pub hands_again_excluded : Demand3 hands_again → ⊥
unfolding computing again hands_again
hands_again_excluded d =
    differ 0 (0 ∷ 1 ∷ []) (1 ∷ 1 ∷ []) refl
    ((at d 1 refl (add 1 10 ∷ Call.iterate 0 room ∷ [])).answers.1.0.values (no_look refl))

-- keys 0 and 1, both in the only bucket
pub hands_part_excluded : Demand3 hands_part → ⊥
unfolding computing hands_part
hands_part_excluded d =
    differ 1 (1 ∷ 1 ∷ []) (1 ∷ 2 ∷ []) refl
    ((at d 1 refl (add 0 10 ∷ add 1 11 ∷ Call.iterate 0 room ∷ [])).answers.1.1.0.values (no_look refl))

-- from a forged place there is none, and the end is answered
pub keeps_forged_excluded : Demand3 keeps_forged → ⊥
unfolding computing keeps_forged
keeps_forged_excluded d =
    differ 0 (7 ∷ 0 ∷ []) (1 ∷ 0 ∷ []) refl
    ((at d 1 refl (add 1 10 ∷ Call.iterate 7 room ∷ [])).answers.1.0.values (no_look refl))

-- `answered_pass`, `beyond`: what lies behind the pairs stays
pub iterates_beyond_excluded : Demand3 iterates_beyond → ⊥
unfolding computing overwriting iterates_beyond
iterates_beyond_excluded d =
    differ 0 (0 ∷ []) (7 ∷ []) refl
    ((at d 1 refl (add 1 10 ∷ Call.iterate 0 (0 ∷ 0 ∷ 7 ∷ []) ∷ [])).answers.1.0.answered_pass 0 (0 ∷ 0 ∷ 7 ∷ []) refl refl
    ).beyond

-- `refused_pass`: a short call leaves the list
pub iterates_refused_excluded : Demand3 iterates_refused → ⊥
unfolding computing scribbling iterates_refused
iterates_refused_excluded d =
    differ 0 (0 ∷ []) (7 ∷ []) refl
    ((at d 1 refl (add 1 10 ∷ Call.iterate 0 (7 ∷ []) ∷ [])).answers.1.0.refused_pass 0 (7 ∷ []) refl (eqb-false 9 0 refl))

-- `exact_pass`: in chain order
pub iterates_backwards_excluded : Demand3 iterates_backwards → ⊥
unfolding computing iterates_backwards
iterates_backwards_excluded d =
    apart (λ (o : Outcome). get_or o.lent 0 0) _ _ refl ((at d 1 refl (add 1 11 ∷ add 0 10 ∷ [])).exact_pass 0 room refl)

-- Demand 1. One key, in the only bucket: its chain is sound, and one key is to be handed out.

one_key : World
one_key = reached 1 (add 1 10 ∷ [])

one_sound : BucketDamaged one_key 0 → ⊥
unfolding computing one_key
one_sound (zero, first, unsound) =
    unsound (1, lit≤ tt, single (in_bucket 1 0) one_key.entries 3 1 (lit< tt) (lit≤ tt) refl refl)
one_sound (suc n, first, unsound) = omega (arith, first.before_end)

one_counted : {count : ℕ} → KeysFrom one_key 0 count → count < 2
unfolding computing one_key
one_counted {count = zero} (n, first, chain) = lit< tt
one_counted {count = suc zero} (n, first, chain) = lit< tt
one_counted {count = suc (suc count)} (zero, first, chain) = absurd (omega (arith, (chain.entry 1 (omega arith)).0))
one_counted {count = suc (suc count)} (suc n, first, chain) = absurd (omega (arith, first.before_end))

-- `numbers`: it is not damaged, ..
pub iterates_damaged_excluded : Demand1 iterates_damaged → ⊥
unfolding computing as_damaged iterates_damaged one_key
iterates_damaged_excluded d =
    neither (λ h. eqb-false 2 1 refl h.1)
    (λ h.
    neither (λ i. one_sound i.0)
    (λ i. neither (λ j. eqb-false 2 9 refl j.1) (λ j. eqb-false 2 0 refl j.1) i.1)
    h.1)
    (d.numbers one_key (Call.iterate 0 room))

-- .. and not short with two numbers for the key
pub iterates_short_excluded : Demand1 iterates_short → ⊥
unfolding computing as_short iterates_short one_key
iterates_short_excluded d =
    neither (λ h. eqb-false 9 1 refl h.1)
    (λ h.
    neither (λ i. eqb-false 9 2 refl i.1)
    (λ i. neither (λ j. omega (arith, one_counted j.0.1, j.0.2)) (λ j. eqb-false 9 0 refl j.1) i.1)
    h.1)
    (d.numbers one_key (Call.iterate 0 (0 ∷ 0 ∷ [])))

-- `refusals`: a short call leaves the list, ..
pub iterates_refused_excluded_by_refusals : Demand1 iterates_refused → ⊥
unfolding computing scribbling iterates_refused one_key
iterates_refused_excluded_by_refusals d =
    apart (λ (o : Outcome). get_or o.lent 0 0) _ _ refl
    (d.refusals one_key (Call.iterate 0 (7 ∷ [])) (eqb-false 9 0 refl)).2

-- .. and says how many keys there are
pub iterates_miscounting_excluded : Demand1 iterates_miscounting → ⊥
unfolding computing miscounting iterates_miscounting one_key
iterates_miscounting_excluded d =
    let h = d.refusals one_key (Call.iterate 0 []) (eqb-false 9 0 refl) in
    let two : 2 ≡ h.0 = ap (λ (o : Outcome). get_or o.reply.values 1 0) h.2 in
    omega (arith, one_counted (h.1.short refl))
