-- The stores of specs/Strays are excluded. No history of ours meets a key off its bucket, so what a store does with one is
-- for demand 1, which is about any world: those here are of model's case table. Demand 3 excludes the stores that find
-- damage where each key is in its own bucket.
-- Assumes nothing.
use Prim.Native.Nat.{ℕ, zero, suc}
use mathlib.Core.Path.{refl, sym, subst}
use mathlib.Core.Logic.{inl, inr}
use mathlib.Core.List.{[], ◌∷◌}
use lib.Dec.{lit<, lit≤}
use borrow.Author.Tests.{eqb-false}
use native.Mathlib.Omega.{arith}
use Rattle.model.specs.declared.Table.{Table}
use Rattle.model.specs.Memory.{Place, in_bucket}
use Rattle.model.specs.Cases.{bucket_zero, resting, moving}
use Rattle.model.specs.Sequences.{Call}
use Rattle.model.proofs.Tests.{true_not_false}
use Rattle.refinement.specs.Demand1.{Demand1, Chain, ChainAt, SoundChain, Damaged, KeyHeld, key_places, FirstFilled, StepDamaged, GroupDamaged, FirstFrom, BucketDamaged}
use Rattle.refinement.specs.Demand3.{Demand3}
use Rattle.wrong_stores.specs.Strays.{read_by, untested, first_tested, lookup_by, find_by, finds_among_strays, finds_behind_first, read_all, walks_strays, iterated_by, iterates_strays, moved_untested, moves_strays, finds_elsewhere, or_damaged, tests_bucket_zero, tests_other_size, tests_free}
use Rattle.wrong_stores.proofs.Start.{computing, find, add, room, at, neither, must_be_damaged, must_step_damaged}

-- Demand 1, `numbers`: keys 2 and 5 on the chain of bucket 0, at size 2, in either order. It is not sound, ..

second_off : (count : ℕ) → Chain (in_bucket 2 0) (bucket_zero 2 5) 3 1 count → ⊥
unfolding computing bucket_zero
second_off zero c = eqb-false 1 0 refl c.end
second_off (suc zero) c = eqb-false 2 0 refl c.end
second_off (suc (suc count)) c = true_not_false (sym (c.key 1 (omega arith)))

first_off : (count : ℕ) → Chain (in_bucket 2 0) (bucket_zero 5 2) 3 1 count → ⊥
unfolding computing bucket_zero
first_off zero c = eqb-false 1 0 refl c.end
first_off (suc count) c = true_not_false (sym (c.key 0 (omega arith)))

-- .. and so a find of key 2 is damaged, ..

find_damaged : Damaged (resting 2 5) (key_places (resting 2 5) 2)
unfolding computing resting
find_damaged = (Place.bucket Table.Old 0, inl refl, λ c. second_off c.0 c.2)

pub finds_among_strays_excluded : Demand1 finds_among_strays → ⊥
unfolding computing finds_among_strays find_by lookup_by untested read_by resting bucket_zero
finds_among_strays_excluded d =
    must_be_damaged 0 refl refl (Place.bucket Table.Old 0, inl refl, λ c. first_off c.0 c.2)
    (d.numbers (resting 5 2) (find 2))

pub finds_behind_first_excluded : Demand1 finds_behind_first → ⊥
unfolding computing finds_behind_first find_by lookup_by first_tested untested read_by resting bucket_zero
finds_behind_first_excluded d = must_be_damaged 0 refl refl find_damaged (d.numbers (resting 2 5) (find 2))

-- .. a walk call from cursor 0, ..
walk_damaged : GroupDamaged (resting 2 5) 0
unfolding computing resting
walk_damaged = (lit< tt, inl find_damaged)

pub walks_strays_excluded : Demand1 walks_strays → ⊥
unfolding computing walks_strays read_all untested read_by resting bucket_zero
walks_strays_excluded d = must_be_damaged 0 refl refl walk_damaged (d.numbers (resting 2 5) (Call.scan 0 room))

-- .. a call that iterates from place 0, ..
bucket_damaged : BucketDamaged (resting 2 5) 0
unfolding computing resting
bucket_damaged =
    let first : FirstFrom (resting 2 5) 0 0 =
    record {
      from_place = lit≤ tt;
      before_end = lit< tt;
      filled = eqb-false 1 0 refl;
      empty_before = λ m from before. absurd (omega arith);
    } in
    (0, first, λ c. second_off c.0 c.2)

pub iterates_strays_excluded : Demand1 iterates_strays → ⊥
unfolding computing iterates_strays iterated_by untested read_by resting bucket_zero
iterates_strays_excluded d = must_be_damaged 0 refl refl bucket_damaged (d.numbers (resting 2 5) (Call.iterate 0 room))

-- .. and a step from that table.
step_damaged : StepDamaged (moving 2 5)
unfolding computing moving
step_damaged =
    let first : FirstFilled (moving 2 5) 0 =
    record {
      from_next = lit≤ tt;
      in_reach = lit< tt;
      in_table = lit< tt;
      filled = eqb-false 1 0 refl;
      empty_before = λ b from before. absurd (omega arith);
    } in
    (lit< tt, inr (0, first, λ c. second_off c.0 c.2))

pub moves_strays_excluded : Demand1 moves_strays → ⊥
unfolding computing moves_strays moved_untested untested read_by moving bucket_zero
moves_strays_excluded d =
    must_step_damaged 0 refl true_not_false (λ up. omega arith) refl step_damaged (d.numbers (moving 2 5) Call.rehash_step)

-- Key 5 is on that chain, but not held: its own bucket is empty.
not_held : KeyHeld (resting 2 5) 5 → ⊥
unfolding computing resting bucket_zero
not_held (p, inr none, h) = none
not_held (p, inl e, (count, k, c, l, same)) =
    let own = subst (λ (q : Place). ChainAt (resting 2 5) q count) e c in
    omega (arith, (own.entry 0 (omega arith)).0)

pub finds_elsewhere_excluded : Demand1 finds_elsewhere → ⊥
unfolding computing finds_elsewhere find_by untested read_by resting bucket_zero
finds_elsewhere_excluded d =
    neither (λ h. eqb-false 0 1 refl h.1)
    (λ h.
    neither (λ i. eqb-false 0 2 refl i.1)
    (λ i. neither (λ j. eqb-false 0 3 refl j.1) (λ j. j.0 not_held) i.1)
    h.1)
    (d.numbers (resting 2 5) (find 5))

-- .. and empty chains are sound, so the find is not damaged.
beside_sound : Damaged (resting 2 5) (key_places (resting 2 5) 5) → ⊥
unfolding computing resting
beside_sound (p, inr none, f) = none
beside_sound (p, inl e, f) =
    f
    (subst (SoundChain (resting 2 5)) (sym e)
    (0, lit≤ tt, record { entry = λ k l. absurd (omega arith); key = λ k l. absurd (omega arith); end = refl }))

pub tests_bucket_zero_excluded : Demand1 tests_bucket_zero → ⊥
unfolding computing tests_bucket_zero or_damaged resting bucket_zero
tests_bucket_zero_excluded d =
    neither (λ h. eqb-false 2 1 refl h.1)
    (λ h.
    neither (λ i. beside_sound i.0)
    (λ i. neither (λ j. eqb-false 2 3 refl j.1) (λ j. eqb-false 2 0 refl j.1) i.1)
    h.1)
    (d.numbers (resting 2 5) (find 5))

-- Demand 3, `answers`, `number`. During a rehash from size 2 to 4, key 2 is in bucket 0 of the old table, and found; ..
pub tests_other_size_excluded : Demand3 tests_other_size → ⊥
unfolding computing tests_other_size or_damaged read_by
tests_other_size_excluded d =
    eqb-false 2 0 refl (at d 2 refl (add 2 10 ∷ Call.resize 4 ∷ find 2 ∷ [])).answers.1.1.0.number

-- .. and in a new store any key is added, whatever key a free entry has.
pub tests_free_excluded : Demand3 tests_free → ⊥
unfolding computing tests_free
tests_free_excluded d = eqb-false 2 0 refl (at d 2 refl (add 1 10 ∷ [])).answers.0.number
