-- The stores of specs/KeyCalls are excluded by demand 3.
-- Assumes nothing.
use Prim.Native.Nat.{ℕ}
use mathlib.Core.Path.{refl}
use mathlib.Core.Logic.{inl, inr}
use mathlib.Core.List.{[], ◌∷◌}
use mathlib.Core.Option.{Option, none, some}
use lib.Dec.{lit<, lit≤}
use borrow.Author.Tests.{eqb-false}
use Rattle.model.specs.declared.Table.{Table}
use Rattle.model.specs.Memory.{Place}
use Rattle.model.specs.Sequences.{Call, run}
use Rattle.refinement.specs.Demand3.{Demand3}
use Rattle.wrong_stores.specs.KeyCalls as wrong
use Rattle.wrong_stores.specs.KeyCalls.{finds_nothing, finds_zero, writes_nothing, adds_nothing, adds_to_old, adds_again, adds_to_first, adds_loop, keeps_free, keeps_count, leaks}
use Rattle.wrong_stores.proofs.Start.{computing, started, find, update, add, delete, held, at, apart, neither, differ, no_look, in_no_bucket, on_no_chain}

-- `answers`. A find answers as the map does, its number ..
pub finds_nothing_excluded : Demand3 finds_nothing → ⊥
unfolding computing finds_nothing
finds_nothing_excluded d = eqb-false 3 0 refl (at d 1 refl (add 1 10 ∷ find 1 ∷ [])).answers.1.0.number

-- .. and its value.
pub finds_zero_excluded : Demand3 finds_zero → ⊥
unfolding computing finds_zero
finds_zero_excluded d =
    differ 0 (0 ∷ []) (10 ∷ []) refl ((at d 1 refl (add 1 10 ∷ find 1 ∷ [])).answers.1.0.values (no_look refl))

-- `matches`, `contents`. There are as many pairs in the map as keys that the state says are held; ..
pub keeps_count_excluded : Demand3 keeps_count → ⊥
unfolding computing keeps_count
keeps_count_excluded d = eqb-false 0 1 refl (at d 1 refl (add 1 10 ∷ delete 1 ∷ [])).matches.contents.count

-- .. in the buckets are none but the map's pairs, ..
pub writes_nothing_excluded : Demand3 writes_nothing → ⊥
unfolding computing writes_nothing
writes_nothing_excluded d =
    apart {A = Option ℕ} (λ o. elim o [ none ↦ 0 | some value ↦ value ]) (some 20) (some 10) refl
    ((at d 1 refl (add 1 10 ∷ update 1 20 ∷ [])).matches.contents.in_map 1 10
    (held 1 Table.Old 0 (lit< tt) (inl refl) refl refl))

-- .. and all of them.
pub adds_nothing_excluded : Demand3 adds_nothing → ⊥
unfolding computing adds_nothing
adds_nothing_excluded d =
    let h = (at d 1 refl (add 1 10 ∷ [])).matches.contents.in_store 1 10 refl in
    in_no_bucket (run adds_nothing (started 1) (add 1 10 ∷ [])) h.entry refl refl (λ h. h) h.table h.index h.live h.there

-- `undamaged`. Every chain is sound: it comes to an end, ..
pub adds_loop_excluded : Demand3 adds_loop → ⊥
unfolding computing adds_loop
adds_loop_excluded d =
    apart (λ o. elim o [ none ↦ 0 | some ns ↦ 1 ]) _ _ refl
    ((at d 1 refl (add 1 10 ∷ [])).undamaged.chains_sound (Place.bucket Table.Old 0) (lit< tt))

-- .. and a bucket's has keys of that bucket only; ..
pub adds_to_first_excluded : Demand3 adds_to_first → ⊥
unfolding computing adds_to_first wrong.adding
adds_to_first_excluded d =
    apart (λ o. elim o [ none ↦ 0 | some ns ↦ 1 ]) _ _ refl
    ((at d 2 refl (add 1 10 ∷ [])).undamaged.chains_sound (Place.bucket Table.Old 0) (lit< tt))

-- .. each entry is on a chain, ..
pub leaks_excluded : Demand3 leaks → ⊥
unfolding computing leaks
leaks_excluded d =
    let h = (at d 1 refl (add 1 10 ∷ delete 1 ∷ [])).undamaged.on_a_chain 1 (lit< tt) (lit≤ tt) in
    on_no_chain (run leaks (started 1) (add 1 10 ∷ delete 1 ∷ [])) 1 refl refl (neither (eqb-false 1 2 refl) (neither (eqb-false 1 3 refl) (λ h. h))) (λ h. h) h.0 h.1 h.2

-- .. and on one only; ..
pub keeps_free_excluded : Demand3 keeps_free → ⊥
unfolding computing keeps_free
keeps_free_excluded d =
    apart (λ p. elim p [ Place.free ↦ 0 | Place.bucket t b ↦ 1 ]) _ _ refl
    ((at d 1 refl (add 1 10 ∷ [])).undamaged.on_one_chain 1 Place.free (Place.bucket Table.Old 0) tt (lit< tt) (inl refl) (inl refl))

-- .. no two in buckets have the same key; ..
pub adds_again_excluded : Demand3 adds_again → ⊥
unfolding computing adds_again wrong.adding
adds_again_excluded d =
    eqb-false 1 2 refl
    ((at d 1 refl (add 1 10 ∷ add 1 11 ∷ [])).undamaged.keys_distinct 1 2 Table.Old Table.Old 0 0 (lit< tt) (lit< tt)
    (inr (inl refl)) (inl refl) refl)

-- .. the old table's buckets before the next one to move are empty; ..
pub adds_to_old_excluded : Demand3 adds_to_old → ⊥
unfolding computing adds_to_old wrong.adding
adds_to_old_excluded d =
    eqb-false 3 0 refl
    ((at d 2 refl (add 0 10 ∷ add 1 11 ∷ Call.resize 4 ∷ Call.rehash_step ∷ add 2 12 ∷ [])).undamaged.passed_empty 0 (lit< tt))

-- .. and the state counts the entries in each table's buckets.
pub keeps_count_excluded_by_counts : Demand3 keeps_count → ⊥
unfolding computing keeps_count
keeps_count_excluded_by_counts d =
    eqb-false 1 0 refl ((at d 1 refl (add 1 10 ∷ delete 1 ∷ [])).undamaged.counts Table.Old)
