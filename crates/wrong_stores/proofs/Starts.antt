-- The stores of specs/Starts are excluded by demand 3, `starts`. Most of them by `matches`:
-- Assumes nothing.
use Prim.Native.Nat.{ℕ}
use mathlib.Core.Path.{refl}
use mathlib.Core.Bool.{true, false, cond}
use mathlib.Core.List.{List, [], ◌∷◌}
use mathlib.Core.Option.{Option, none, some}
use borrow.Author.Tests.{eqb-false}
use Rattle.model.specs.Memory.{Place}
use Rattle.model.specs.Walk.{Tables, smaller_of}
use Rattle.refinement.specs.Demand3.{Lengths, Demand3}
use Rattle.wrong_stores.specs.Starts.{one_entry, one_bucket, starts_in_second, starts_short, starts_looping, starts_saying}
use Rattle.wrong_stores.proofs.Start.{computing, zeros, apart, differ}

-- `contents`, `capacity`: that of the start
pub one_entry_excluded : Demand3 one_entry → ⊥
unfolding computing one_entry
one_entry_excluded d = eqb-false 3 1 refl ((d.starts zeros 3 1).matches refl).contents.capacity

-- `tables`: one, of the start's size
pub one_bucket_excluded : Demand3 one_bucket → ⊥
unfolding computing one_bucket
one_bucket_excluded d = apart smaller_of (Tables.one 1) (Tables.one 2) refl ((d.starts zeros 3 2).matches refl).tables

-- `turned`: the first buffer is the current one
pub starts_in_second_excluded : Demand3 starts_in_second → ⊥
unfolding computing starts_in_second
starts_in_second_excluded d = apart (λ turned. cond turned 1 0) true false refl ((d.starts zeros 3 1).matches refl).turned

-- `lengths`: those that were lent to the start
pub starts_short_excluded : Demand3 starts_short → ⊥
unfolding computing starts_short
starts_short_excluded d = apart (λ (l : Lengths). l.second) _ _ refl ((d.starts zeros 3 1).matches refl).lengths

-- `undamaged`: the free list comes to an end
pub starts_looping_excluded : Demand3 starts_looping → ⊥
unfolding computing starts_looping
starts_looping_excluded d =
    apart {A = Option (List ℕ)} (λ o. elim o [ none ↦ 0 | some ns ↦ 1 ]) _ _ refl
    (((d.starts zeros 3 1).undamaged refl).chains_sound Place.free tt)

-- `values`: there are none
pub starts_saying_excluded : Demand3 starts_saying → ⊥
unfolding computing starts_saying
starts_saying_excluded d = differ 0 (3 ∷ []) [] refl (d.starts zeros 3 1).values
