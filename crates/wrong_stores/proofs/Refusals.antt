-- The stores of specs/Refusals are excluded, by demand 3 or by demand 1. Demand 1 is about any world: those here are made by
-- ours from a start of one bucket, and two of them then damaged.
-- Assumes nothing.
use Prim.Native.Nat.{zero, suc, ◌<◌}
use mathlib.Core.Path.{◌≡◌, refl, ap}
use mathlib.Core.Bool.{true, false}
use mathlib.Core.Logic.{inl, inr}
use mathlib.Core.List.{List, [], ◌∷◌}
use lib.ListN.{get_or, replicate}
use lib.Dec.{lit<, lit≤}
use borrow.Author.Tests.{eqb-false}
use native.Mathlib.Omega.{arith}
use Rattle.model.specs.declared.Table.{Table}
use Rattle.model.specs.Limits.{largest_capacity}
use Rattle.model.specs.Memory.{Place, in_bucket}
use Rattle.model.specs.Calls.{state_of, old_new}
use Rattle.model.specs.Sequences.{World, world, Call, Outcome}
use Rattle.refinement.specs.Demand1.{Demand1, Chain, SoundChain, places, TooMany, GroupDamaged}
use Rattle.refinement.specs.Demand3.{Demand3}
use Rattle.wrong_stores.specs.Refusals.{refuses_all, refuses_large, takes_larger, refuses_resizes, refuses_steps, overlooks_damage, loses_state, writes_first, as_damaged, refuses_walks, as_short, always_short, read_again, sum_after_short, sum_by_capacity, sum_below_keys, room_for_all, miscounting, short_miscounts, counts_refused, scribbling, writes_refused}
use Rattle.wrong_stores.proofs.Start.{computing, zeros, reached, room, find, update, add, at, apart, differ, must_be_damaged, no_look, single}

-- Demand 3, `starts`, `number`: the start's number is fixed by the limits and the lengths.
pub refuses_all_excluded : Demand3 refuses_all → ⊥
unfolding computing refuses_all
refuses_all_excluded d = eqb-false 1 0 refl (d.starts zeros 1 1).number

-- a capacity and a size up to the limits are not refused for themselves
pub refuses_large_excluded : Demand3 refuses_large → ⊥
unfolding computing refuses_large
refuses_large_excluded d = eqb-false 6 1 refl (d.starts zeros 5000 8192).number

-- and above them they are
pub takes_larger_excluded : Demand3 takes_larger → ⊥
unfolding computing takes_larger
takes_larger_excluded d = eqb-false 1 6 refl (d.starts zeros (suc largest_capacity) 1).number

-- Demand 3, `answers`, `number`.

-- two keys, and then that call
two_keys : Call → List Call
two_keys c = add 0 10 ∷ add 1 11 ∷ c ∷ []

-- a legal size that is not the present one, and no longer than the other buffer, is accepted
pub refuses_resizes_excluded : Demand3 refuses_resizes → ⊥
unfolding computing refuses_resizes two_keys
refuses_resizes_excluded d = eqb-false 6 0 refl (at d 2 refl (two_keys (Call.resize 4))).answers.1.1.0.number

-- a step during a rehash has none
pub refuses_steps_excluded : Demand3 refuses_steps → ⊥
unfolding computing refuses_steps
refuses_steps_excluded d =
    eqb-false 2 0 refl (at d 2 refl (add 0 10 ∷ Call.resize 4 ∷ Call.rehash_step ∷ [])).answers.1.1.0.number

-- a walk call's only refusal is 9
pub refuses_walks_excluded : Demand3 refuses_walks → ⊥
unfolding computing as_damaged refuses_walks two_keys
refuses_walks_excluded d = eqb-false 2 0 refl (at d 2 refl (two_keys (Call.scan 0 room))).answers.1.1.0.number

-- two numbers for each key to be handed out are enough
pub always_short_excluded : Demand3 always_short → ⊥
unfolding computing as_short always_short two_keys
always_short_excluded d = eqb-false 9 0 refl (at d 2 refl (two_keys (Call.scan 0 room))).answers.1.1.0.number

pub room_for_all_excluded : Demand3 room_for_all → ⊥
unfolding computing as_short room_for_all two_keys
room_for_all_excluded d =
    eqb-false 9 0 refl (at d 2 refl (two_keys (Call.scan 0 (0 ∷ 0 ∷ [])))).answers.1.1.0.number

-- a group may have as many entries as there are keys held
pub sum_below_keys_excluded : Demand3 sum_below_keys → ⊥
unfolding computing as_damaged sum_below_keys
sum_below_keys_excluded d = eqb-false 2 0 refl (at d 1 refl (add 1 10 ∷ Call.scan 0 room ∷ [])).answers.1.0.number

-- Demand 3, `answers`, `values`: the number of keys comes with 9.
pub short_miscounts_excluded : Demand3 short_miscounts → ⊥
unfolding computing miscounting short_miscounts two_keys
short_miscounts_excluded d =
    differ 1 (0 ∷ 2 ∷ []) (0 ∷ 1 ∷ []) refl ((at d 2 refl (two_keys (Call.scan 0 []))).answers.1.1.0.values (no_look refl))

-- Demand 3, `answers`, `refused_walk`: a short walk call leaves the list.
pub writes_refused_excluded : Demand3 writes_refused → ⊥
unfolding computing scribbling writes_refused
writes_refused_excluded d =
    differ 0 (0 ∷ []) (7 ∷ []) refl
    ((at d 1 refl (add 1 10 ∷ Call.scan 0 (7 ∷ []) ∷ [])).answers.1.0.refused_walk 0 (7 ∷ []) refl (eqb-false 9 0 refl))

-- Demand 1, `numbers`: a chain that loops is damaged.

-- key 1, whose entry is linked to itself
looped : World
looped =
    let w = reached 1 (add 1 10 ∷ []) in
    world w.state w.first w.second (1 ∷ 1 ∷ 10 ∷ replicate 6 0)

loop_unsound : SoundChain looped (Place.bucket Table.Old 0) → ⊥
unfolding computing looped
loop_unsound (zero, fits, c) = eqb-false 1 0 refl c.end
loop_unsound (suc zero, fits, c) = eqb-false 1 0 refl c.end
loop_unsound (suc (suc count), fits, c) = omega arith

pub overlooks_damage_excluded : Demand1 overlooks_damage → ⊥
unfolding computing overlooks_damage looped
overlooks_damage_excluded d =
    must_be_damaged 3 refl refl (Place.bucket Table.Old 0, inl refl, loop_unsound) (d.numbers looped (find 1))

-- .. and so is a group with more entries than the store holds keys: before short, and whatever the capacity.

-- keys 0 and 1 in the new table's two buckets, but the state counts one; the old table, of one bucket, is empty
miscounted : World
miscounted =
    let w = reached 2 (add 0 10 ∷ add 1 11 ∷ []) in
    world (state_of true (old_new 1 2) (old_new 0 1) true 0 w.state.free_head w.state.capacity false 0) w.first w.second
    w.entries

two_counted : TooMany miscounted (places miscounted 0)
unfolding computing miscounted
two_counted =
    let nothing : Chain (in_bucket 1 0) miscounted.entries 3 0 0 =
    record { entry = λ k l. absurd (omega arith); key = λ k l. absurd (omega arith); end = refl } in (
      2,
      (0, 2, nothing, (1, 1, single (in_bucket 2 0) miscounted.entries 3 1 (lit< tt) (lit≤ tt) refl refl, (1, 0, single (in_bucket 2 1) miscounted.entries 3 2 (lit< tt) (lit≤ tt) refl refl, refl, refl), refl), refl),
      lit< tt,
    )

group_damaged : GroupDamaged miscounted 0
unfolding computing miscounted
group_damaged = (lit< tt, inr two_counted)

pub sum_after_short_excluded : Demand1 sum_after_short → ⊥
unfolding computing sum_after_short read_again miscounted
sum_after_short_excluded d = must_be_damaged 9 refl refl group_damaged (d.numbers miscounted (Call.scan 0 []))

pub sum_by_capacity_excluded : Demand1 sum_by_capacity → ⊥
unfolding computing sum_by_capacity read_again miscounted
sum_by_capacity_excluded d = must_be_damaged 0 refl refl group_damaged (d.numbers miscounted (Call.scan 0 room))

-- Demand 1, `refusals`. A refusal leaves the state, ..

-- one key, 1
one_key : World
one_key = reached 1 (add 1 10 ∷ [])

pub loses_state_excluded : Demand1 loses_state → ⊥
unfolding computing loses_state one_key
loses_state_excluded d =
    apart (λ (o : Outcome). o.reply.state.capacity) _ _ refl (d.refusals one_key (find 2) (eqb-false 3 0 refl))

-- .. the buffers, ..
pub writes_first_excluded : Demand1 writes_first → ⊥
unfolding computing writes_first one_key
writes_first_excluded d =
    apart (λ (o : Outcome). get_or o.entries 2 0) _ _ refl (d.refusals one_key (update 2 20) (eqb-false 3 0 refl))

-- .. and the lent list; ..
pub writes_refused_excluded_by_refusals : Demand1 writes_refused → ⊥
unfolding computing scribbling writes_refused one_key
writes_refused_excluded_by_refusals d =
    apart (λ (o : Outcome). get_or o.lent 0 0) _ _ refl
    (d.refusals one_key (Call.scan 0 (7 ∷ [])) (eqb-false 9 0 refl)).2

-- .. and the count is with 9 that of the keys, else 0.
pub short_miscounts_excluded_by_refusals : Demand1 short_miscounts → ⊥
unfolding computing miscounting short_miscounts one_key
short_miscounts_excluded_by_refusals d =
    let h = d.refusals one_key (Call.scan 0 []) (eqb-false 9 0 refl) in
    let keys = h.1.short refl in
    let two : 2 ≡ h.0 = ap (λ (o : Outcome). get_or o.reply.values 1 0) h.2 in
    let second : 0 < 0 = (keys.2.entry 1 (omega (arith, keys.3, keys.4))).0 in
    omega arith

pub counts_refused_excluded : Demand1 counts_refused → ⊥
unfolding computing counts_refused
counts_refused_excluded d =
    let h = d.refusals zeros (Call.scan 0 []) (eqb-false 1 0 refl) in
    let one : 1 ≡ h.0 = ap (λ (o : Outcome). get_or o.reply.values 1 0) h.2 in
    omega (arith, h.1.else (eqb-false 1 9 refl))
