-- The stores of specs/Walks are excluded by demand 3.
-- Assumes nothing.
use mathlib.Core.Path.{refl}
use mathlib.Core.Bool.{true, false}
use mathlib.Core.Logic.{inl}
use mathlib.Core.List.{[], ◌∷◌}
use lib.ListN.{get_or}
use lib.Dec.{lit<}
use borrow.Author.Tests.{eqb-false}
use native.Mathlib.Omega.{arith}
use Rattle.model.specs.Sequences.{Call, Outcome, Pair}
use Rattle.refinement.specs.Demand3.{Demand3, Walk.over, Walk.other, Walk.onward, Walk.last}
use Rattle.wrong_stores.specs.Walks as wrong
use Rattle.wrong_stores.specs.Walks.{all_then_end, all_then_none, hands_either, leaves_out, hands_twice, backwards, loses_values, writes_beyond, upwards, next_of_larger, skips_empty, ends_early}
use Rattle.wrong_stores.proofs.Start.{computing, room, add, at, apart, differ, neither, no_look}

-- all that an answered walk call of specs/Walks computes with
unfoldable pub handing : Unit {0}
unfolding computing wrong.entries_up_to wrong.entries_of wrong.all_entries wrong.handing wrong.handing_out
handing = tt

-- `answers`, `values`: as many keys as the ideal has in the call's group
pub all_then_end_excluded : Demand3 all_then_end → ⊥
unfolding handing all_then_end
all_then_end_excluded d =
    differ 1 (0 ∷ 1 ∷ []) (1 ∷ 0 ∷ []) refl
    ((at d 2 refl (add 1 10 ∷ Call.scan 0 room ∷ [])).answers.1.0.values (no_look refl))

pub all_then_none_excluded : Demand3 all_then_none → ⊥
unfolding handing all_then_none wrong.all_at_zero
all_then_none_excluded d =
    differ 1 (1 ∷ 1 ∷ []) (1 ∷ 0 ∷ []) refl
    ((at d 2 refl (add 1 10 ∷ Call.scan 0 room ∷ [])).answers.1.0.values (no_look refl))

-- key 0 is in bucket 0 of the new table, of size 4, which the group of cursor 2 does not have; it has bucket 0 of the old one.
-- (key 1 is still to move)
pub hands_either_excluded : Demand3 hands_either → ⊥
unfolding handing hands_either wrong.either_bucket
hands_either_excluded d =
    differ 1 (1 ∷ 1 ∷ []) (1 ∷ 0 ∷ []) refl
    ((at d 2 refl (add 0 10 ∷ add 1 11 ∷ Call.resize 4 ∷ Call.rehash_step ∷ Call.scan 2 room ∷ [])).answers.1.1.1.1.0.values
    (no_look refl))

-- `values`: the next cursor is the published one of the smaller live size
pub skips_empty_excluded : Demand3 skips_empty → ⊥
unfolding handing skips_empty wrong.skipping
skips_empty_excluded d =
    differ 0 (0 ∷ 1 ∷ []) (1 ∷ 0 ∷ []) refl
    ((at d 2 refl (add 1 10 ∷ Call.scan 0 room ∷ [])).answers.1.0.values (no_look refl))

pub ends_early_excluded : Demand3 ends_early → ⊥
unfolding handing ends_early wrong.empty_from
ends_early_excluded d =
    differ 0 (0 ∷ 1 ∷ []) (1 ∷ 1 ∷ []) refl
    ((at d 2 refl (add 0 10 ∷ Call.scan 0 room ∷ [])).answers.1.0.values (no_look refl))

-- `answered_walk`, `only`: each key with the map's value
pub loses_values_excluded : Demand3 loses_values → ⊥
unfolding handing loses_values wrong.keys_only
loses_values_excluded d =
    neither (apart (λ (p : Pair). p.value) _ _ refl) (λ h. h)
    (((at d 1 refl (add 1 10 ∷ Call.scan 0 room ∷ [])).answers.1.0.answered_walk 0 room refl refl).only _ (inl refl))

-- `all`: the ideal's pairs are all handed out
pub leaves_out_excluded : Demand3 leaves_out → ⊥
unfolding handing leaves_out wrong.rest
leaves_out_excluded d =
    ((at d 1 refl (add 1 10 ∷ Call.scan 0 room ∷ [])).answers.1.0.answered_walk 0 room refl refl).all _ (inl refl)

-- `none_twice`: no key is handed out twice
pub hands_twice_excluded : Demand3 hands_twice → ⊥
unfolding handing hands_twice wrong.first_twice
hands_twice_excluded d =
    ((at d 1 refl (add 0 10 ∷ add 1 11 ∷ Call.scan 0 room ∷ [])).answers.1.1.0.answered_walk 0 room refl refl).none_twice.0
    (inl refl)

-- `beyond`: the places behind the pairs stay
pub writes_beyond_excluded : Demand3 writes_beyond → ⊥
unfolding handing wrong.overwriting writes_beyond
writes_beyond_excluded d =
    differ 0 (0 ∷ []) (7 ∷ []) refl
    ((at d 1 refl (add 1 10 ∷ Call.scan 0 (0 ∷ 0 ∷ 7 ∷ []) ∷ [])).answers.1.0.answered_walk 0 (0 ∷ 0 ∷ 7 ∷ []) refl refl
    ).beyond

-- `exact`: in chain order
pub backwards_excluded : Demand3 backwards → ⊥
unfolding handing backwards
backwards_excluded d =
    apart (λ (o : Outcome). get_or o.lent 0 0) _ _ refl ((at d 1 refl (add 1 11 ∷ add 0 10 ∷ [])).exact 0 room refl)

-- `walks`, `covers`: bucket 1 of the larger table is lost, where a walk's first call was at size 4 and a rehash to 1 began
-- before its second, at cursor 2
pub upwards_excluded : Demand3 upwards → ⊥
unfolding handing upwards wrong.in_rehash wrong.by_group wrong.upwards_from
upwards_excluded d =
    ((at d 4 refl (add 1 10 ∷ Call.scan 0 room ∷ Call.resize 1 ∷ Call.scan 2 room ∷ [])).walks _ true
    (other (onward room refl refl (eqb-false 2 0 refl) (other (last room refl refl refl))))
    ).covers refl 1 (inl refl, (inl refl, tt))

-- `walks`, `bound`: two calls at a smaller size of 1, and ended; ..
pub next_of_larger_excluded : Demand3 next_of_larger → ⊥
unfolding handing next_of_larger wrong.in_rehash wrong.by_group
next_of_larger_excluded d =
    let h = ((at d 1 refl (add 1 10 ∷ Call.resize 2 ∷ Call.scan 0 room ∷ Call.scan 1 room ∷ [])).walks _ true
    (other (other (onward room refl refl (eqb-false 1 0 refl) (last room refl refl refl))))).bound refl in
    omega arith

-- .. `bound_so_far`: the first of them, and not ended
pub next_of_larger_excluded_by_bound_so_far : Demand3 next_of_larger → ⊥
unfolding handing next_of_larger wrong.in_rehash wrong.by_group
next_of_larger_excluded_by_bound_so_far d =
    let h = ((at d 1 refl (add 1 10 ∷ Call.resize 2 ∷ Call.scan 0 room ∷ [])).walks _ false
    (other (other (onward room refl refl (eqb-false 1 0 refl) over)))).bound_so_far refl (lit< tt) in
    omega arith
