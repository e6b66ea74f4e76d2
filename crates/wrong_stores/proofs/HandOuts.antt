-- Stores of specs/Walks that are excluded by how often a walk hands out a key, and by the keys that come later; and a walk of
-- ours that hands out a key as often as is allowed. Each store has one walk, or two, written out visit by visit.
-- Assumes nothing.
use Prim.Native.Nat.{ℕ, ◌+◌, ◌*◌, ◌^◌}
use mathlib.Core.Path.{◌≡◌, refl}
use mathlib.Core.Bool.{true, false}
use mathlib.Core.Logic.{inl}
use mathlib.Core.List.{List, [], ◌∷◌}
use lib.Dec.{lit≤}
use borrow.Author.Tests.{eqb-false}
use native.Mathlib.Omega.{arith}
use Rattle.model.specs.Sequences.{Call, perform, events}
use Rattle.refinement.specs.Demand3.{lengths_of, Visit, Walk, Walk.over, Walk.other, Walk.onward, Walk.last, largest}
use Rattle.refinement.specs.ExactlyOnce.{times, shrinks, least, HandOuts, ExactlyOnce}
use Rattle.wrong_stores.specs.Walks as wrong
use Rattle.wrong_stores.specs.Walks.{leaves_out, hands_larger_twice, starts_over, never_ends, passes_over, upwards}
use Rattle.wrong_stores.proofs.Start.{computing, zeros, started, started_ideal, room, add, visited, walk_at}
use Rattle.wrong_stores.proofs.Walks.{handing}

-- a visit with key 0 held and handed out
abbrev zero_at : ℕ → ℕ → Visit
zero_at cursor size = visited cursor size (0 ∷ []) (0 ∷ [])

-- all that an answered next cursor of specs/Walks computes with
unfoldable nexts : Unit {0}
unfolding handing wrong.answering_next wrong.over_again
nexts = tt

-- A bucket of the larger table twice: key 0 is in bucket 0 of the old table, of size 2, and the new one has size 1.

twice_walk : ExactlyOnce hands_larger_twice → HandOuts (visited 0 1 (0 ∷ []) (0 ∷ 0 ∷ []) ∷ []) true
unfolding handing hands_larger_twice wrong.in_rehash wrong.by_group wrong.head_twice
twice_walk d =
    walk_at d 2 refl (add 0 10 ∷ Call.resize 1 ∷ Call.scan 0 room ∷ []) (other (other (last room refl refl refl)))

-- `at_most_once`, within a call
pub hands_larger_twice_excluded : ExactlyOnce hands_larger_twice → ⊥
unfolding computing
hands_larger_twice_excluded d = ((twice_walk d).at_most_once tt).0 (inl refl)

-- `doubles`, with no visit that shrinks
pub hands_larger_twice_excluded_by_doubles : ExactlyOnce hands_larger_twice → ⊥
unfolding computing
hands_larger_twice_excluded_by_doubles d = let h = (twice_walk d).doubles 0 in omega arith

-- Over again: at size 2 by the cursors 0, 2 and 3.

over_walk : ExactlyOnce starts_over → HandOuts (zero_at 0 2 ∷ zero_at 2 2 ∷ visited 3 2 (0 ∷ []) [] ∷ []) true
unfolding nexts starts_over
over_walk d =
    walk_at d 2 refl (add 0 10 ∷ Call.scan 0 room ∷ Call.scan 2 room ∷ Call.scan 3 room ∷ [])
    (other
    (onward room refl refl (eqb-false 2 0 refl) (onward room refl refl (eqb-false 3 0 refl) (last room refl refl refl))))

-- `at_most_once`, across calls
pub starts_over_excluded : ExactlyOnce starts_over → ⊥
unfolding computing
starts_over_excluded d = ((over_walk d).at_most_once (lit≤ tt, (lit≤ tt, tt))).0 (inl refl)

-- `exactly_once`, twice
pub starts_over_excluded_by_exactly_once : ExactlyOnce starts_over → ⊥
unfolding computing
starts_over_excluded_by_exactly_once d =
    let h = (over_walk d).exactly_once (lit≤ tt, (lit≤ tt, tt)) refl 0 (inl refl, (inl refl, (inl refl, tt))) in
    omega arith

-- `halvings`, with none
pub starts_over_excluded_by_halvings : ExactlyOnce starts_over → ⊥
unfolding computing
starts_over_excluded_by_halvings d = let h = (over_walk d).halvings 0 (lit≤ tt) 0 in omega arith

-- `exactly_once`, not at all
pub leaves_out_excluded_by_exactly_once : ExactlyOnce leaves_out → ⊥
unfolding handing leaves_out wrong.rest
leaves_out_excluded_by_exactly_once d =
    let h = (walk_at d 1 refl (add 1 10 ∷ Call.scan 0 room ∷ []) (other (last room refl refl refl))
    ).exactly_once tt refl 1 (inl refl, tt) in
    omega arith

-- `doubles`: sizes 4, 1, 1 and key 0 at each; two halvings would allow it
pub never_ends_excluded : ExactlyOnce never_ends → ⊥
unfolding nexts never_ends
never_ends_excluded d =
    let h : HandOuts (zero_at 0 4 ∷ zero_at 2 1 ∷ zero_at 1 1 ∷ []) false = walk_at d 4 refl
    (add 0 10 ∷ Call.scan 0 room ∷ Call.resize 1 ∷ Call.rehash_step ∷ Call.scan 2 room ∷ Call.scan 1 room ∷ [])
    (other
    (onward room refl refl (eqb-false 2 0 refl)
    (other
    (other (onward room refl refl (eqb-false 1 0 refl) (onward room refl refl (eqb-false 1 0 refl) over)))))) in
    let most = h.doubles 0 in
    omega arith

-- `halvings`: sizes 2, 1, 2, 1 and key 0 at all but the third; two visits that shrink would allow it
pub never_ends_excluded_by_halvings : ExactlyOnce never_ends → ⊥
unfolding nexts never_ends
never_ends_excluded_by_halvings d =
    let h : HandOuts (zero_at 0 2 ∷ zero_at 1 1 ∷ visited 1 2 (0 ∷ []) [] ∷ zero_at 1 1 ∷ []) false = walk_at d 2 refl
    (add 0 10 ∷ Call.scan 0 room
    ∷ Call.resize 1 ∷ Call.rehash_step ∷ Call.scan 1 room
    ∷ Call.resize 2 ∷ Call.rehash_step ∷ Call.scan 1 room
    ∷ Call.resize 1 ∷ Call.rehash_step ∷ Call.scan 1 room ∷ [])
    (other
    (onward room refl refl (eqb-false 1 0 refl)
    (other
    (other
    (onward room refl refl (eqb-false 1 0 refl)
    (other
    (other
    (onward room refl refl (eqb-false 1 0 refl)
    (other (other (onward room refl refl (eqb-false 1 0 refl) over))))))))))) in
    let most = h.halvings 1 (lit≤ tt) 0 in
    omega arith

-- `later`: key 1 is added before the second call, at cursor 1, and held then; ..
pub passes_over_excluded : ExactlyOnce passes_over → ⊥
unfolding handing passes_over wrong.passing_over
passes_over_excluded d =
    let h : HandOuts (zero_at 0 2 ∷ visited 1 2 (1 ∷ 0 ∷ []) [] ∷ []) true =
    walk_at d 2 refl (add 0 10 ∷ Call.scan 0 room ∷ add 1 11 ∷ Call.scan 1 room ∷ [])
    (other (onward room refl refl (eqb-false 1 0 refl) (other (last room refl refl refl)))) in
    h.later refl (_ ∷ []) _ [] refl 1 (inl refl, tt) (omega arith)

-- .. and key 1, held all along, is lost by the second call, at cursor 2, where a rehash from size 4 to 1 has begun
pub upwards_excluded_by_later : ExactlyOnce upwards → ⊥
unfolding handing upwards wrong.in_rehash wrong.by_group wrong.upwards_from
upwards_excluded_by_later d =
    let h : HandOuts (visited 0 4 (1 ∷ []) [] ∷ visited 2 1 (1 ∷ []) [] ∷ []) true =
    walk_at d 4 refl (add 1 10 ∷ Call.scan 0 room ∷ Call.resize 1 ∷ Call.scan 2 room ∷ [])
    (other (onward room refl refl (eqb-false 2 0 refl) (other (last room refl refl refl)))) in
    h.later refl (_ ∷ []) _ [] refl 1 (inl refl, tt) (lit≤ tt)

-- Both bounds on doubles are met by ours: a walk at sizes 4, 2 and 1 hands out key 0 at each of its three calls.

abbrev pub three_times : List Visit
three_times = zero_at 0 4 ∷ zero_at 2 2 ∷ zero_at 1 1 ∷ []

pub three_visits : Walk (lengths_of zeros) 0 (started_ideal 4)
    (events perform (started 4)
    (add 0 10 ∷ Call.scan 0 room
    ∷ Call.resize 2 ∷ Call.rehash_step ∷ Call.scan 2 room
    ∷ Call.resize 1 ∷ Call.rehash_step ∷ Call.scan 1 room ∷ []))
    three_times true
unfolding computing
three_visits =
    other
    (onward room refl refl (eqb-false 2 0 refl)
    (other
    (other
    (onward room refl refl (eqb-false 1 0 refl) (other (other (last room refl refl refl)))))))

pub bounds_met : (times 0 three_times ≡ 1 + shrinks three_times) × (times 0 three_times ≡ 1 + 2)
    × (largest three_times ≡ 2 ^ 2 * least three_times)
unfolding computing
bounds_met = (refl, refl, refl)
