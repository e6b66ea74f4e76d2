-- Stores of specs/Passes and specs/Iterators that are excluded by what a safe iterator hands out; for each of the two fields
-- one that breaks it by a pass of which the other holds. And a pass of ours, through a store in which a rehash begins. Each
-- pass is written out moment by moment: the calls that are none of its own hand out nothing to it.
-- Assumes nothing.
use Prim.Native.Nat.{ℕ, zero, suc, ◌≤◌}
use mathlib.Core.Path.{◌≡◌, refl, sym, ap, subst, ◌∙◌}
use mathlib.Core.Bool.{Bool, true, false, cond}
use mathlib.Core.Logic.{inl, inr}
use mathlib.Core.List.{List, [], ◌∷◌, ◌++◌}
use lib.ListN.{length, drop}
use lib.Dec.{lit<, lit≤, eqb}
use lib.Seq.{drop-append_seam}
use borrow.Author.Tests.{eqb-true, eqb-false}
use native.Mathlib.Omega.{arith}
use Rattle.model.specs.Sequences.{Call, perform, events}
use Rattle.refinement.specs.Demand3.{lengths_of, Visit, HeldAtEach}
use Rattle.refinement.specs.ExactlyOnce.{times}
use Rattle.refinement.specs.SafeIterators.{Pass, Pass.over, Pass.other, Pass.onward, Pass.last, stays, PassHolds, SafeIterators}
use Rattle.wrong_stores.specs.Passes as passes
use Rattle.wrong_stores.specs.Passes.{skips_new, hands_again}
use Rattle.wrong_stores.specs.Iterators.{steps_paused}
use Rattle.wrong_stores.proofs.Start.{computing, alike, zeros, reached, reached_ideal, room, add, delete, begin_safe, visited, pass_at, neither}
use Rattle.wrong_stores.proofs.Iterators.{iterating}

-- keys 0 and 1, and a rehash from size 2 to 4, begun before the safe iterator
abbrev both_keys : List Call
both_keys = add 1 11 ∷ add 0 10 ∷ Call.resize 4 ∷ []

-- with both held, at a smaller live size of 2
abbrev both_at : ℕ → List ℕ → Visit
both_at place handed = visited place 2 (0 ∷ 1 ∷ []) handed

-- The new table passed over, in which key 0 is since a step.

abbrev skipped : List Visit
skipped = both_at 0 (1 ∷ []) ∷ both_at 2 [] ∷ []

-- `exactly_once`, not at all
pub skips_new_excluded_by_exactly_once : SafeIterators skips_new → ⊥
unfolding computing passes.handing_at skips_new
skips_new_excluded_by_exactly_once d =
    let h : PassHolds skipped true =
    pass_at d 2 refl (both_keys ++ Call.rehash_step ∷ []) (Call.iterate 0 room ∷ Call.iterate 2 room ∷ [])
    (onward room (lit< tt) refl refl (last room (lit< tt) refl refl (alike 6 refl refl))) in
    let once = h.exactly_once refl 0 (inl refl, (inl refl, tt)) in
    omega arith

-- `no_doubles` holds of that pass: key 1 alone is handed out, and once
from_begin : (key : ℕ) (is_one : Bool) → eqb 1 key ≡ is_one → times key skipped ≤ stays key false skipped
unfolding computing
from_begin key true e = subst (λ (k : ℕ). times k skipped ≤ stays k false skipped) (eqb-true 1 key e) (lit≤ tt)
from_begin key false e =
    let none : times key skipped ≡ 0 = ap (λ (b : Bool). length {A = ℕ} (cond b (1 ∷ []) [])) e in omega arith

from_each : (n key : ℕ) → times key (drop n skipped) ≤ stays key false (drop n skipped)
unfolding computing
from_each zero key = from_begin key _ refl
from_each (suc zero) key = omega arith
from_each (suc (suc zero)) key = lit≤ tt
from_each (suc (suc (suc n))) key = lit≤ tt

pub skipped_no_doubles : (before rest : List Visit) → skipped ≡ before ++ rest → (key : ℕ) → times key rest ≤ stays key false rest
skipped_no_doubles before rest parts key =
    subst (λ (vs : List Visit). times key vs ≤ stays key false vs) (ap (drop (length before)) parts ∙ drop-append_seam before rest)
    (from_each (length before) key)

-- The same bucket in two calls.

-- `no_doubles`
pub hands_again_excluded_by_no_doubles : SafeIterators hands_again → ⊥
unfolding computing passes.again hands_again
hands_again_excluded_by_no_doubles d =
    let one = visited 0 1 (1 ∷ []) (1 ∷ []) in
    let h : PassHolds (one ∷ one ∷ []) false =
    pass_at d 1 refl (add 1 10 ∷ []) (Call.iterate 0 room ∷ Call.iterate 0 room ∷ [])
    (onward room (lit< tt) refl refl (onward room (lit< tt) refl refl over)) in
    let most = h.no_doubles [] _ refl 1 in
    omega arith

-- from a moment on: key 1 was deleted and added again before it was handed out, and so the two are not too many for the whole
-- pass, but too many from there on
pub hands_again_excluded_by_later_doubles : SafeIterators hands_again → ⊥
unfolding computing passes.again hands_again
hands_again_excluded_by_later_doubles d =
    let one = visited 0 1 (1 ∷ []) (1 ∷ []) in
    let before = visited 0 1 (1 ∷ []) [] ∷ visited 0 1 [] [] ∷ [] in
    let h : PassHolds (before ++ one ∷ one ∷ []) false =
    pass_at d 1 refl (add 1 10 ∷ []) (delete 1 ∷ add 1 10 ∷ Call.iterate 0 room ∷ Call.iterate 0 room ∷ [])
    (other (lit< tt)
    (other (lit< tt) (onward room (lit< tt) refl refl (onward room (lit< tt) refl refl over)))) in
    let most = h.no_doubles before _ refl 1 in
    omega arith

-- A step that moves key 0 once it was handed out from the old table: it is handed out again from the new one.

-- `exactly_once`, twice
pub steps_paused_excluded_by_exactly_once : SafeIterators steps_paused → ⊥
unfolding iterating steps_paused
steps_paused_excluded_by_exactly_once d =
    let h : PassHolds (both_at 0 (0 ∷ []) ∷ both_at 1 [] ∷ both_at 1 (1 ∷ []) ∷ both_at 2 (0 ∷ []) ∷ both_at 3 [] ∷ []) true =
    pass_at d 2 refl both_keys
    (Call.iterate 0 room ∷ Call.rehash_step ∷ Call.iterate 1 room ∷ Call.iterate 2 room ∷ Call.iterate 3 room ∷ [])
    (onward room (lit< tt) refl refl
    (other (lit< tt)
    (onward room (lit< tt) refl refl
    (onward room (lit< tt) refl refl (last room (lit< tt) refl refl (alike 6 refl refl)))))) in
    let once = h.exactly_once refl 0 (inl refl, (inl refl, (inl refl, (inl refl, (inl refl, tt))))) in
    omega arith

-- `no_doubles`, by a pass in which key 0 is added after the begin; ..

abbrev doubled : List Visit
doubled =
    visited 0 2 (1 ∷ []) []
    ∷ both_at 0 (0 ∷ [])
    ∷ both_at 1 []
    ∷ both_at 1 []
    ∷ both_at 1 (1 ∷ [])
    ∷ both_at 2 (0 ∷ [])
    ∷ both_at 3 []
    ∷ []

pub steps_paused_excluded_by_no_doubles : SafeIterators steps_paused → ⊥
unfolding iterating steps_paused
steps_paused_excluded_by_no_doubles d =
    let h : PassHolds doubled true =
    pass_at d 2 refl (add 1 11 ∷ [])
    (add 0 10 ∷ Call.iterate 0 room ∷ Call.resize 4 ∷ Call.rehash_step ∷ Call.iterate 1 room ∷ Call.iterate 2 room ∷ Call.iterate 3 room ∷ [])
    (other (lit< tt)
    (onward room (lit< tt) refl refl
    (other (lit< tt)
    (other (lit< tt)
    (onward room (lit< tt) refl refl
    (onward room (lit< tt) refl refl (last room (lit< tt) refl refl (alike 6 refl refl)))))))) in
    let most = h.no_doubles [] _ refl 0 in
    omega arith

-- .. and `exactly_once` holds of it: key 1 alone is held at each moment
pub doubled_once : (key : ℕ) → HeldAtEach key doubled → times key doubled ≡ 1
unfolding computing
doubled_once key (inr none, rest) = absurd none
doubled_once key (inl is, rest) = subst (λ (k : ℕ). times k doubled ≡ 1) (sym is) refl

-- Ours: a rehash from size 2 to 4 begins in the middle of a pass, key 2 is added, in the new table, and a step is held up. The
-- pass ends, with each of the three keys handed out once.

abbrev between : List Call
between =
    Call.iterate 0 room
    ∷ Call.resize 4
    ∷ add 2 12
    ∷ Call.rehash_step
    ∷ Call.iterate 1 room
    ∷ Call.iterate 2 room
    ∷ Call.iterate 5 room
    ∷ []

abbrev three_at : ℕ → List ℕ → Visit
three_at place handed = visited place 2 (2 ∷ 0 ∷ 1 ∷ []) handed

abbrev pub moments : List Visit
moments =
    both_at 0 (0 ∷ [])
    ∷ both_at 1 []
    ∷ both_at 1 []
    ∷ three_at 1 []
    ∷ three_at 1 (1 ∷ [])
    ∷ three_at 2 (2 ∷ [])
    ∷ three_at 5 []
    ∷ []

abbrev two_keys : List Call
two_keys = add 1 11 ∷ add 0 10 ∷ begin_safe ∷ []

pub pass_met : Pass (lengths_of zeros) 0 (reached_ideal 2 two_keys) (events perform (reached 2 two_keys) between) moments true
unfolding computing
pass_met =
    onward room (lit< tt) refl refl
    (other (lit< tt)
    (other (lit< tt)
    (other (lit< tt)
    (onward room (lit< tt) refl refl
    (onward room (lit< tt) refl refl (last room (lit< tt) refl refl (alike 6 refl refl)))))))

-- keys 0 and 1 are held at each moment, and key 2 is not
pub handed_once : HeldAtEach 0 moments × HeldAtEach 1 moments × (¬ HeldAtEach 2 moments)
    × (times 0 moments ≡ 1) × (times 1 moments ≡ 1) × (times 2 moments ≡ 1)
unfolding computing
handed_once = (
  (inl refl, (inl refl, (inl refl, (inr (inl refl), (inr (inl refl), (inr (inl refl), (inr (inl refl), tt))))))),
  (inr (inl refl), (inr (inl refl), (inr (inl refl), (inr (inr (inl refl)), (inr (inr (inl refl)), (inr (inr (inl refl)), (inr (inr (inl refl)), tt))))))),
  λ held. neither (eqb-false 2 0 refl) (neither (eqb-false 2 1 refl) (λ none. none)) held.0,
  refl,
  refl,
  refl,
)
