-- The stores of specs/Growth are excluded, by demand 3 or by demand 1's table.
-- Assumes nothing.
use Prim.Native.Nat.{ℕ}
use mathlib.Core.Path.{◌≡◌, refl, sym, ◌∙◌}
use mathlib.Core.Bool.{Bool, true, false, cond}
use mathlib.Core.List.{List, [], ◌∷◌, ◌++◌}
use lib.ListN.{replicate}
use borrow.Author.Tests.{eqb-false}
use Rattle.model.specs.Calls as calls
use Rattle.model.specs.Walk.{Tables}
use Rattle.model.specs.Sequences.{World, world, StateCall, Call, Outcome, carry}
use Rattle.model.proofs.Tests.{true_not_false}
use Rattle.refinement.specs.Demand1.{Demand1}
use Rattle.refinement.specs.Demand3.{Demand3, SequenceHolds, lengths_of, begun, start_number}
use Rattle.refinement.specs.RehashesEnd.{Ongoing}
use Rattle.refinement.proofs.HiddenSteps as hidden
use Rattle.refinement.proofs.Demand3.{from_a_start}
use Rattle.wrong_stores.specs.Growth as growth
use Rattle.wrong_stores.specs.Growth.{never_grows, grows_forbidden, never_forced, grows_late, forced_early, forced_by_keys, grows_for_before, grows_to_two, grows_halfway, grows_from_rest, never_grows_paused, shrinks, deletes_shrinking, deletes_growing, steps_growing, allows_growing, refuses_cramped, starts_forbidding, keeps_permission, allows_again, refuses_permission, allows_any_state}
use Rattle.wrong_stores.proofs.Start.{computing, zeros, reached, reached_ideal, forbid, begin_safe, add, delete, at, apart, neither}

abbrev allow : Call
allow = Call.note (StateCall.allow_resize true)

unfoldable resizing : Unit {0}
unfolding computing hidden.before_growth growth.then_resized growth.wanted growth.full growth.growing growth.permitted
resizing = tt

-- the size of the new table, 0 where there is none
unfoldable new_size : Tables → ℕ
new_size (Tables.one size) = 0
new_size (Tables.two old new) = new

-- Demand 3, `matches`, `tables`. With one bucket the first key is one for each: growth to 4 begins with it, if that is allowed.

pub never_grows_excluded : Demand3 never_grows → ⊥
unfolding resizing never_grows new_size
never_grows_excluded d =
    apart new_size (Tables.one 1) (Tables.two 1 4) refl (at d 1 refl (allow ∷ add 1 10 ∷ [])).matches.tables

pub grows_late_excluded : Demand3 grows_late → ⊥
unfolding resizing grows_late new_size
grows_late_excluded d =
    apart new_size (Tables.one 1) (Tables.two 1 4) refl (at d 1 refl (allow ∷ add 1 10 ∷ [])).matches.tables

pub grows_forbidden_excluded : Demand3 grows_forbidden → ⊥
unfolding resizing grows_forbidden new_size
grows_forbidden_excluded d =
    apart new_size (Tables.two 1 4) (Tables.one 1) refl (at d 1 refl (add 1 10 ∷ [])).matches.tables

-- once it is allowed, two keys are held, and the third one asks for 8 buckets
pub grows_for_before_excluded : Demand3 grows_for_before → ⊥
unfolding resizing grows_for_before new_size
grows_for_before_excluded d =
    apart new_size (Tables.two 1 4) (Tables.two 1 8) refl
    (at d 1 refl (add 1 10 ∷ add 2 20 ∷ allow ∷ add 3 30 ∷ [])).matches.tables

-- .. and the first one for 4
pub grows_to_two_excluded : Demand3 grows_to_two → ⊥
unfolding resizing grows_to_two new_size
grows_to_two_excluded d =
    apart new_size (Tables.two 1 2) (Tables.two 1 4) refl (at d 1 refl (allow ∷ add 1 10 ∷ [])).matches.tables

-- the add's step ends a rehash to two buckets, and two keys are held then
pub grows_from_rest_excluded : Demand3 grows_from_rest → ⊥
unfolding resizing grows_from_rest new_size
grows_from_rest_excluded d =
    apart new_size (Tables.one 2) (Tables.two 2 4) refl
    (at d 4 refl (allow ∷ add 0 10 ∷ Call.resize 2 ∷ add 1 11 ∷ [])).matches.tables

-- a safe iterator does not hold up growth
pub never_grows_paused_excluded : Demand3 never_grows_paused → ⊥
unfolding resizing never_grows_paused new_size
never_grows_paused_excluded d =
    apart new_size (Tables.one 1) (Tables.two 1 4) refl (at d 1 refl (allow ∷ begin_safe ∷ add 1 10 ∷ [])).matches.tables

-- one key in 16 buckets; and once it is deleted, none
pub shrinks_excluded : Demand3 shrinks → ⊥
unfolding resizing shrinks new_size
shrinks_excluded d =
    apart new_size (Tables.two 16 4) (Tables.one 16) refl (at d 16 refl (allow ∷ add 1 10 ∷ [])).matches.tables

pub deletes_shrinking_excluded : Demand3 deletes_shrinking → ⊥
unfolding resizing deletes_shrinking new_size
deletes_shrinking_excluded d =
    apart new_size (Tables.two 16 4) (Tables.one 16) refl (at d 16 refl (allow ∷ add 1 10 ∷ delete 1 ∷ [])).matches.tables

-- one key for one bucket, behind a delete, behind a step that ends a rehash, and when growth comes to be allowed: no add
-- follows, and so no growth
pub deletes_growing_excluded : Demand3 deletes_growing → ⊥
unfolding resizing deletes_growing new_size
deletes_growing_excluded d =
    apart new_size (Tables.two 1 4) (Tables.one 1) refl
    (at d 1 refl (add 1 10 ∷ add 2 20 ∷ allow ∷ delete 1 ∷ [])).matches.tables

pub steps_growing_excluded : Demand3 steps_growing → ⊥
unfolding resizing steps_growing new_size
steps_growing_excluded d =
    apart new_size (Tables.two 1 4) (Tables.one 1) refl
    (at d 2 refl (add 0 10 ∷ Call.resize 1 ∷ allow ∷ Call.rehash_step ∷ [])).matches.tables

pub allows_growing_excluded : Demand3 allows_growing → ⊥
unfolding resizing allows_growing new_size
allows_growing_excluded d =
    apart new_size (Tables.two 1 4) (Tables.one 1) refl (at d 1 refl (add 1 10 ∷ allow ∷ [])).matches.tables

-- Of stores of six entries, and a second bucket buffer of that length, after a start of that size.

unfoldable roomy : ℕ → World
roomy others = world calls.no_state (replicate 16 0) (replicate others 0) (replicate 18 0)

begins_with : {does : World → Call → Outcome} → Demand3 does → (size others : ℕ)
    → start_number (lengths_of (roomy others)) 6 size ≡ 0 → (calls : List Call)
    → SequenceHolds does (lengths_of (roomy others)) (carry (roomy others) (does (roomy others) (Call.init 6 size))) (begun 6 size) calls
begins_with d size others fits calls =
    from_a_start _ d (roomy others) 6 size ((d.starts (roomy others) 6 size).number ∙ fits) calls

abbrev five_keys : List Call
five_keys = add 1 10 ∷ add 2 20 ∷ add 3 30 ∷ add 4 40 ∷ add 5 50 ∷ []

abbrev six_keys : List Call
six_keys = five_keys ++ add 6 60 ∷ []

-- five keys for a bucket are not more than five times, and six are
pub forced_early_excluded : Demand3 forced_early → ⊥
unfolding resizing forced_early new_size roomy
forced_early_excluded d =
    apart new_size (Tables.two 1 16) (Tables.one 1) refl (begins_with d 1 16 refl (forbid ∷ five_keys)).matches.tables

pub never_forced_excluded : Demand3 never_forced → ⊥
unfolding resizing never_forced new_size roomy
never_forced_excluded d =
    apart new_size (Tables.one 1) (Tables.two 1 16) refl (begins_with d 1 16 refl (forbid ∷ six_keys)).matches.tables

-- .. for one bucket, and not for two
pub forced_by_keys_excluded : Demand3 forced_by_keys → ⊥
unfolding resizing forced_by_keys new_size roomy
forced_by_keys_excluded d =
    apart new_size (Tables.two 2 16) (Tables.one 2) refl (begins_with d 2 16 refl (forbid ∷ six_keys)).matches.tables

-- with three numbers in the other buffer no table grows to 4, and none to 2
pub grows_halfway_excluded : Demand3 grows_halfway → ⊥
unfolding resizing grows_halfway new_size roomy
grows_halfway_excluded d =
    apart new_size (Tables.two 1 2) (Tables.one 1) refl (begins_with d 1 3 refl (add 1 10 ∷ [])).matches.tables

-- `answers`, `number`: and the add is answered; ..
pub refuses_cramped_excluded : Demand3 refuses_cramped → ⊥
unfolding resizing refuses_cramped roomy
refuses_cramped_excluded d = eqb-false 6 0 refl (begins_with d 1 3 refl (add 1 10 ∷ [])).answers.0.number

-- .. the permission is refused for an unsound state only
pub refuses_permission_excluded : Demand3 refuses_permission → ⊥
unfolding computing refuses_permission
refuses_permission_excluded d = eqb-false 7 0 refl (at d 1 refl (Call.resize 2 ∷ allow ∷ [])).answers.1.0.number

-- `matches`, `allowed`: on at a start, as last set, and no other call sets it

flag : Bool → ℕ
flag allowed = cond allowed 1 0

pub starts_forbidding_excluded : Demand3 starts_forbidding → ⊥
unfolding computing growth.permitted starts_forbidding flag
starts_forbidding_excluded d = apart flag false true refl ((d.starts zeros 3 1).matches refl).allowed

pub keeps_permission_excluded : Demand3 keeps_permission → ⊥
unfolding computing keeps_permission flag
keeps_permission_excluded d = apart flag false true refl (at d 1 refl (allow ∷ [])).matches.allowed

pub allows_again_excluded : Demand3 allows_again → ⊥
unfolding computing growth.permitted allows_again flag
allows_again_excluded d =
    apart flag true false refl (at d 1 refl (Call.resize 2 ∷ Call.rehash_step ∷ [])).matches.allowed

-- Demand 1, `numbers`: the state of zeros is answered with 1
pub allows_any_state_excluded : Demand1 allows_any_state → ⊥
unfolding computing growth.permitted allows_any_state
allows_any_state_excluded d =
    neither (λ h. eqb-false 0 1 refl h.1) (λ h. h.0 (λ s. true_not_false (sym s))) (d.numbers zeros allow)

-- Ours: an add whose step ends a rehash, and behind which the next one begins. It is another one: `RehashesEnd` counts its
-- steps from there on.

abbrev ends_next : List Call
ends_next = allow ∷ add 0 10 ∷ Call.resize 2 ∷ []

abbrev begins_next : List Call
begins_next = ends_next ++ add 1 11 ∷ []

pub begins_anew : ((reached 4 ends_next).state.rehashing ≡ true)
    × ((reached 4 begins_next).state.rehashing ≡ true)
    × (¬ Ongoing (reached_ideal 4 ends_next).turned (reached 4 begins_next) (reached_ideal 4 begins_next))
unfolding computing
begins_anew = (refl, refl, true_not_false)
