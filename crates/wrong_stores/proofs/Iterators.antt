-- The stores of specs/Iterators are excluded, by demand 3 or by demand 1; and a store of ours that changes between the begin
-- and the end of an iterator, and has the same fingerprint.
-- Assumes nothing.
use Prim.Native.Nat.{ℕ, ◌-◌}
use mathlib.Core.Path.{◌≡◌, refl, sym}
use mathlib.Core.Bool.{false}
use mathlib.Core.Logic.{◌⊎◌}
use mathlib.Core.List.{List, [], ◌∷◌, ◌++◌}
use lib.ListN.{get_or}
use lib.Dec.{lit<, lit≤, eqb}
use borrow.Author.Tests.{eqb-false}
use native.Mathlib.Omega.{arith}
use Rattle.model.specs.Limits.{most_safe_iterators}
use Rattle.model.specs.Iterators.{fingerprint_of}
use Rattle.model.specs.Cases.{bucket_zero, moving, with_safe}
use Rattle.model.specs.Sequences.{World, ReadCall, Call, Outcome, perform, run, Event, events, keys_of}
use Rattle.model.proofs.Tests.{true_not_false}
use Rattle.refinement.specs.Demand1.{Demand1}
use Rattle.refinement.specs.Demand3.{handed_out, Demand3}
use Rattle.wrong_stores.specs.Iterators as wrong
use Rattle.wrong_stores.specs.Iterators.{prints_zero, prints_refused, never_changed, always_changed, changed_first, counts_none, keeps_counted, begins_fewer, begins_beyond, ends_none, starts_as_before, starts_with_one, steps_paused, damaged_first, paused_at_rest, adds_paused, deletes_paused, refuses_paused}
use Rattle.wrong_stores.proofs.Start.{computing, zeros, started, reached, room, find, add, delete, begin_safe, end_safe, at, apart, differ, neither, no_look}

-- what a store of specs/Iterators computes with
unfoldable pub iterating : Unit {0}
unfolding computing wrong.only_number wrong.with_iterators wrong.starts_counting wrong.unpaused with_safe
iterating = tt

-- Demand 3, `answers`, `values`: a begin answers the fingerprint.
pub prints_zero_excluded : Demand3 prints_zero → ⊥
unfolding iterating prints_zero
prints_zero_excluded d =
    differ 0 (0 ∷ []) _ refl ((at d 1 refl (Call.read ReadCall.begin_iterator ∷ [])).answers.0.values (no_look refl))

-- `matches`, `iterators`: one more with each begin, one fewer with each end, none after a start

pub counts_none_excluded : Demand3 counts_none → ⊥
unfolding iterating counts_none
counts_none_excluded d = eqb-false 0 1 refl (at d 1 refl (begin_safe ∷ [])).matches.iterators

pub keeps_counted_excluded : Demand3 keeps_counted → ⊥
unfolding iterating keeps_counted
keeps_counted_excluded d = eqb-false 1 0 refl (at d 1 refl (begin_safe ∷ end_safe ∷ [])).matches.iterators

pub starts_as_before_excluded : Demand3 starts_as_before → ⊥
unfolding iterating starts_as_before
starts_as_before_excluded d = eqb-false 1 0 refl (at d 1 refl (begin_safe ∷ Call.init 3 1 ∷ [])).matches.iterators

pub starts_with_one_excluded : Demand3 starts_with_one → ⊥
unfolding iterating starts_with_one
starts_with_one_excluded d = eqb-false 1 0 refl ((d.starts zeros 3 1).matches refl).iterators

-- `answers`, `number`. Key 0 is the only one, and a rehash from size 2 to 4 is begun and held up: a step after an add, or a
-- delete, is so too, since neither has ended the rehash; ..

abbrev held_up : List Call → List Call
held_up calls = add 0 10 ∷ Call.resize 4 ∷ begin_safe ∷ calls

pub adds_paused_excluded : Demand3 adds_paused → ⊥
unfolding iterating adds_paused
adds_paused_excluded d =
    eqb-false 8 18 refl (at d 2 refl (held_up (add 1 11 ∷ Call.rehash_step ∷ []))).answers.1.1.1.1.0.number

pub deletes_paused_excluded : Demand3 deletes_paused → ⊥
unfolding iterating deletes_paused
deletes_paused_excluded d =
    eqb-false 8 18 refl (at d 2 refl (held_up (delete 0 ∷ Call.rehash_step ∷ []))).answers.1.1.1.1.0.number

-- .. and a resize is held up by nothing
pub refuses_paused_excluded : Demand3 refuses_paused → ⊥
unfolding iterating refuses_paused
refuses_paused_excluded d = eqb-false 18 0 refl (at d 1 refl (begin_safe ∷ Call.resize 2 ∷ [])).answers.1.0.number

-- Demand 1, `numbers`. The row after that of 1 is the end's 15, ..

abbrev fresh : World
fresh = started 1

pub never_changed_excluded : Demand1 never_changed → ⊥
unfolding iterating never_changed
never_changed_excluded d =
    neither (λ h. eqb-false 0 1 refl h.1)
    (λ h. neither (λ i. eqb-false 0 15 refl i.1) (λ i. i.0 (eqb-false 0 _ refl)) h.1)
    (d.numbers fresh (Call.read (ReadCall.end_iterator 0)))

pub always_changed_excluded : Demand1 always_changed → ⊥
unfolding iterating always_changed
always_changed_excluded d =
    neither (λ h. eqb-false 15 1 refl h.1) (λ h. neither (λ i. i.0 refl) (λ i. eqb-false 15 0 refl i.1) h.1)
    (d.numbers fresh (Call.read (ReadCall.end_iterator (fingerprint_of fresh.state))))

-- (the world of zeros has no sound state)
pub changed_first_excluded : Demand1 changed_first → ⊥
unfolding iterating changed_first
changed_first_excluded d =
    neither (λ h. eqb-false 15 1 refl h.1) (λ h. h.0 (λ s. true_not_false (sym s)))
    (d.numbers zeros (Call.read (ReadCall.end_iterator 0)))

-- .. or a safe iterator's 16 or 17, ..

pub ends_none_excluded : Demand1 ends_none → ⊥
unfolding iterating ends_none
ends_none_excluded d =
    neither (λ h. eqb-false 0 1 refl h.1) (λ h. neither (λ i. eqb-false 0 16 refl i.1) (λ i. i.0 refl) h.1)
    (d.numbers fresh end_safe)

pub begins_beyond_excluded : Demand1 begins_beyond → ⊥
unfolding iterating begins_beyond
begins_beyond_excluded d =
    neither (λ h. eqb-false 0 1 refl h.1) (λ h. neither (λ i. eqb-false 0 17 refl i.1) (λ i. i.0 (lit≤ tt)) h.1)
    (d.numbers (with_safe most_safe_iterators fresh) begin_safe)

pub begins_fewer_excluded : Demand1 begins_fewer → ⊥
unfolding iterating begins_fewer
begins_fewer_excluded d =
    neither (λ h. eqb-false 17 1 refl h.1) (λ h. neither (λ i. omega (arith, i.0)) (λ i. eqb-false 17 0 refl i.1) h.1)
    (d.numbers (with_safe (most_safe_iterators - 1) fresh) begin_safe)

-- .. and that of 18 is behind that of 8, and before that of 2.

must_be_paused : {Bad Resting HeldUp Rest : Type 0} (n : ℕ) → eqb n 1 ≡ false → eqb n 8 ≡ false → eqb n 18 ≡ false → HeldUp
    → (Bad × (n ≡ 1))
    ⊎ ((¬ Bad)
    × ((Resting × (n ≡ 8)) ⊎ ((¬ Resting) × ((HeldUp × (n ≡ 18)) ⊎ ((¬ HeldUp) × Rest)))))
    → ⊥
must_be_paused n f g k up =
    neither (λ h. eqb-false n 1 f h.1)
    (λ h.
    neither (λ i. eqb-false n 8 g i.1) (λ i. neither (λ j. eqb-false n 18 k j.1) (λ j. j.0 up) i.1) h.1)

pub steps_paused_excluded : Demand1 steps_paused → ⊥
unfolding iterating steps_paused
steps_paused_excluded d =
    must_be_paused 0 refl refl refl (lit< tt)
    (d.numbers (reached 2 (held_up [])) Call.rehash_step)

pub damaged_first_excluded : Demand1 damaged_first → ⊥
unfolding iterating damaged_first moving bucket_zero
damaged_first_excluded d =
    must_be_paused 2 refl refl refl (lit< tt) (d.numbers (with_safe 1 (moving 2 5)) Call.rehash_step)

pub paused_at_rest_excluded : Demand1 paused_at_rest → ⊥
unfolding iterating paused_at_rest
paused_at_rest_excluded d =
    neither (λ h. eqb-false 18 1 refl h.1) (λ h. neither (λ i. eqb-false 18 8 refl i.1) (λ i. i.0 refl) h.1)
    (d.numbers (with_safe 1 fresh) Call.rehash_step)

-- `refusals`: a refused begin says 0
pub prints_refused_excluded : Demand1 prints_refused → ⊥
unfolding iterating prints_refused
prints_refused_excluded d =
    apart (λ (o : Outcome). get_or o.reply.values 0 0) _ _ refl
    (d.refusals zeros (Call.read ReadCall.begin_iterator) (eqb-false 1 0 refl))

-- Ours: between the begin and the end of an iterator key 0 is deleted and key 2 added. As many keys are held in a table of the
-- same size, so the fingerprint is the same, and the end is answered 0. The iterator has handed out key 0, which is not held
-- any more, and not key 2, which is held: its bucket was passed before it came.

abbrev at_begin : World
at_begin = reached 2 (add 0 10 ∷ add 1 11 ∷ [])

abbrev replacing : List Call
replacing = Call.iterate 0 room ∷ delete 0 ∷ add 2 12 ∷ Call.iterate 1 room ∷ []

abbrev at_end : World
at_end = run perform at_begin replacing

-- the fingerprint that the begin answers, and all keys that some calls hand out

abbrev print : ℕ
print = get_or (perform at_begin (Call.read ReadCall.begin_iterator)).reply.values 0 0

unfoldable pub all_handed : List Event → List ℕ
all_handed [] = []
all_handed (e ∷ es) = keys_of (handed_out e) ++ all_handed es

pub equal_print : ((perform at_end (Call.read (ReadCall.end_iterator print))).reply.number ≡ 0)
    × (all_handed (events perform at_begin replacing) ≡ 0 ∷ 1 ∷ [])
    × ((perform at_end (find 0)).reply.number ≡ 3)
    × ((perform at_end (find 2)).reply.number ≡ 0)
unfolding iterating all_handed
equal_print = (refl, refl, refl, refl)
