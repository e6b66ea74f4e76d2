-- The stores of specs/Rehashes are excluded by demand 3.
-- Assumes nothing.
use mathlib.Core.Path.{◌≡◌, refl}
use mathlib.Core.Bool.{true, false, cond}
use mathlib.Core.Logic.{inl}
use mathlib.Core.List.{List, [], ◌∷◌}
use lib.Dec.{lit<}
use borrow.Author.Tests.{eqb-false}
use Rattle.model.specs.declared.Table.{Table}
use Rattle.model.specs.Calls.{old_new}
use Rattle.model.specs.Sequences.{Call, Event, events}
use Rattle.refinement.specs.Demand3 as demand3
use Rattle.refinement.specs.Demand3.{Lengths, Ideal, lengths_of, predict, Answered, Demand3}
use Rattle.wrong_stores.specs.Rehashes as wrong
use Rattle.wrong_stores.specs.Rehashes.{cuts_buffer, steps_nowhere, counts_one_more, keeps_index, steps_ahead, moves_all, moves_quietly}
use Rattle.wrong_stores.specs.Walks as walks
use Rattle.wrong_stores.proofs.Start.{computing, zeros, started, started_ideal, add, held, at, apart, differ, is_lent, no_look, no_scan, no_iterate}

-- `matches`, `lengths`: the buffers stay as long as they were
pub cuts_buffer_excluded : Demand3 cuts_buffer → ⊥
unfolding computing cuts_buffer
cuts_buffer_excluded d =
    apart (λ (l : Lengths). l.second) _ _ refl (at d 2 refl (Call.resize 4 ∷ [])).matches.lengths

-- A store with a key in each of three buckets, and a rehash of it. Three are excluded by `answers`: a step answers what the
-- map's keys and the live tables say that it moves.

abbrev three_keys : List Call → List Call
three_keys calls = add 0 10 ∷ add 1 11 ∷ add 2 12 ∷ Call.resize 8 ∷ Call.rehash_step ∷ calls

pub steps_nowhere_excluded : Demand3 steps_nowhere → ⊥
unfolding computing steps_nowhere
steps_nowhere_excluded d =
    differ 0 (0 ∷ 1 ∷ []) (1 ∷ 1 ∷ []) refl ((at d 4 refl (three_keys [])).answers.1.1.1.1.0.values (no_look refl))

pub counts_one_more_excluded : Demand3 counts_one_more → ⊥
unfolding computing counts_one_more
counts_one_more_excluded d =
    differ 0 (2 ∷ 1 ∷ []) (1 ∷ 1 ∷ []) refl ((at d 4 refl (three_keys [])).answers.1.1.1.1.0.values (no_look refl))

pub moves_all_excluded : Demand3 moves_all → ⊥
unfolding computing moves_all wrong.more_steps
moves_all_excluded d =
    differ 0 (3 ∷ 0 ∷ []) (1 ∷ 1 ∷ []) refl ((at d 4 refl (three_keys [])).answers.1.1.1.1.0.values (no_look refl))

-- `undamaged`, `state_sound`: with no rehash under way the next bucket is 0
pub keeps_index_excluded : Demand3 keeps_index → ⊥
unfolding computing keeps_index wrong.going_on
keeps_index_excluded d =
    apart (λ sound. cond sound 1 0) false true refl
    (at d 4 refl (three_keys (Call.rehash_step ∷ Call.rehash_step ∷ []))).undamaged.state_sound

-- `matches`, `index`: the next bucket is the one behind the bucket moved; the one behind that is empty here
pub steps_ahead_excluded : Demand3 steps_ahead → ⊥
unfolding computing steps_ahead wrong.going_on wrong.behind_empty
steps_ahead_excluded d =
    eqb-false 2 1 refl (at d 4 refl (add 0 10 ∷ add 2 12 ∷ Call.resize 8 ∷ Call.rehash_step ∷ [])).matches.index

-- all that the lying step computes with
unfoldable lying : Unit {0}
unfolding wrong.going_on wrong.saying wrong.moved_before wrong.one_more walks.entries_of walks.entries_up_to
lying = tt

-- The lying step is excluded by `matches`, `each_table`: after it the key of the second bucket is in the new table, and the
-- ideal has it in the old one.
pub moves_quietly_excluded : Demand3 moves_quietly → ⊥
unfolding computing moves_quietly lying
moves_quietly_excluded d =
    apart (old_new 0 1) Table.New Table.Old refl
    ((at d 4 refl (three_keys [])).matches.each_table 1 11
    (held 2 Table.New 1 (lit< tt) (inl refl) refl refl))

-- Over a whole rehash in which no call is lent a list, it answers as the ideal.

-- each call answers as the ideal, and is lent no list
Plainly : Lengths → Ideal → List Event → Type 0
Plainly l i [] = Unit {0}
Plainly l i (e ∷ es) =
    (e.number ≡ (predict l i e.call).number)
    × (e.values ≡ (predict l i e.call).values)
    × (is_lent e.call ≡ 0)
    × Plainly l (predict l i e.call).state es

plainly : (l : Lengths) (i : Ideal) (es : List Event) → Plainly l i es → Answered l i es
unfolding Plainly demand3.Answered
plainly l i [] p = tt
plainly l i (e ∷ es) p = (
  record {
    number = p.0;
    values = λ f. p.1;
    answered_walk = λ cursor lent c z. absurd (no_scan p.2 c);
    refused_walk = λ cursor lent c f. absurd (no_scan p.2 c);
    answered_pass = λ place lent c z. absurd (no_iterate p.2 c);
    refused_pass = λ place lent c f. absurd (no_iterate p.2 c);
  },
  plainly l (predict l i e.call).state es p.3,
)

-- the three steps
abbrev whole_rehash : List Event
whole_rehash = events moves_quietly (started 4) (three_keys (Call.rehash_step ∷ Call.rehash_step ∷ []))

pub moves_quietly_answers : Answered (lengths_of zeros) (started_ideal 4) whole_rehash
unfolding computing moves_quietly lying Plainly
moves_quietly_answers =
    plainly (lengths_of zeros) (started_ideal 4) whole_rehash
    (refl, refl, refl, (refl, refl, refl, (refl, refl, refl, (refl, refl, refl, (refl, refl, refl, (refl, refl, refl, (refl, refl, refl, tt)))))))
