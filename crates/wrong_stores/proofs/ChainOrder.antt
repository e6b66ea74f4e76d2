-- No statement fixes the order of a chain: by Reordered it is nothing to `undamaged` and `matches`; `answers` and `walks` do
-- not look at the memory, and `exact`, `exact_pass` and `look` say what lies in it. So an add at the end of the chain and a
-- find that reorders it are excluded by what the call itself promises alone, its equation with its definition; besides, a
-- find is lent its buffers for reading only. Here: demand 1 holds of both stores as of ours, demand 3 too at a history at
-- which they differ from ours; and that they differ.
-- Assumes nothing.
use Prim.Native.Nat.{ℕ, zero, suc}
use mathlib.Core.Path.{◌≡◌, refl, ◌∙◌}
use mathlib.Core.Bool.{Bool, true, false}
use mathlib.Core.Logic.{◌⊎◌, inl, inr}
use mathlib.Core.List.{List, [], ◌∷◌}
use lib.ListN.{get_or, take, replicate}
use native.Mathlib.Omega.{arith}
use borrow.Author.Tests.{eqb-false}
use Rattle.model.specs.declared.Table.{Table}
use Rattle.model.specs.Memory.{set_link, Place, Live}
use Rattle.model.specs.declared.State.{State}
use Rattle.model.specs.Answers.{Reply}
use Rattle.model.specs.Calls.{oriented, back, changed, old_new, empty_state, recounted, noted}
use Rattle.model.specs.Sequences.{World, world, ReadCall, Call, Outcome, left, perform, run, Event, events}
use Rattle.refinement.specs.Worlds.{current, UndamagedAt}
use Rattle.refinement.specs.Demand1.{Demand1}
use Rattle.refinement.specs.Demand2.{HandsOut, IteratesOut}
use Rattle.refinement.specs.Demand3.{lengths_of, replay, Matches, SequenceHolds}
use Rattle.refinement.proofs.Demand1.{demand1}
use Rattle.refinement.proofs.Demand2.{demand2}
use Rattle.refinement.proofs.Demand3.{demand3}
use Rattle.model.proofs.Fields.{key_set_link, value_set_link}
use Rattle.wrong_stores.specs.OneCall as one
use Rattle.wrong_stores.specs.OneCall.{but_add, but_find, if_done}
use Rattle.wrong_stores.specs.KeyCalls as wrong
use Rattle.wrong_stores.specs.KeyCalls.{relinked, reordering, adds_at_end, finds_to_front}
use Rattle.wrong_stores.proofs.Start.{zeros, computing, alike, started, reached, started_ideal, find, add, at, apart}
use Rattle.wrong_stores.proofs.Reordered.{SameAt, Reordered, reordered_undamaged, reordered_matches}
use Rattle.wrong_stores.proofs.SameNumbers.{Near, near_demand1, near_done, near_keys}

-- Two keys in one bucket: ours has the second before the first.

abbrev two_keys : List Call
two_keys = add 1 10 ∷ add 2 20 ∷ []

ours : World
ours =
    world (noted (recounted (empty_state 1 1 3) 3 (old_new 2 0)) false 0) (2 ∷ replicate 15 0) (replicate 16 0)
    (0 ∷ 1 ∷ 10 ∷ 1 ∷ 2 ∷ 20 ∷ 0 ∷ 0 ∷ 0 ∷ [])

-- the first before the second
turned : World
turned = world ours.state (1 ∷ replicate 15 0) ours.second (set_link (set_link ours.entries 2 0) 1 2)

swap : {A B : Type 0} → A ⊎ (B ⊎ ⊥) → B ⊎ (A ⊎ ⊥)
swap (inl a) = inr (inl a)
swap (inr (inl b)) = inl b
swap (inr (inr i)) = elim i [ ]

turned_places : (p : Place) → Live ours.state p → SameAt ours turned p
unfolding computing ours turned
turned_places Place.free live = record { there = λ n h. h; back = λ n h. h; sound = refl; as_many = refl }
turned_places (Place.bucket Table.Old zero) live =
    record { there = λ n. swap; back = λ n. swap; sound = refl; as_many = refl }
turned_places (Place.bucket Table.Old (suc b)) live = absurd (omega arith)
turned_places (Place.bucket Table.New b) live = absurd (omega arith)

turned_empty : (b : ℕ) → get_or (current ours) b 0 ≡ 0 → get_or (current turned) b 0 ≡ 0
unfolding computing ours turned
turned_empty zero h = absurd (eqb-false 2 0 refl h)
turned_empty (suc b) h = h

turned_reordered : Reordered ours turned
unfolding computing ours turned
turned_reordered =
    record {
      places = turned_places;
      empty = turned_empty;
      key = λ n. key_set_link (set_link ours.entries 2 0) 1 n 2 ∙ key_set_link ours.entries 2 n 0;
      value = λ n. value_set_link (set_link ours.entries 2 0) 1 n 2 ∙ value_set_link ours.entries 2 n 0;
      current_length = refl;
      other_length = refl;
      lengths = refl;
    }

-- Say that a store leaves them so, after calls that to an onlooker are as with ours, and that its walk calls, calls that
-- iterate and looks are ours. Then demand 3 holds of it at that history.

turned_look : (perform turned (Call.read ReadCall.current_table)).reply.values ≡ take turned.state.old_size (current turned)
unfolding computing ours turned
turned_look = refl

ours_holds : (calls : List Call) → SequenceHolds perform (lengths_of zeros) (started 1) (started_ideal 1) calls
unfolding computing
ours_holds calls = at demand3 1 refl calls

module _ (does : World → Call → Outcome) (calls : List Call) (left : run does (started 1) calls ≡ turned)
    (left_ours : reached 1 calls ≡ ours)
    (seen : events does (started 1) calls ≡ events perform (started 1) calls)
    (scans : (cursor : ℕ) (lent : List ℕ) → does turned (Call.scan cursor lent) ≡ perform turned (Call.scan cursor lent))
    (iterates : (place : ℕ) (lent : List ℕ) → does turned (Call.iterate place lent) ≡ perform turned (Call.iterate place lent))
    (looks : does turned (Call.read ReadCall.current_table) ≡ perform turned (Call.read ReadCall.current_table)) where
  turned_undamaged : UndamagedAt turned
  unfolding turned
  turned_undamaged = reordered_undamaged ours _ _ _ turned_reordered (rw left_ours at (ours_holds calls).undamaged)

  turned_exact : (cursor : ℕ) (lent : List ℕ) → (does turned (Call.scan cursor lent)).reply.number ≡ 0
      → HandsOut does turned cursor lent
  unfolding HandsOut
  turned_exact cursor lent done =
      scans cursor lent ∙ demand2.hands_out turned turned_undamaged cursor lent (rw scans at done)

  turned_exact_pass : (place : ℕ) (lent : List ℕ) → (does turned (Call.iterate place lent)).reply.number ≡ 0
      → IteratesOut does turned place lent
  unfolding IteratesOut
  turned_exact_pass place lent done =
      iterates place lent ∙ demand2.iterates_out turned turned_undamaged place lent (rw iterates at done)

  turned_matches : Matches (lengths_of zeros) turned (replay (lengths_of zeros) (started_ideal 1) calls)
  unfolding turned
  turned_matches = reordered_matches ours _ _ _ turned_reordered (rw left_ours at (ours_holds calls).matches)

  turned_passes : SequenceHolds does (lengths_of zeros) (started 1) (started_ideal 1) calls
  turned_passes =
      record {
        undamaged = rw left turned_undamaged;
        matches = rw left turned_matches;
        answers = rw seen (ours_holds calls).answers;
        walks = λ visits ended walk. (ours_holds calls).walks visits ended (rw seen at walk);
        exact = rw left turned_exact;
        exact_pass = rw left turned_exact_pass;
        look = rw (left, looks) turned_look;
      }

-- a call answered 0, with those values
abbrev answered : Call → List ℕ → Event
answered c values = record { call = c; number = 0; values = values; lent = [] }

pub adds_at_end_passes : SequenceHolds adds_at_end (lengths_of zeros) (started 1) (started_ideal 1) two_keys
unfolding computing adds_at_end reordering relinked wrong.head wrong.to_end ours turned
adds_at_end_passes =
    turned_passes adds_at_end two_keys refl refl (alike (answered (add 1 10) [] ∷ answered (add 2 20) [] ∷ []) refl refl)
    (λ cursor lent. refl) (λ place lent. refl) refl

pub finds_to_front_passes : SequenceHolds finds_to_front (lengths_of zeros) (started 1) (started_ideal 1) (add 1 10 ∷ add 2 20 ∷ find 1 ∷ [])
unfolding computing finds_to_front reordering relinked wrong.head wrong.to_front ours turned
finds_to_front_passes =
    turned_passes finds_to_front (add 1 10 ∷ add 2 20 ∷ find 1 ∷ []) refl refl
    (alike (answered (add 1 10) [] ∷ answered (add 2 20) [] ∷ answered (find 1) (10 ∷ []) ∷ []) refl refl) (λ cursor lent. refl)
    (λ place lent. refl) refl

-- Demand 1.

changed_reply : (second : Bool) (t : Table) (r : Reply State) (buckets entries : List ℕ → List ℕ → List ℕ) (x y : List ℕ)
    → (left (λ r. r) (back second (oriented second (λ c o. changed t r c o (buckets c o) (entries c o)) x y))).reply ≡ r
unfolding left back oriented changed
changed_reply false Table.Old r buckets entries x y = refl
changed_reply false Table.New r buckets entries x y = refl
changed_reply true Table.Old r buckets entries x y = refl
changed_reply true Table.New r buckets entries x y = refl

reordering_near : (key : ℕ) (order : List ℕ → List ℕ) (o : Outcome) → Near (if_done (reordering key order o) o) o
unfolding reordering if_done
reordering_near key order o = near_done (reordering key order o) o (changed_reply _ _ o.reply _ _ _ _) _ refl

pub adds_at_end_demand1 : Demand1 adds_at_end
unfolding adds_at_end but_add one.none
adds_at_end_demand1 =
    near_demand1 adds_at_end
    (near_keys _ _ _ _ (λ key w o. inl refl) (λ key value w o. inl refl) (λ key value w o. reordering_near key _ o)
    (λ key w o. inl refl))
    demand1

pub finds_to_front_demand1 : Demand1 finds_to_front
unfolding finds_to_front but_find one.none
finds_to_front_demand1 =
    near_demand1 finds_to_front
    (near_keys _ _ _ _ (λ key w o. reordering_near key _ o) (λ key value w o. inl refl) (λ key value w o. inl refl)
    (λ key w o. inl refl))
    demand1

-- What excludes them: they leave another head in the bucket than the definitions of the calls say.

pub adds_at_end_excluded : ((w : World) (c : Call) → adds_at_end w c ≡ perform w c) → ⊥
unfolding computing adds_at_end reordering relinked wrong.head wrong.to_end
adds_at_end_excluded same =
    apart (λ (o : Outcome). get_or o.first 0 0) _ _ refl (same (reached 1 (add 1 10 ∷ [])) (add 2 20))

pub finds_to_front_excluded : ((w : World) (c : Call) → finds_to_front w c ≡ perform w c) → ⊥
unfolding computing finds_to_front reordering relinked wrong.head wrong.to_front ours
finds_to_front_excluded same = apart (λ (o : Outcome). get_or o.first 0 0) _ _ refl (same ours (find 1))
