-- Over a sequence of calls: each answers as predicted and keeps the store in agreement with the ideal, and so demand 3 holds.
-- Assumes nothing.
use mathlib.Core.Path.{◌≡◌, refl, sym, ap, subst, ◌∙◌}
use mathlib.Core.Bool.{Bool, true, false}
use mathlib.Core.List.{List, [], ◌∷◌}
use lib.ListN.{length}
use Rattle.model.specs.Answers.{Reply, reply}
use Rattle.model.specs.Sequences.{World, Call, perform, carry, run, event, events}
use Rattle.refinement.specs.Worlds.{UndamagedAt}
use Rattle.refinement.specs.Demand3.{Lengths, lengths_of, Ideal, predict, replay, AsPredicted, Answered, Matches, SequenceHolds}
use Rattle.model.proofs.Tests.{true_not_false}
use Rattle.invariant.proofs.Shape.{facts}
use Rattle.refinement.proofs.Refusals.{scan_keeps, iterate_keeps}
use Rattle.refinement.proofs.Lengths.{lengths_kept}
use Rattle.refinement.proofs.GroupEntries.{hands_out}
use Rattle.refinement.proofs.WalkCalls.{scan_predicted}
use Rattle.refinement.proofs.PassCalls.{iterates_out, iterate_predicted}
use Rattle.refinement.proofs.IdealSteps.{any_hand}
use Rattle.refinement.proofs.Agreement.{Agrees, Steps, agrees_undamaged, agrees_matches, matches_agrees}
use Rattle.refinement.proofs.GrownKeys.{on_steps}
use Rattle.refinement.proofs.TableSteps.{init_steps, resize_steps, read_steps, look_values, note_steps}
use Rattle.refinement.proofs.RehashSteps.{step_steps}
use Rattle.refinement.proofs.LiveTables.{Legal, tables_legal}
use Rattle.refinement.proofs.Walks.{walks_hold}

-- one call: it answers so, and the store agrees with the ideal after it
record Predicted (l : Lengths) (w : World) (i : Ideal) (c : Call) : Type 0 where
  answers : AsPredicted l i (event c (perform w c))
  agrees : Agrees (carry w (perform w c)) (predict l i c).state

-- walk calls and those that iterate are lent a list, and hand out pairs
unfoldable lent_list : Call → Bool
lent_list (Call.init capacity size) = false
lent_list (Call.on key c) = false
lent_list (Call.resize size) = false
lent_list Call.rehash_step = false
lent_list (Call.scan cursor lent) = true
lent_list (Call.iterate place lent) = true
lent_list (Call.read c) = false
lent_list (Call.note c) = false

-- any other call
plain : (l : Lengths) (w : World) (i : Ideal) (c : Call) → Steps w c (predict l i c) → lent_list c ≡ false → Predicted l w i c
unfolding event lent_list
plain l w i c s none =
    record {
      answers =
          record {
            number = s.number;
            values = s.values;
            answered_walk = λ cursor lent e z. absurd (no _ refl e);
            refused_walk = λ cursor lent e z. absurd (no _ refl e);
            answered_pass = λ place lent e z. absurd (no _ refl e);
            refused_pass = λ place lent e z. absurd (no _ refl e);
          };
      agrees = s.agrees;
    }
  where
    no : (d : Call) → lent_list d ≡ true → c ≡ d → ⊥
    no d t e = true_not_false (sym t ∙ sym (ap lent_list e) ∙ none)

module _ (w : World) (i : Ideal) (a : Agrees w i) (l : Lengths) (same : lengths_of w ≡ l) where
  -- one that is lent a list leaves the world and the ideal
  handed : (c : Call) → AsPredicted l i (event c (perform w c)) → carry w (perform w c) ≡ w → (predict l i c).state ≡ i
      → Predicted l w i c
  handed c answers kept left = record { answers = answers; agrees = rw (kept, left) a }

  any_call : (c : Call) → Predicted l w i c
  unfolding predict reply lent_list
  any_call (Call.init capacity size) = plain l w i _ (init_steps w i a l same capacity size) refl
  any_call (Call.on key c) = plain l w i _ (on_steps w i a key c l same) refl
  any_call (Call.resize size) = plain l w i _ (resize_steps w i a l same size) refl
  any_call Call.rehash_step = plain l w i _ (step_steps w i a l) refl
  any_call (Call.scan cursor lent) =
      handed (Call.scan cursor lent)
      (scan_predicted l w i (agrees_undamaged w i a) (agrees_matches w i a l same) cursor lent) (scan_keeps w cursor lent)
      (any_hand i (λ (r : Reply Ideal). r.state ≡ i) _ _ (length lent) refl refl)
  any_call (Call.iterate place lent) =
      handed (Call.iterate place lent)
      (iterate_predicted l w i (agrees_undamaged w i a) (agrees_matches w i a l same) place lent) (iterate_keeps w place lent)
      (any_hand i (λ (r : Reply Ideal). r.state ≡ i) _ _ (length lent) refl refl)
  any_call (Call.read c) = plain l w i _ (read_steps w i a l c) refl
  any_call (Call.note c) = plain l w i _ (note_steps w i a l c) refl

-- along the calls, and at their end
record Kept (l : Lengths) (w : World) (i : Ideal) (calls : List Call) : Type 0 where
  at_end_lem : Agrees (run perform w calls) (replay l i calls)
  lengths : lengths_of (run perform w calls) ≡ l
  answered : Answered l i (events perform w calls)

kept : (calls : List Call) (l : Lengths) (w : World) (i : Ideal) → Agrees w i → lengths_of w ≡ l → Kept l w i calls
unfolding run events replay Answered event
kept [] l w i a same = record { at_end_lem = a; lengths = same; answered = tt }
kept (c ∷ calls) l w i a same =
    let p = any_call w i a l same c in
    let rest = kept calls l (carry w (perform w c)) (predict l i c).state p.agrees (lengths_kept w c ∙ same) in
    record { at_end_lem = rest.at_end_lem; lengths = rest.lengths; answered = (p.answers, rest.answered) }

-- the ideal's tables are the store's, and so legal
agrees_legal : (w : World) (i : Ideal) → Agrees w i → Legal i.tables
agrees_legal w i a = subst Legal a.tables (tables_legal w.state _ _ _ (facts a.shape))

pub matches_legal : (l : Lengths) (w : World) (i : Ideal) → UndamagedAt w → Matches l w i → Legal i.tables
matches_legal l w i undamaged matches = agrees_legal w i (matches_agrees l w i undamaged matches)

pub sequence_holds : (l : Lengths) (w : World) (i : Ideal) (calls : List Call) → Agrees w i → lengths_of w ≡ l
    → SequenceHolds perform l w i calls
sequence_holds l w i calls a same =
    let k = kept calls l w i a same in
    let last = run perform w calls in
    let u = agrees_undamaged last (replay l i calls) k.at_end_lem in
    record {
      undamaged = u;
      matches = agrees_matches last (replay l i calls) k.at_end_lem l k.lengths;
      answers = k.answered;
      walks = walks_hold l i (events perform w calls) (agrees_legal w i a) k.answered;
      exact = hands_out last u;
      exact_pass = iterates_out last u;
      look = look_values last (replay l i calls) k.at_end_lem;
    }
