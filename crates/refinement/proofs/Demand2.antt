-- Demand 2 is what demand 3 says of one call; so it holds of every store that meets that, and of ours.
-- Assumes nothing.
use Prim.Native.Nat.{ℕ}
use mathlib.Core.Path.{◌≡◌, subst}
use mathlib.Core.List.{[], ◌∷◌}
use native.Mathlib.Omega.{arith}
use Rattle.model.specs.Answers.{reply}
use Rattle.model.specs.Sequences.{World, KeyCall, Call, Outcome, perform, carry, run, event, events, PlainMap, map_does}
use Rattle.refinement.specs.Worlds.{UndamagedAt, Holds}
use Rattle.refinement.specs.Demand2.{AnswersAs, Demand2}
use Rattle.refinement.specs.Demand3.{lengths_of, Ideal, ideal, key_answer, on_answer, then_grows, predict, replay, Answered, Matches, Demand3}
use Rattle.refinement.proofs.IdealSteps.{growth_plain}
use Rattle.refinement.proofs.Contents.{holds_ideal, undamaged_ideal}
use Rattle.refinement.proofs.Demand3.{demand3}

module _ (does : World → Call → Outcome) (d : Demand3 does) where
  as_the_map : (w : World) (m : PlainMap) → UndamagedAt w → Holds w m → (key : ℕ) (c : KeyCall)
      → AnswersAs does w (Call.on key c) (map_does m key c)
  unfolding run replay events event Answered predict then_grows on_answer key_answer reply ideal
  as_the_map w m undamaged holds key c =
      let (i, is, matches) = holds_ideal w m undamaged holds in
      subst (λ (n : PlainMap). AnswersAs does w (Call.on key c) (map_does n key c)) is (of_ideal i matches)
    where
      of_ideal : (i : Ideal) → Matches (lengths_of w) w i → AnswersAs does w (Call.on key c) (map_does i.plain key c)
      of_ideal i matches =
          let s = d.onward (lengths_of w) w i undamaged matches (Call.on key c ∷ []) in
          let meant = on_answer i c (map_does i.plain key c) in
          record {
            number = s.answers.0.number;
            values = s.answers.0.values (λ e. let z : ◌≡◌ {A = ℕ} 0 1 = cc in omega arith);
            undamaged = s.undamaged;
            holds =
                subst (λ (n : PlainMap). Holds (carry w (does w (Call.on key c))) n) (growth_plain (lengths_of w) c meant)
                s.matches.contents;
          }

  pub demand3_answers : Demand2 does
  unfolding run
  demand3_answers =
      record {
        as_the_map = as_the_map;
        hands_out =
            λ w undamaged.
            let (i, matches) = undamaged_ideal w undamaged in (d.onward (lengths_of w) w i undamaged matches []).exact;
        iterates_out =
            λ w undamaged.
            let (i, matches) = undamaged_ideal w undamaged in (d.onward (lengths_of w) w i undamaged matches []).exact_pass;
      }

pub demand2 : Demand2 perform
demand2 = demand3_answers perform demand3
