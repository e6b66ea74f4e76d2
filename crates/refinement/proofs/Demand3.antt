-- Demand 3 holds of the calls as model defines them; and what it says of a sequence that begins with a start.
-- Assumes nothing.
use Prim.Native.Nat.{ℕ}
use mathlib.Core.Path.{◌≡◌}
use mathlib.Core.List.{List}
use Rattle.model.specs.Sequences.{World, Call, Outcome, perform, carry}
use Rattle.refinement.specs.Demand3.{lengths_of, begun, SequenceHolds, Demand3}
use Rattle.refinement.proofs.Lengths.{lengths_kept}
use Rattle.refinement.proofs.Agreement.{agrees_undamaged, agrees_matches, matches_agrees}
use Rattle.refinement.proofs.TableSteps.{init_number, init_values, init_agrees}
use Rattle.refinement.proofs.Histories.{sequence_holds}

pub demand3 : Demand3 perform
demand3 =
    record {
      starts =
          λ w capacity size.
          let c = Call.init capacity size in
          let v = carry w (perform w c) in
          record {
            number = init_number w capacity size;
            values = init_values w capacity size;
            undamaged = λ answered. agrees_undamaged v (begun capacity size) (init_agrees w capacity size answered);
            matches =
                λ answered.
                agrees_matches v (begun capacity size) (init_agrees w capacity size answered) (lengths_of w) (lengths_kept w c);
          };
      onward =
          λ l w i undamaged matches calls.
          sequence_holds l w i calls (matches_agrees l w i undamaged matches) matches.lengths;
    }

-- after a start answered 0, whatever the calls
pub from_a_start : (does : World → Call → Outcome) → Demand3 does → (w : World) (capacity size : ℕ)
    → (does w (Call.init capacity size)).reply.number ≡ 0 → (calls : List Call)
    → SequenceHolds does (lengths_of w) (carry w (does w (Call.init capacity size))) (begun capacity size) calls
from_a_start does d w capacity size answered =
    let s = d.starts w capacity size in
    d.onward (lengths_of w) (carry w (does w (Call.init capacity size))) (begun capacity size) (s.undamaged answered)
    (s.matches answered)
