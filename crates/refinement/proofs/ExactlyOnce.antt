-- How often a walk hands out a key, and the keys that come later: so it is in every store that meets demand 3, and in ours.
-- Assumes nothing.
use Rattle.model.specs.Sequences.{World, Call, Outcome, perform, events}
use Rattle.refinement.specs.Demand3.{Demand3}
use Rattle.refinement.specs.ExactlyOnce.{ExactlyOnce}
use Rattle.refinement.proofs.HandOuts.{hand_outs}
use Rattle.refinement.proofs.Histories.{matches_legal}
use Rattle.refinement.proofs.Demand3.{demand3}

pub demand3_once : (does : World → Call → Outcome) → Demand3 does → ExactlyOnce does
demand3_once does d =
    record {
      walks =
          λ l w i undamaged matches calls.
          hand_outs l i (events does w calls) (matches_legal l w i undamaged matches)
          (d.onward l w i undamaged matches calls).answers;
    }

pub exactly_once : ExactlyOnce perform
exactly_once = demand3_once perform demand3
