-- What a safe iterator hands out: so it is in every store that meets demand 3, and in ours.
-- Assumes nothing.
use Rattle.model.specs.Sequences.{World, Call, Outcome, perform, events}
use Rattle.refinement.specs.Demand3.{Demand3}
use Rattle.refinement.specs.SafeIterators.{SafeIterators}
use Rattle.refinement.proofs.PassMoments.{passes_hold}
use Rattle.refinement.proofs.Histories.{matches_legal}
use Rattle.refinement.proofs.Demand3.{demand3}

pub demand3_passes : (does : World → Call → Outcome) → Demand3 does → SafeIterators does
demand3_passes does d =
    record {
      passes =
          λ l w i undamaged matches calls.
          passes_hold l i (events does w calls) (matches_legal l w i undamaged matches)
          (d.onward l w i undamaged matches calls).answers;
    }

pub safe_iterators : SafeIterators perform
safe_iterators = demand3_passes perform demand3
