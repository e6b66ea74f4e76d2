-- Every call leaves each lent buffer as long as it was.
-- Assumes nothing.
use mathlib.Core.Path.{◌≡◌}
use Rattle.model.specs.Sequences.{World, Call, perform, carry}
use Rattle.refinement.specs.Demand3.{lengths_of}
use Rattle.refinement.proofs.Demand1Calls.{good_lengths}
use Rattle.refinement.proofs.Demand1.{good}

pub lengths_kept : (w : World) (c : Call) → lengths_of (carry w (perform w c)) ≡ lengths_of w
lengths_kept w c = good_lengths (good w c)
