-- Writing the pairs of some chains to the lent list: what it asks, and what it leaves.
use Rattle.std.specs.Prelude.{ℕ, ◌*◌, ◌≤◌, ◌≡◌, List, ◌++◌, length, drop}
use Rattle.std.proofs.Math.Option.{Option, some}
use Rattle.model.specs.Memory.{listed}
use Rattle.model.specs.Walk.{pairs}

-- the chains end, and there are two places for each entry
pub record Writable (list : List ℕ) (read : Option (List ℕ)) : Type 0 where
  pub sound : read ≡ some (listed read)
  pub fits : length (listed read) * 2 ≤ length list

-- the pairs at the front, and then what was there
abbrev pub written : List ℕ → List ℕ → Option (List ℕ) → List ℕ
written entries list read = pairs entries (listed read) ++ drop (length (listed read) * 2) list
