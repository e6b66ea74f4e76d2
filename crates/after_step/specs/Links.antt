-- An entry's link once a chain has moved.
use Rattle.std.specs.Prelude.{ℕ, ◌≡◌, List}
use Rattle.model.specs.Memory.{link_of}
use Rattle.model.specs.Calls.{Chains, moved}
use Rattle.model.proofs.Linked.{Linked, room}

-- that of entry n, once the chain from this head has moved to a table of that size
pub record LinkMoved (size head n link : ℕ) (before : Chains) : Type 0 where
  pub each : (ns : List ℕ) → Linked before.entries (room before.entries) head ns
      → link ≡ link_of (moved size ns before).entries n
