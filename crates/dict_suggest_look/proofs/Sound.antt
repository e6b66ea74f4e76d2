-- What a state that is sound beside the lent buffers tells of its keys and of its table.
-- Assumes nothing.
use Rattle.std.proofs.Common.{◌≡◌, ℕ, List, length, take, sym}
use lib.Seq.{length-take-le}
use Rattle.model.specs.declared.State.{State}
use Rattle.model.proofs.Soundness.{Sound, Counted}

pub counted : (s : State) (current other entries : ℕ) → Sound s current other entries → Counted s
counted s current other entries h = record { held_fit = h.used_fits; capacity_limit = h.capacity_limit }

pub table_within : (s : State) (current : List ℕ) (other entries : ℕ) → Sound s (length current) other entries
    → s.old_size ≡ length (take s.old_size current)
table_within s current other entries h = sym (length-take-le s.old_size current h.old_fits)
