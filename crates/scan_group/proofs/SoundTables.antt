-- What a sound state says of the current and the other bucket buffer, whichever they are.
-- Assumes nothing.
use Rattle.std.proofs.Common.{◌≡◌, ℕ, Bool, true, false, cond, List, length, refl}
use Rattle.model.specs.declared.State.{State}
use Rattle.model.proofs.Soundness.{Sound}
use Rattle.memory.specs.Lent.{sound_lent}
use Rattle.memory.proofs.Tested.{lent_first, lent_second}

pub sound_at : (s : State) (first second entries current other : List ℕ) → current ≡ cond s.second_is_current second first
    → other ≡ cond s.second_is_current first second → sound_lent (length first) (length second) (length entries) s ≡ true
    → Sound s (length current) (length other) (length entries)
sound_at s first second entries current other c o h = rw (c, o) (pick s.second_is_current refl)
  where
    pick : (flag : Bool) → s.second_is_current ≡ flag
        → Sound s (length (cond flag second first)) (length (cond flag first second)) (length entries)
    pick true f = lent_second s _ _ _ h f
    pick false f = lent_first s _ _ _ h f
