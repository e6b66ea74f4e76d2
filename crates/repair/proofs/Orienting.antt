-- The call on the lent buffers, from the repair of the current and the other one.
-- Assumes nothing.
use Rattle.std.proofs.Common.{◌≡◌, ℕ, true, false, List, length, refl, Ok}
use Rattle.model.specs.declared.State.{State}
use Rattle.model.specs.Calls.{After}
use Rattle.model.specs.Repair.{repair}
use Rattle.memory.specs.Lent.{sound_lent}
use Rattle.memory.proofs.Orientation.{writing_sound, written_first, written_second}
use Rattle.repair_passes.specs.Passes.{repaired_store}
use Rattle.repair_passes.proofs.Staged.{answered}

module _ (s : State) (first second entries : List ℕ) (h : sound_lent (length first) (length second) (length entries) s ≡ true) (q : State)
    (c o e : List ℕ) where
  pub repair_first : s.second_is_current ≡ false → After.after q c o e ≡ repaired_store s first second entries
      → After.after (Ok q) c o e ≡ repair s first second entries
  unfolding repair
  repair_first f a =
      writing_sound s first second entries _ refl _ _ _ h (written_first _ _ first second (Ok q) c o e f (answered s first second entries c o e q a))

  pub repair_second : s.second_is_current ≡ true → After.after q c o e ≡ repaired_store s second first entries
      → After.after (Ok q) o c e ≡ repair s first second entries
  unfolding repair
  repair_second f a =
      writing_sound s first second entries _ refl _ _ _ h (written_second _ _ first second (Ok q) c o e f (answered s second first entries c o e q a))
