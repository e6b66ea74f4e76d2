-- The live tables of a sound state can be read: on the current and the other buffer, and on the lent ones.
-- Assumes nothing.
use Prim.Native.Nat.{ℕ}
use mathlib.Core.Path.{◌≡◌, refl, sym}
use mathlib.Core.Bool.{true, false, cond}
use Rattle.model.specs.declared.State.{State}
use Rattle.model.proofs.Soundness.{Sound, tested_sound}
use Rattle.memory.specs.Lent.{sound_lent}
use Rattle.memory.proofs.Tested.{lent_first, lent_second}
use Rattle.search.specs.Tables.{Readable}

module _ (s : State) (current other entries : ℕ) (h : Sound s current other entries) where
  pub old_readable : Readable s.old_size current s.capacity entries
  old_readable = record { size_legal = h.old_legal; buckets_fit = h.old_fits; entries_fit = h.entries_fit }

  pub new_readable : s.rehashing ≡ true → Readable s.new_size other s.capacity entries
  new_readable e =
      let r = h.rehashing e in
      record { size_legal = r.new_legal; buckets_fit = r.new_fits; entries_fit = h.entries_fit }

module _ (s : State) (first second entries : ℕ) (h : sound_lent first second entries s ≡ true) where
  pub old_first : s.second_is_current ≡ false → Readable s.old_size first s.capacity entries
  old_first f = old_readable s first second entries (lent_first s first second entries h f)

  pub old_second : s.second_is_current ≡ true → Readable s.old_size second s.capacity entries
  old_second f = old_readable s second first entries (lent_second s first second entries h f)

  -- the same by the flag as it is
  by_flag : Sound s (cond s.second_is_current second first) (cond s.second_is_current first second) entries
  unfolding sound_lent
  by_flag = tested_sound s _ _ entries true (sym h) refl

  pub old_lent : Readable s.old_size (cond s.second_is_current second first) s.capacity entries
  old_lent = old_readable s _ _ entries by_flag

  pub new_lent : s.rehashing ≡ true → Readable s.new_size (cond s.second_is_current first second) s.capacity entries
  new_lent e = new_readable s _ _ entries by_flag e
