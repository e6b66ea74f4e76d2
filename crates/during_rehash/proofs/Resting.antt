-- With no rehash under way the other buffer does not matter, nor its length: what a sound state says of the only table.
-- Assumes nothing.
use Prim.Native.Nat.{ℕ}
use mathlib.Core.Path.{◌≡◌, sym, ◌∙◌}
use mathlib.Core.Bool.{true, false}
use Rattle.model.specs.declared.State.{State}
use Rattle.model.proofs.Soundness.{Sound}
use Rattle.model.proofs.Tests.{true_not_false}
use Rattle.memory.specs.Lent.{sound_lent}
use Rattle.memory.proofs.Tested.{lent_first, lent_second}

alone_sound : (s : State) (current other entries : ℕ) → Sound s current other entries → s.rehashing ≡ false
    → Sound s current 0 entries
alone_sound s current other entries h rests =
    record {
      some_entries = h.some_entries;
      capacity_limit = h.capacity_limit;
      entries_fit = h.entries_fit;
      old_legal = h.old_legal;
      old_fits = h.old_fits;
      used_fits = h.used_fits;
      free_fits = h.free_fits;
      iterators_fit = h.iterators_fit;
      resting = h.resting;
      rehashing = λ e. absurd (true_not_false (sym e ∙ rests));
    }

module _ (s : State) (first second entries : ℕ) (h : sound_lent first second entries s ≡ true) (rests : s.rehashing ≡ false) where
  pub first_sound : s.second_is_current ≡ false → Sound s first 0 entries
  first_sound f = alone_sound s first second entries (lent_first s first second entries h f) rests

  pub second_sound : s.second_is_current ≡ true → Sound s second 0 entries
  second_sound f = alone_sound s second first entries (lent_second s first second entries h f) rests
