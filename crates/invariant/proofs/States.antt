-- The states that a call may leave: what makes one sound again, and which places and buckets they share.
-- Assumes nothing.
use Prim.Native.Nat.{ℕ, ◌+◌, ◌≤◌}
use mathlib.Core.Path.{◌≡◌, ap, ◌∙◌}
use mathlib.Core.Bool.{true, false}
use mathlib.Core.List.{List}
use native.Mathlib.Omega.{arith}
use lib.ListN.{length}
use Rattle.model.specs.declared.State.{State}
use Rattle.model.specs.declared.Table.{Table}
use Rattle.model.specs.Keys.{bucket_of}
use Rattle.model.specs.Limits.{legal_size, most_safe_iterators}
use Rattle.model.specs.Memory.{Place, Live, size_of, sound_state}
use Rattle.model.specs.Calls.{sound}
use Rattle.model.proofs.Soundness.{Resting, Rehashing, Sound, sound_test}
use Rattle.invariant.proofs.Shape.{Home}

-- as sound as before, but for the old table, the counts, the free head and the safe iterators
pub sound_again : {s : State} {current other entries : ℕ} (s' : State) (current' other' entries' : List ℕ)
    → Sound s current other entries → s'.capacity ≡ s.capacity → length entries' ≡ entries
    → legal_size s'.old_size ≡ true → s'.old_size ≤ length current' → s'.old_used + s'.new_used ≤ s.capacity
    → s'.free_head ≤ s.capacity → s'.safe_iterators ≤ most_safe_iterators → (s'.rehashing ≡ true → Rehashing s' (length other'))
    → (s'.rehashing ≡ false → Resting s')
    → sound_state (length current') (length other') (length entries') s' ≡ true
unfolding sound
sound_again s' current' other' entries' before capacity entries legal fits used free iterators rehashing resting =
    sound_test s' current' other' entries'
    (record {
      some_entries = omega (arith, before.some_entries);
      capacity_limit = omega (arith, before.capacity_limit);
      entries_fit = omega (arith, before.entries_fit);
      old_legal = legal;
      old_fits = fits;
      used_fits = omega arith;
      free_fits = omega arith;
      iterators_fit = iterators;
      resting = resting;
      rehashing = rehashing;
    })

-- states with the same sizes: the same places are live, and a key calls for the same buckets

module _ (s s' : State) (same : (t : Table) → size_of s' t ≡ size_of s t) where
  pub live_kept : (p : Place) → Live s p → Live s' p
  unfolding Live
  live_kept Place.free h = h
  live_kept (Place.bucket t b) h = omega (arith, same t)

  pub home_kept : (key : ℕ) (p : Place) → Home s key p → Home s' key p
  unfolding Home
  home_kept key Place.free h = h
  home_kept key (Place.bucket t b) h = ap (bucket_of key) (same t) ∙ h
