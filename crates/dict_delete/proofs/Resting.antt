-- What a delete comes to with no rehash under way: in the only table, then on the lent buffers.
-- Assumes nothing.
use Prim.Native.Nat.{ℕ, ◌*◌, ◌-◌, ◌≤◌, ◌<◌}
use mathlib.Core.Path.{◌≡◌, refl, sym, ◌∙◌}
use mathlib.Core.Bool.{false}
use mathlib.Core.List.{List, []}
use native.Mathlib.Omega.{arith}
use lib.ListN.{length}
use Rattle.model.specs.declared.State.{State}
use Rattle.model.specs.declared.Table.{Table}
use Rattle.model.specs.declared.Error.{Error}
use Rattle.model.specs.declared.Lookup.{Lookup}
use Rattle.model.specs.Keys.{bucket_of}
use Rattle.model.specs.Memory.{set_entry}
use Rattle.model.specs.Calls.{After, recounted, with_count, lookup, held, unlink_bucket, unlink_entry, deleted}
use Rattle.model.proofs.Soundness.{Sound}
use Rattle.model.proofs.Tests.{true_not_false}
use Rattle.model.proofs.Lookups.{Located, located}
use Rattle.search.specs.Tables.{searched_in, Readable}
use Rattle.search.proofs.Lookups.{lookup_resting}
use Rattle.dict_delete.proofs.Removing.{old_removable, old_used, removed_old, deleted_by}
use Rattle.std.specs.Prelude.{Ok, Err}

module _ (s : State) (current entries : List ℕ) (key : ℕ) (rests : s.rehashing ≡ false) (at : Lookup)
    (g : at ≡ searched_in entries s.capacity s.old_used current s.old_size key Table.Old) where
  met : (other : List ℕ) → at ≡ lookup s current other entries key
  met other = g ∙ lookup_resting s current other entries key rests

  pub in_damaged : at ≡ Lookup.Damaged → (other : List ℕ)
      → After.after (Err Error.Damaged) current other entries
      ≡ deleted s current other entries key (lookup s current other entries key)
  unfolding deleted held
  in_damaged a other = deleted_by s current other entries key at Lookup.Damaged _ (met other) a refl

  pub in_absent : at ≡ Lookup.Absent → (other : List ℕ)
      → After.after (Err Error.Absent) current other entries
      ≡ deleted s current other entries key (lookup s current other entries key)
  unfolding deleted held
  in_absent a other = deleted_by s current other entries key at Lookup.Absent _ (met other) a refl

  module _ (t : Table) (before n : ℕ) (a : at ≡ Lookup.At t before n) where
    place : Located s t before n
    place = located s current [] entries key at t before n (met []) a

    in_old : t ≡ Table.Old
    in_old = by t refl
      where
        by : (u : Table) → t ≡ u → u ≡ Table.Old
        by Table.Old e = refl
        by Table.New e = absurd (true_not_false (sym (place.rehashing_new e) ∙ rests))

    module _ (h : Sound s (length current) 0 (length entries)) where
      pub in_readable : Readable s.old_size (length current) n (length entries)
      in_readable = old_removable s (length current) 0 (length entries) t before n h place

      pub in_before : before * 3 ≤ length entries
      in_before = let l = place in omega (arith, l.before_fits, h.entries_fit)

    pub in_entry : 0 < n
    in_entry = place.entry_some

    pub in_used : 1 ≤ s.old_used
    in_used = old_used s t before n place in_old

    pub in_removed : (b z : List ℕ) → b ≡ unlink_bucket current entries (bucket_of key s.old_size) before n
        → z ≡ set_entry (unlink_entry entries before n) n s.free_head 0 0 → (other : List ℕ)
        → After.after (Ok (recounted s n (with_count s Table.Old (s.old_used - 1)))) b other z
        ≡ deleted s current other entries key (lookup s current other entries key)
    unfolding deleted held
    in_removed b z be ze other =
        deleted_by s current other entries key at (Lookup.At t before n) _ (met other) a
        (removed_old s current other entries key t before n b z ze in_old be)
