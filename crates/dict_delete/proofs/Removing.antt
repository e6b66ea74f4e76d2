-- What each step of a delete gives: the entry off its chain, what its table is known to be, the answer, and what the lookup
-- found decides.
-- Assumes nothing.
use Prim.Native.Nat.{ℕ, zero, suc, ◌-◌, ◌≤◌}
use mathlib.Core.Path.{◌≡◌, refl}
use mathlib.Core.List.{List}
use native.Mathlib.Omega.{arith}
use lib.ListN.{set}
use Rattle.model.specs.declared.State.{State}
use Rattle.model.specs.declared.Table.{Table}
use Rattle.model.specs.declared.Lookup.{Lookup}
use Rattle.model.specs.Keys.{bucket_of}
use Rattle.model.specs.Memory.{link_of, set_link, set_entry, size_of, used_of, buckets_of}
use Rattle.model.specs.Calls.{After, changed, recounted, with_count, lookup, unlink_bucket, unlink_entry, removed, deleted}
use Rattle.model.proofs.Soundness.{Sound}
use Rattle.model.proofs.Lookups.{Located}
use Rattle.search.specs.Tables.{Readable}
use Rattle.std.specs.Prelude.{Result, Ok}
use Rattle.model.specs.declared.Error.{Error}

-- The entry off its chain.

-- from the head of its bucket, the entries stay
pub head_bucket : (buckets entries : List ℕ) (b at before n next : ℕ) → next ≡ link_of entries n → before ≡ 0 → at ≡ b
    → set buckets at next ≡ unlink_bucket buckets entries b before n
unfolding unlink_bucket
head_bucket buckets entries b at before n next l z i = rw (z, i, l)

pub head_entries : (entries : List ℕ) (before n : ℕ) → before ≡ 0 → entries ≡ unlink_entry entries before n
unfolding unlink_entry set_link
head_entries entries before n z = rw z

-- from behind another, the buckets stay
pub behind_buckets : (buckets entries : List ℕ) (b before n : ℕ) → (before ≡ 0 → ⊥)
    → buckets ≡ unlink_bucket buckets entries b before n
unfolding unlink_bucket
behind_buckets buckets entries b zero n f = absurd (f refl)
behind_buckets buckets entries b (suc before) n f = refl

pub behind_entry : (entries left : List ℕ) (before n next : ℕ) → next ≡ link_of entries n → left ≡ set_link entries before next
    → left ≡ unlink_entry entries before n
unfolding unlink_entry
behind_entry entries left before n next l e = rw l at e

-- and onto the free list
pub freed : (entries left last : List ℕ) (before n free : ℕ) → left ≡ unlink_entry entries before n
    → last ≡ set_entry left n free 0 0 → last ≡ set_entry (unlink_entry entries before n) n free 0 0
freed entries left last before n free l e = rw l at e

-- The table of the entry that a lookup found.

module _ (s : State) (current other entries : ℕ) (t : Table) (before n : ℕ) (h : Sound s current other entries)
    (l : Located s t before n) where
  pub old_removable : Readable s.old_size current n entries
  old_removable = record { size_legal = h.old_legal; buckets_fit = h.old_fits; entries_fit = omega arith }

  pub new_removable : t ≡ Table.New → Readable s.new_size other n entries
  new_removable e =
      let r = h.rehashing (l.rehashing_new e) in
      record { size_legal = r.new_legal; buckets_fit = r.new_fits; entries_fit = omega arith }

module _ (s : State) (t : Table) (before n : ℕ) (l : Located s t before n) where
  pub old_used : t ≡ Table.Old → 1 ≤ s.old_used
  unfolding used_of
  old_used e = (rw e at l).used_some

  pub new_used : t ≡ Table.New → 1 ≤ s.new_used
  unfolding used_of
  new_used e = (rw e at l).used_some

-- The answer, with one key less in that table.

module _ (s : State) (current other entries : List ℕ) (key : ℕ) (t : Table) (before n : ℕ) (b e : List ℕ)
    (z : e ≡ set_entry (unlink_entry entries before n) n s.free_head 0 0) where
  pub removed_old : t ≡ Table.Old → b ≡ unlink_bucket current entries (bucket_of key s.old_size) before n
      → After.after (Ok (recounted s n (with_count s Table.Old (s.old_used - 1)))) b other e
      ≡ removed s current other entries key t before n
  unfolding removed changed buckets_of size_of used_of
  removed_old i w = rw (i, w, z)

  pub removed_new : t ≡ Table.New → b ≡ unlink_bucket other entries (bucket_of key s.new_size) before n
      → After.after (Ok (recounted s n (with_count s Table.New (s.new_used - 1)))) current b e
      ≡ removed s current other entries key t before n
  unfolding removed changed buckets_of size_of used_of
  removed_new i w = rw (i, w, z)

-- What the lookup found.

pub deleted_by : (s : State) (current other entries : List ℕ) (key : ℕ) (at v : Lookup) (r : After (Result State Error))
    → at ≡ lookup s current other entries key → at ≡ v → r ≡ deleted s current other entries key v
    → r ≡ deleted s current other entries key (lookup s current other entries key)
deleted_by s current other entries key at v r l a h = rw (← l, a) h
