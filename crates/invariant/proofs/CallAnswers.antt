-- What the calls answer in a store of a shape, each as the one case of its definition that is left.
-- Assumes nothing.
use Prim.Native.Nat.{ℕ, ◌+◌, ◌<◌}
use mathlib.Core.Path.{◌≡◌, ap, ◌∙◌}
use mathlib.Core.Logic.{◌≢◌}
use mathlib.Core.Bool.{Bool, true, false, cond}
use mathlib.Core.List.{List}
use mathlib.Core.Option.{some}
use lib.Dec.{eqb}
use borrow.Author.Tests.{eq-eqb, ne_eqb}
use Rattle.cursor.specs.Member.{In}
use Rattle.model.specs.declared.State.{State}
use Rattle.model.specs.declared.Table.{Table}
use Rattle.model.specs.declared.Error.{Error}
use Rattle.model.specs.declared.Lookup.{Lookup}
use Rattle.model.specs.declared.Ahead.{Ahead}
use Rattle.model.specs.Memory.{Place, Live, keys_held, size_of, key_of, value_of, set_value}
use Rattle.model.specs.Calls.{After, lookup, held, found, updated, takeable, target, pushed, added, removed, deleted, step_done, moved_chain, moved_from, ahead_of, step_taken, paused, stepped}
use Rattle.invariant.proofs.Shape.{IsBucket, Shape}
use Rattle.invariant.proofs.ToUndamaged.{chain_at_lem}
use Rattle.invariant.proofs.FirstEntries.{free_taken}
use Rattle.invariant.proofs.Lookups.{FoundAt, NotHeld, found_at, lookup_held, lookup_none}
use Rattle.std.specs.Prelude.{Ok, Err}

module _ {s : State} {current other entries : List ℕ} (h : Shape s current other entries) where
  module _ (key : ℕ) where
    abbrev looked : Lookup
    looked = lookup s current other entries key

    -- An entry of a live bucket has the key: the lookup finds that one. Find reads its value, update writes it, add is refused,
    -- delete takes the entry out.
    module _ (n : ℕ) (p : Place) (l : Live s p) (b : IsBucket p) (i : In n (h.at p)) (k : key_of entries n ≡ key) where
      pub find_held : found entries looked ≡ Ok (value_of entries n)
      unfolding found held
      find_held = let (t, before, e) = lookup_held h key n p l b i k in ap (found entries) e

      pub update_held : (value : ℕ)
          → updated current other entries value looked ≡ After.after (Ok tt) current other (set_value entries n value)
      unfolding updated held
      update_held value =
          let (t, before, e) = lookup_held h key n p l b i k in ap (updated current other entries value) e

      pub add_held : (value : ℕ)
          → added s current other entries key value looked ≡ After.after (Err Error.Present) current other entries
      unfolding added
      add_held value =
          let (t, before, e) = lookup_held h key n p l b i k in ap (added s current other entries key value) e

      pub delete_held : (t : Table) × (before : ℕ) × FoundAt h key t before n
          × (deleted s current other entries key looked ≡ removed s current other entries key t before n)
      unfolding deleted held
      delete_held =
          let (t, before, e) = lookup_held h key n p l b i k in
          (t, before, found_at h key t before n e, ap (deleted s current other entries key) e)

    -- No entry of a live bucket has the key: find, update and delete are refused.
    module _ (none_held : NotHeld h key) where
      pub find_absent : found entries looked ≡ Err Error.Absent
      unfolding found held
      find_absent = ap (found entries) (lookup_none h key none_held)

      pub update_absent : (value : ℕ)
          → updated current other entries value looked ≡ After.after (Err Error.Absent) current other entries
      unfolding updated held
      update_absent value = ap (updated current other entries value) (lookup_none h key none_held)

      pub delete_absent :
          deleted s current other entries key looked ≡ After.after (Err Error.Absent) current other entries
      unfolding deleted held
      delete_absent = ap (deleted s current other entries key) (lookup_none h key none_held)

      -- a new key, by whether the store is full
      add_new : (value : ℕ) (full : Bool) → eqb (s.old_used + s.new_used) s.capacity ≡ full
          → added s current other entries key value looked
          ≡ cond full (After.after (Err Error.Full) current other entries)
          (cond (takeable s entries) (pushed s current other entries key value (target s.rehashing))
          (After.after (Err Error.Damaged) current other entries))
      unfolding added keys_held
      add_new value full e =
          ap (added s current other entries key value) (lookup_none h key none_held)
          ∙ ap
          (λ (t : Bool).
          cond t (After.after (Err Error.Full) current other entries)
          (cond (takeable s entries) (pushed s current other entries key value (target s.rehashing))
          (After.after (Err Error.Damaged) current other entries)))
          e

      -- a full store refuses it
      pub add_full : (value : ℕ) → s.old_used + s.new_used ≡ s.capacity
          → added s current other entries key value looked ≡ After.after (Err Error.Full) current other entries
      add_full value f = add_new value true (eq-eqb (s.old_used + s.new_used) s.capacity f)

      -- any other takes the first free entry for it
      pub add_free : (value : ℕ) → s.old_used + s.new_used ≢ s.capacity
          → added s current other entries key value looked ≡ pushed s current other entries key value (target s.rehashing)
      add_free value f =
          add_new value false (ne_eqb (s.old_used + s.new_used) s.capacity f)
          ∙ ap
          (λ (t : Bool).
          cond t (pushed s current other entries key value (target s.rehashing))
          (After.after (Err Error.Damaged) current other entries))
          (free_taken h f).2

  -- A step goes by whether a rehash is under way, whether safe iterators hold it up, and whether the old table holds keys.

  -- with no rehash it is refused
  pub step_none : s.rehashing ≡ false
      → stepped s current other entries s.rehashing
      ≡ After.after (Err Error.NotRehashing) current other entries
  unfolding stepped
  step_none f = ap (stepped s current other entries) f

  step_rehashing : (held_up : Bool) → s.rehashing ≡ true → paused s ≡ held_up
      → stepped s current other entries s.rehashing
      ≡ cond held_up (After.after (Err Error.Paused) current other entries) (step_taken s current other entries)
  unfolding stepped
  step_rehashing held_up t e =
      ap (stepped s current other entries) t
      ∙ ap
      (λ (f : Bool).
      cond f (After.after (Err Error.Paused) current other entries) (step_taken s current other entries))
      e

  -- with a safe iterator it is refused
  pub step_paused : s.rehashing ≡ true → paused s ≡ true
      → stepped s current other entries s.rehashing ≡ After.after (Err Error.Paused) current other entries
  step_paused t e = step_rehashing true t e

  -- with none it is taken
  pub step_taken_lem : s.rehashing ≡ true → paused s ≡ false
      → stepped s current other entries s.rehashing ≡ step_taken s current other entries
  step_taken_lem t e = step_rehashing false t e

  taken_by : (empty : Bool) → eqb s.old_used 0 ≡ empty
      → step_taken s current other entries
      ≡ cond empty (After.after (step_done s 0 s.rehash_index) current other entries)
      (moved_from s current other entries (ahead_of s current))
  unfolding step_taken
  taken_by empty e =
      ap
      (λ (f : Bool).
      cond f (After.after (step_done s 0 s.rehash_index) current other entries)
      (moved_from s current other entries (ahead_of s current)))
      e

  -- with no keys in the old table it moves none
  pub step_idle : s.old_used ≡ 0
      → step_taken s current other entries ≡ After.after (step_done s 0 s.rehash_index) current other entries
  step_idle e = taken_by true (eq-eqb s.old_used 0 e)

  module _ (f : s.old_used ≢ 0) (b : ℕ) where
    -- else it goes by what comes: with as many empty buckets as it passes it moves none either
    pub step_passes : ahead_of s current ≡ Ahead.Empty b
        → step_taken s current other entries ≡ After.after (step_done s 0 b) current other entries
    unfolding moved_from
    step_passes e = taken_by false (ne_eqb s.old_used 0 f) ∙ ap (moved_from s current other entries) e

    -- and it moves the chain of the first filled bucket
    pub step_moves : ahead_of s current ≡ Ahead.Filled b → b < s.old_size
        → step_taken s current other entries
        ≡ moved_chain s current other entries b (some (h.at (Place.bucket Table.Old b)))
    unfolding moved_from Live size_of
    step_moves e live =
        taken_by false (ne_eqb s.old_used 0 f)
        ∙ ap (moved_from s current other entries) e
        ∙ ap (moved_chain s current other entries b) (chain_at_lem h (Place.bucket Table.Old b) live)
