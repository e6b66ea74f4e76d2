-- A lookup from its parts: one table by its numbers, then both.
-- Assumes nothing.
use Prim.Native.Nat.{ℕ}
use mathlib.Core.Path.{◌≡◌, refl, sym, ap, ap₂, ◌∙◌}
use mathlib.Core.Bool.{Bool, true, false}
use mathlib.Core.List.{List}
use Rattle.model.specs.declared.State.{State}
use Rattle.model.specs.declared.Table.{Table}
use Rattle.model.specs.declared.Lookup.{Lookup}
use Rattle.model.specs.Keys.{bucket_of}
use Rattle.model.specs.Memory.{size_of, used_of, buckets_of, key_place, head_at, budget_at, belongs, chain_at}
use Rattle.model.specs.Calls.{searched, lookup_in, both, lookup_while, lookup}
use Rattle.memory.specs.Length.{bucket_chain}
use Rattle.search.specs.Tables.{searched_in}

-- in one table, once the bucket is known
pub looked_in : (entries : List ℕ) (capacity used : ℕ) (buckets : List ℕ) (size key b : ℕ) (t : Table) (r : Lookup)
    → b ≡ bucket_of key size
    → r ≡ searched entries key t 0 (bucket_chain size entries capacity used buckets b)
    → r ≡ searched_in entries capacity used buckets size key t
unfolding searched_in
looked_in entries capacity used buckets size key b t r e h = rw e at h

module _ (s : State) (current other entries : List ℕ) (key : ℕ) where
  -- a table's numbers are the state's
  in_table : (t : Table)
      → searched_in entries s.capacity (used_of s t) (buckets_of current other t) (size_of s t) key t
      ≡ lookup_in s current other entries key t
  unfolding searched_in lookup_in chain_at key_place head_at budget_at belongs
  in_table t = refl

  -- the old table's is the lookup ..
  pub lookup_resting : s.rehashing ≡ false
      → searched_in entries s.capacity s.old_used current s.old_size key Table.Old
      ≡ lookup s current other entries key
  unfolding lookup lookup_while used_of size_of buckets_of
  lookup_resting e =
      in_table Table.Old ∙ ap (λ (t : Bool). lookup_while t s current other entries key) (sym e)

  -- .. and during a rehash both
  pub lookup_rehashing : s.rehashing ≡ true
      → both (searched_in entries s.capacity s.old_used current s.old_size key Table.Old)
      (searched_in entries s.capacity s.new_used other s.new_size key Table.New)
      ≡ lookup s current other entries key
  unfolding lookup lookup_while used_of size_of buckets_of
  lookup_rehashing e =
      ap₂ both (in_table Table.Old) (in_table Table.New)
      ∙ ap (λ (t : Bool). lookup_while t s current other entries key) (sym e)

  -- the same, as the code has them
  module _ (old : Lookup)
      (o : old ≡ searched_in entries s.capacity s.old_used current s.old_size key Table.Old) where
    pub looked_up_resting : s.rehashing ≡ false → old ≡ lookup s current other entries key
    looked_up_resting e = o ∙ lookup_resting e

    pub looked_up_rehashing : (new r : Lookup) → s.rehashing ≡ true
        → new ≡ searched_in entries s.capacity s.new_used other s.new_size key Table.New → r ≡ both old new
        → r ≡ lookup s current other entries key
    looked_up_rehashing new r e n h = (rw (o, n) at h) ∙ lookup_rehashing e
