-- Add keeps the shape: the first free entry goes to the head of its bucket, in the new table during a rehash.
-- Assumes nothing.
use Prim.Native.Nat.{ℕ, ◌+◌, ◌<◌}
use mathlib.Core.Path.{◌≡◌, refl, sym, ap, subst, ◌∙◌}
use mathlib.Core.Logic.{◌⊎◌, inl, inr}
use mathlib.Core.Bool.{Bool, true, false}
use mathlib.Core.List.{List, [], ◌∷◌}
use native.Mathlib.Omega.{arith}
use Rattle.cursor.specs.Member.{In}
use Rattle.model.specs.declared.State.{State}
use Rattle.model.specs.declared.Table.{Table}
use Rattle.model.specs.Memory.{Place, Live, used_of, buckets_of, keys_held, key_place, key_of, value_of}
use Rattle.model.specs.Calls.{After, push, pushed, target, changed, with_count, old_new, state_of, recounted}
use Rattle.invariant.proofs.Shape.{Home, IsBucket, Shape, facts}
use Rattle.invariant.proofs.Places.{one, in_table, LiveTable, key_bucket, key_home, key_live, bucket_not_free}
use Rattle.invariant.proofs.LinkedChains.{shape_range}
use Rattle.invariant.proofs.FirstEntries.{free_taken}
use Rattle.invariant.proofs.Cells.{Memory, Cell, memory, buckets_in, read, write, Inside}
use Rattle.invariant.proofs.Relink.{last_cell, Rewired, Relinked, relink}
use Rattle.invariant.proofs.RelinkWrites.{rewired, rekeyed, inside_after, rewired_keeps, rekeyed_key, rekeyed_value, rekeyed_key_other, rekeyed_value_other, rekeyed_cells, link_inside, shape_rewired}
use Rattle.invariant.proofs.StoreAfter.{HeldIn, recounted_same, StoreAfter, held_before, held_kept}
use Rattle.std.specs.Prelude.{Ok}

-- the memory once the first free entry, with that key and value, is at the head of a bucket
added_at : Memory → Place → ℕ → ℕ → Memory
added_at m q key value = rekeyed (rewired m (Cell.head Place.free) q m.free) m.free key value

-- the counts, once a key is added to a table

abbrev more : State → Table → Table → ℕ
more s t = with_count s t (used_of s t + 1)

more_counts : (s : State) (key : ℕ) (t u : Table)
    → more s t u + in_table u Place.free ≡ used_of s u + in_table u (key_place s key t)
unfolding with_count old_new used_of in_table one key_place
more_counts s key Table.Old Table.Old = omega arith
more_counts s key Table.Old Table.New = omega arith
more_counts s key Table.New Table.Old = omega arith
more_counts s key Table.New Table.New = omega arith

more_held : (s : State) (t : Table) → more s t Table.Old + more s t Table.New ≡ keys_held s + 1
unfolding with_count old_new used_of keys_held
more_held s Table.Old = omega arith
more_held s Table.New = omega arith

-- the call's writes are those
added_is : (s : State) (current other entries : List ℕ) (key value : ℕ) (t : Table)
    → pushed s current other entries key value t
    ≡ After.after
    (Ok (recounted s (added_at (memory s current other entries) (key_place s key t) key value).free (more s t)))
    (added_at (memory s current other entries) (key_place s key t) key value).current
    (added_at (memory s current other entries) (key_place s key t) key value).other
    (added_at (memory s current other entries) (key_place s key t) key value).entries
unfolding pushed push changed recounted added_at rekeyed rewired write read memory buckets_in buckets_of key_place
added_is s current other entries key value Table.Old = refl
added_is s current other entries key value Table.New = refl

-- during a rehash keys are added to the new table, which is live
pub target_live : (s : State) → LiveTable s (target s.rehashing)
unfolding LiveTable target
target_live s = by s.rehashing
  where
    by : (f : Bool) → target f ≡ Table.New → f ≡ true
    by true e = refl
    by false e = let z : ◌≡◌ {A = ℕ} 0 1 = cc in absurd (omega arith)

module _ {s : State} {current other entries : List ℕ} (shape : Shape s current other entries) (key value : ℕ)
    (room : s.old_used + s.new_used < s.capacity)
    (absent : (n : ℕ) (t : Place) → Live s t → IsBucket t → In n (shape.at t) → key_of entries n ≡ key → ⊥) where
  -- not full, so the free list has a first entry
  first_free : (vs : List ℕ) × (shape.at Place.free ≡ s.free_head ∷ vs)
  first_free = let (vs, e, t) = free_taken shape (λ e. omega arith) in (vs, e)

  module _ (t : Table) (its_table : target s.rehashing ≡ t) where
    abbrev x : ℕ
    x = s.free_head

    abbrev q : Place
    q = key_place s key t

    abbrev before : Memory
    before = memory s current other entries

    abbrev linked : Memory
    linked = rewired before (Cell.head Place.free) q x

    abbrev written : Memory
    written = added_at before q key value

    live : Live s q
    live = key_live shape key t (subst (λ (u : Table). LiveTable s u) its_table (target_live s))

    apart : Place.free ≡ q → ⊥
    apart e = bucket_not_free q (key_bucket s key t) (sym e)

    cells : Rewired before linked (Cell.head Place.free) q x
    unfolding Live last_cell
    cells = shape_rewired shape Place.free q x [] first_free.0 first_free.1 tt live apart

    inside : Inside linked (Cell.link x)
    unfolding Live
    inside =
        let range =
        shape_range shape Place.free tt x (subst (λ (ns : List ℕ). In x ns) (sym first_free.1) (inl refl)) in
        inside_after before linked cells.lengths (Cell.link x) (link_inside shape x range.0 range.1)

    -- the index of a rehash is 0 with none under way
    ahead : (b : ℕ) → b < s.rehash_index → q ≡ Place.bucket Table.Old b → ⊥
    unfolding key_place target
    ahead b l f = go s.rehashing refl
      where
        differ : Table.New ≡ Table.Old → ⊥
        differ e = let z : ◌≡◌ {A = ℕ} 0 1 = cc in omega arith

        go : (r : Bool) → s.rehashing ≡ r → ⊥
        go true e = differ (ap target (sym e) ∙ its_table ∙ (cc))
        go false e = let z = ((facts shape).resting e).no_index in omega arith

    -- keys and values then

    its_key : key_of written.entries x ≡ key
    unfolding added_at memory
    its_key = rekeyed_key linked x key value inside

    its_value : value_of written.entries x ≡ value
    unfolding added_at memory
    its_value = rekeyed_value linked x key value inside

    keys_kept : (n : ℕ) → (n ≡ x → ⊥) → key_of written.entries n ≡ key_of entries n
    unfolding added_at memory
    keys_kept n d = rekeyed_key_other linked x key value n d ∙ (rewired_keeps before (Cell.head Place.free) q x n).0

    values_kept : (n : ℕ) → (n ≡ x → ⊥) → value_of written.entries n ≡ value_of entries n
    unfolding added_at memory
    values_kept n d = rekeyed_value_other linked x key value n d ∙ (rewired_keeps before (Cell.head Place.free) q x n).1

    -- an entry in a bucket was not free
    not_taken : (t : Place) → Live s t → IsBucket t → (n : ℕ) → In n (shape.at t) → n ≡ x → ⊥
    unfolding Live
    not_taken t l b n i e =
        bucket_not_free t b
        (sym (shape.owns n t l i)
        ∙ shape.owns n Place.free tt (subst (λ (ns : List ℕ). In n ns) (sym first_free.1) (inl e)))

    taken : Relinked s before written shape.at (more s t) Place.free q x [] first_free.0
    unfolding added_at memory Live last_cell
    taken =
        record {
          chain = first_free.1;
          from_live = tt;
          to_live = live;
          apart = apart;
          cells = rekeyed_cells before linked (Cell.head Place.free) q x key value cells;
          keys_kept = keys_kept;
          at_home = subst (λ (k : ℕ). Home s k q) (sym its_key) (key_home s key t);
          key_alone = λ b n t l h i e. absurd (absent n t l h i (sym e ∙ its_key));
          not_passed = ahead;
          changed = more_counts s key t;
        }

    -- the outcome of an add that is neither refused nor full
    pub added_store : StoreAfter s Ok (pushed s current other entries key value t) (keys_held s + 1)
        s.rehash_index (λ r k v. ((r ≡ key_place s key t) × (k ≡ key) × (v ≡ value)) ⊎ HeldIn entries (shape.at r) k v)
    unfolding recounted state_of keys_held
    added_store =
        let (after, moved) =
        relink shape written (more s t) Place.free q x [] first_free.0 taken in
        record {
          state = recounted s written.free (more s t);
          current = written.current;
          other = written.other;
          entries = written.entries;
          is = added_is s current other entries key value t;
          shape = after;
          same = recounted_same s written.free (more s t);
          keys_held_lem = more_held s t;
          index_is = refl;
          held_only =
              λ r l b k v h.
              elim
              (held_before s shape.at after.at Place.free q x [] first_free.0 moved entries written.entries
              keys_kept values_kept r l k v h)
              [ inl e ↦ inl (e.0, sym e.1 ∙ its_key, sym e.2 ∙ its_value) | inr h ↦ inr h.0 ];
          held_all =
              λ r l b k v h.
              elim h [
                | inl e ↦
                    record {
                      entry = x;
                      there = subst (λ (z : Place). In x (after.at z)) (sym e.0) moved.there;
                      its_key = its_key ∙ sym e.1;
                      its_value = its_value ∙ sym e.2;
                    }
                | inr h ↦
                    held_kept s shape.at after.at Place.free q x [] first_free.0 moved entries written.entries
                    keys_kept values_kept r k v h (not_taken r l b h.entry h.there)
              ];
        }
