-- Delete keeps the shape: the entry found leaves its chain, behind another entry or at the head, and joins the free list.
-- Assumes nothing.
use Prim.Native.Nat.{ℕ, zero, suc, ◌+◌, ◌-◌, ◌<◌}
use mathlib.Core.Path.{◌≡◌, refl, sym, ap, subst, ◌∙◌}
use mathlib.Core.Logic.{inl, inr}
use mathlib.Core.List.{List, [], ◌∷◌, ◌++◌}
use native.Mathlib.Omega.{arith}
use lib.ListN.{length, length-append}
use Rattle.cursor.specs.Member.{In}
use Rattle.model.specs.declared.State.{State}
use Rattle.model.specs.declared.Table.{Table}
use Rattle.model.specs.Memory.{Place, Live, size_of, used_of, buckets_of, keys_held, key_place, key_of, value_of, set_link, set_entry, last_or}
use Rattle.model.specs.Calls.{After, removed, changed, unlink_bucket, unlink_entry, with_count, old_new, state_of, recounted}
use Rattle.model.proofs.Lists.{in_left, in_middle}
use Rattle.model.proofs.Sums.{term_in_sum}
use Rattle.invariant.proofs.Shape.{Home, IsBucket, Shape}
use Rattle.invariant.proofs.Places.{one, in_table, key_bucket, bucket_not_free}
use Rattle.invariant.proofs.LinkedChains.{shape_range}
use Rattle.invariant.proofs.Cells.{Memory, Cell, memory, buckets_in, read, write}
use Rattle.invariant.proofs.Relink.{last_cell, Rewired, Relinked, relink}
use Rattle.invariant.proofs.RelinkWrites.{rewired, rekeyed, rewired_keeps, rekeyed_key_other, rekeyed_value_other, rekeyed_cells, shape_rewired}
use Rattle.invariant.proofs.StoreAfter.{HeldIn, recounted_same, StoreAfter, held_before, held_kept}
use Rattle.std.specs.Prelude.{Ok}

-- the cell that leads to the entry behind `before`, in the chain of place p
cell_before : Place → ℕ → Cell
cell_before p zero = Cell.head p
cell_before p (suc before) = Cell.link (suc before)

last_linked : (p : Place) (u : ℕ) (us : List ℕ) → ((w : ℕ) → In w (u ∷ us) → 0 < w)
    → last_cell (Cell.link u) us ≡ cell_before p (last_or u us)
unfolding last_cell cell_before last_or
last_linked p zero [] h = let z = h 0 (inl refl) in absurd (omega arith)
last_linked p (suc u) [] h = refl
last_linked p u (v ∷ us) h = last_linked p v us (λ w i. h w (inr i))

cell_before_lem : (p : Place) (us : List ℕ) → ((w : ℕ) → In w us → 0 < w)
    → last_cell (Cell.head p) us ≡ cell_before p (last_or 0 us)
unfolding last_cell cell_before last_or
cell_before_lem p [] h = refl
cell_before_lem p (u ∷ us) h = last_linked p u us h

-- the memory once entry n, behind the cell c, is free
freed_from : Memory → Cell → ℕ → Memory
freed_from m c n = rekeyed (rewired m c Place.free n) n 0 0

-- the counts, once a key is deleted from a table
abbrev less : State → Table → Table → ℕ
less s t = with_count s t (used_of s t - 1)

-- the call's writes are those
removed_is : (s : State) (current other entries : List ℕ) (key : ℕ) (t : Table) (before n : ℕ)
    → removed s current other entries key t before n
    ≡ After.after
    (Ok
    (recounted s (freed_from (memory s current other entries) (cell_before (key_place s key t) before) n).free (less s t)))
    (freed_from (memory s current other entries) (cell_before (key_place s key t) before) n).current
    (freed_from (memory s current other entries) (cell_before (key_place s key t) before) n).other
    (freed_from (memory s current other entries) (cell_before (key_place s key t) before) n).entries
unfolding removed changed unlink_bucket unlink_entry set_link set_entry recounted freed_from cell_before rekeyed rewired write read memory buckets_in buckets_of key_place
removed_is s current other entries key Table.Old zero n = refl
removed_is s current other entries key Table.Old (suc before) n = refl
removed_is s current other entries key Table.New zero n = refl
removed_is s current other entries key Table.New (suc before) n = refl

-- where that table holds a key
less_counts : (s : State) (key : ℕ) (t : Table) → 0 < used_of s t → (u : Table)
    → less s t u + in_table u (key_place s key t) ≡ used_of s u + in_table u Place.free
unfolding with_count old_new used_of in_table one key_place
less_counts s key Table.Old l Table.Old = omega arith
less_counts s key Table.Old l Table.New = omega arith
less_counts s key Table.New l Table.Old = omega arith
less_counts s key Table.New l Table.New = omega arith

less_held : (s : State) (t : Table) → 0 < used_of s t → less s t Table.Old + less s t Table.New ≡ keys_held s - 1
unfolding with_count old_new used_of keys_held
less_held s Table.Old l = omega arith
less_held s Table.New l = omega arith

module _ {s : State} {current other entries : List ℕ} (shape : Shape s current other entries) (key : ℕ) where
  -- a table with an entry holds at least one key
  some_held : (t : Table) (n : ℕ) (us vs : List ℕ) → Live s (key_place s key t) → shape.at (key_place s key t) ≡ us ++ n ∷ vs
      → 0 < used_of s t
  unfolding key_place Live
  some_held t n us vs l e =
      omega (
        arith,
        ap length e,
        length-append us (n ∷ vs),
        shape.counts t,
        term_in_sum (λ i. length (shape.at (Place.bucket t i))) (size_of s t) _ l,
      )

  module _ (t : Table) (n before : ℕ) (us vs : List ℕ) (live : Live s (key_place s key t))
      (chain : shape.at (key_place s key t) ≡ us ++ n ∷ vs) (behind : before ≡ last_or 0 us)
      (its_key : key_of entries n ≡ key) where
    abbrev p : Place
    p = key_place s key t

    abbrev earlier : Memory
    earlier = memory s current other entries

    abbrev linked : Memory
    linked = rewired earlier (cell_before p before) Place.free n

    abbrev written : Memory
    written = freed_from earlier (cell_before p before) n

    apart : p ≡ Place.free → ⊥
    apart = bucket_not_free p (key_bucket s key t)

    there : last_cell (Cell.head p) us ≡ cell_before p before
    unfolding Live
    there =
        cell_before_lem p us
        (λ w i. (shape_range shape p live w (subst (λ (ns : List ℕ). In w ns) (sym chain) (in_left w us (n ∷ vs) i))).0)
        ∙ ap (cell_before p) (sym behind)

    cells : Rewired earlier linked (last_cell (Cell.head p) us) Place.free n
    unfolding Live
    cells =
        subst (λ (c : Cell). Rewired earlier (rewired earlier c Place.free n) (last_cell (Cell.head p) us) Place.free n) there
        (shape_rewired shape p Place.free n us vs chain live tt apart)

    keys_kept : (k : ℕ) → (k ≡ n → ⊥) → key_of written.entries k ≡ key_of entries k
    unfolding freed_from memory
    keys_kept k d = rekeyed_key_other linked n 0 0 k d ∙ (rewired_keeps earlier (cell_before p before) Place.free n k).0

    values_kept : (k : ℕ) → (k ≡ n → ⊥) → value_of written.entries k ≡ value_of entries k
    unfolding freed_from memory
    values_kept k d = rekeyed_value_other linked n 0 0 k d ∙ (rewired_keeps earlier (cell_before p before) Place.free n k).1

    given_back : Relinked s earlier written shape.at (less s t) p Place.free n us vs
    unfolding freed_from memory Live Home IsBucket
    given_back =
        record {
          chain = chain;
          from_live = live;
          to_live = tt;
          apart = apart;
          cells = rekeyed_cells earlier linked (last_cell (Cell.head p) us) Place.free n 0 0 cells;
          keys_kept = keys_kept;
          at_home = tt;
          key_alone = λ b k r l h i e. absurd b;
          not_passed = λ b l e. let z : ◌≡◌ {A = ℕ} 0 1 = cc in omega arith;
          changed = less_counts s key t (some_held t n us vs live chain);
        }

    -- the outcome of a delete that found its key, in the old or the new table
    pub deleted_store : StoreAfter s Ok
        (removed s current other entries key t before n) (keys_held s - 1)
        s.rehash_index (λ r k v. HeldIn entries (shape.at r) k v × (k ≡ key → ⊥))
    unfolding recounted state_of keys_held
    deleted_store =
        let (after, moved) =
        relink shape written (less s t) p Place.free n us vs given_back in
        record {
          state = recounted s written.free (less s t);
          current = written.current;
          other = written.other;
          entries = written.entries;
          is = removed_is s current other entries key t before n;
          shape = after;
          same = recounted_same s written.free (less s t);
          keys_held_lem = less_held s t (some_held t n us vs live chain);
          index_is = refl;
          held_only =
              λ r l b k v h.
              elim
              (held_before s shape.at after.at p Place.free n us vs moved entries written.entries
              keys_kept values_kept r l k v h) [
                | inl e ↦ absurd (bucket_not_free r b e.0)
                | inr h ↦ (h.0, λ e. h.1 (same_entry r l b k v h.0 e))
              ];
          held_all =
              λ r l b k v h.
              held_kept s shape.at after.at p Place.free n us vs moved entries written.entries
              keys_kept values_kept r k v h.0
              (λ e. h.1 (sym h.0.its_key ∙ ap (key_of entries) e ∙ its_key));
        }
      where
        same_entry : (r : Place) → Live s r → IsBucket r → (k v : ℕ) (h : HeldIn entries (shape.at r) k v) → k ≡ key
            → h.entry ≡ n
        same_entry r l b k v h e =
            shape.keys_distinct h.entry n r p l live b (key_bucket s key t) h.there
            (subst (λ (ns : List ℕ). In n ns) (sym chain) (in_middle n us vs)) (h.its_key ∙ e ∙ sym its_key)
