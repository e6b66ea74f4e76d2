-- Another permission to grow and another number of safe iterators keep the shape: sizes, counts and chains go by the rest
-- of the state.
-- Assumes nothing.
use Prim.Native.Nat.{ℕ, ◌≤◌}
use mathlib.Core.Path.{◌≡◌, refl, sym, ◌∙◌}
use mathlib.Core.Bool.{Bool, true}
use mathlib.Core.List.{List}
use lib.ListN.{length}
use Rattle.model.specs.declared.State.{State}
use Rattle.model.specs.declared.Table.{Table}
use Rattle.model.specs.Limits.{most_safe_iterators}
use Rattle.model.specs.Memory.{Place, Live, head_at, size_of, used_of, buckets_of, sound_state, sum}
use Rattle.model.specs.Calls.{state_of, noted}
use Rattle.model.proofs.Linked.{Linked}
use Rattle.invariant.proofs.Shape.{Shape, facts}
use Rattle.invariant.proofs.States.{sound_again, live_kept, home_kept}

module _ (s : State) (allowed : Bool) (iterators : ℕ) where
  abbrev then : State
  then = noted s allowed iterators

  noted_sizes : (t : Table) → size_of then t ≡ size_of s t
  unfolding noted state_of size_of
  noted_sizes Table.Old = refl
  noted_sizes Table.New = refl

  noted_counts : (t : Table) → used_of then t ≡ used_of s t
  unfolding noted state_of used_of
  noted_counts Table.Old = refl
  noted_counts Table.New = refl

  -- the places that are live
  pub live_before : (p : Place) → Live (noted s allowed iterators) p → Live s p
  live_before p = live_kept then s (λ t. sym (noted_sizes t)) p

  pub live_after : (p : Place) → Live s p → Live (noted s allowed iterators) p
  live_after p = live_kept s then noted_sizes p

  module _ {current other entries : List ℕ} (h : Shape s current other entries) (fits : iterators ≤ most_safe_iterators) where
    noted_sound : sound_state (length current) (length other) (length entries) then ≡ true
    unfolding noted state_of size_of used_of
    noted_sound =
        let f = facts h in
        sound_again then current other entries f refl refl f.old_legal f.old_fits f.used_fits f.free_fits fits
        (λ e.
        let r = f.rehashing e in
        record {
          new_legal = r.new_legal;
          new_fits = r.new_fits;
          sizes_differ = r.sizes_differ;
          index_fits = r.index_fits;
        })
        (λ e.
        let r = f.resting e in record { no_size = r.no_size; no_keys = r.no_keys; no_index = r.no_index })

    noted_linked : (p : Place) → Live then p → Linked entries then.capacity (head_at then current other p) (h.at p)
    unfolding noted state_of head_at buckets_of
    noted_linked Place.free l = h.linked Place.free (live_before Place.free l)
    noted_linked (Place.bucket Table.Old b) l = h.linked (Place.bucket Table.Old b) (live_before (Place.bucket Table.Old b) l)
    noted_linked (Place.bucket Table.New b) l = h.linked (Place.bucket Table.New b) (live_before (Place.bucket Table.New b) l)

    pub noted_shape : Shape (noted s allowed iterators) current other entries
    unfolding noted state_of used_of size_of
    noted_shape =
        record {
          state_sound = noted_sound;
          at = h.at;
          linked = noted_linked;
          owner = h.owner;
          owned = λ n some within. let (l, there) = h.owned n some within in (live_after (h.owner n) l, there);
          owns = λ n p l. h.owns n p (live_before p l);
          home =
              λ n p l there.
              home_kept s then noted_sizes _ p (h.home n p (live_before p l) there);
          keys_distinct = λ n m p q l k. h.keys_distinct n m p q (live_before p l) (live_before q k);
          passed_empty = h.passed_empty;
          counts = λ t. noted_counts t ∙ h.counts t ∙ by t;
          free_count = h.free_count;
        }
      where
        by : (t : Table)
            → sum (λ b. length (h.at (Place.bucket t b))) (size_of s t) ≡ sum (λ b. length (h.at (Place.bucket t b))) (size_of then t)
        by Table.Old = refl
        by Table.New = refl

    pub noted_at : (p : Place) → noted_shape.at p ≡ h.at p
    unfolding noted_shape
    noted_at p = refl
