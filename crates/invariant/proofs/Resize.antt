-- A resize begins a rehash with an empty new table: the chains of the old one and the free list stay.
-- Assumes nothing.
use Prim.Native.Nat.{ℕ, ◌≤◌}
use mathlib.Core.Path.{◌≡◌, refl, sym}
use mathlib.Core.Bool.{true, false}
use mathlib.Core.List.{List, []}
use native.Mathlib.Omega.{arith}
use lib.ListN.{length}
use Rattle.cursor.specs.Member.{In}
use Rattle.model.specs.declared.State.{State}
use Rattle.model.specs.Limits.{legal_size}
use Rattle.model.specs.declared.Table.{Table}
use Rattle.model.specs.Memory.{Place, Live, head_at, size_of, used_of, buckets_of, key_of, sound_state, sum}
use Rattle.model.specs.Calls.{cleared, acceptable, state_of, old_new, retabled, resizing}
use Rattle.model.proofs.Tests.{told, tells_true, tells_and, tells_not, tells_eq, tells_le}
use Rattle.model.proofs.Soundness.{Resting}
use Rattle.model.proofs.Linked.{Linked}
use Rattle.model.proofs.Sums.{sum_zero}
use Rattle.invariant.proofs.Shape.{Home, Shape, facts}
use Rattle.invariant.proofs.States.{sound_again}
use Rattle.invariant.proofs.ClearedBuckets.{length_cleared, cleared_empty}

-- the chains once a rehash has begun
unfoldable pub resized_at : (Place → List ℕ) → Place → List ℕ
resized_at at Place.free = at Place.free
resized_at at (Place.bucket Table.Old b) = at (Place.bucket Table.Old b)
resized_at at (Place.bucket Table.New b) = []

-- what a size that is accepted is
pub allowed : (present other size : ℕ) → acceptable present other size ≡ true
    → (legal_size size ≡ true) × (present ≡ size → ⊥) × (size ≤ other)
unfolding acceptable
allowed present other size accepted =
    let (both, fits) =
    told (tells_and (tells_and (tells_true (legal_size size)) (tells_not (tells_eq size present))) (tells_le size other)) accepted in
    (both.0, λ e. both.1 (sym e), fits)

module _ {s : State} {current other entries : List ℕ} (h : Shape s current other entries) (size : ℕ)
    (resting : s.rehashing ≡ false) (accepted : acceptable s.old_size (length other) size ≡ true) where
  before : Resting s
  before = (facts h).resting resting

  resized_sound : sound_state (length current) (length (cleared size other)) (length entries) (resizing s size) ≡ true
  unfolding resizing retabled state_of old_new
  resized_sound =
      let state = facts h in
      sound_again (resizing s size) current (cleared size other) entries state refl refl state.old_legal
      state.old_fits (omega (arith, state.used_fits)) state.free_fits state.iterators_fit
      (λ e.
      record {
        new_legal = (allowed s.old_size (length other) size accepted).0;
        new_fits = omega (arith, length_cleared size other (allowed s.old_size (length other) size accepted).2, (allowed s.old_size (length other) size accepted).2);
        sizes_differ = (allowed s.old_size (length other) size accepted).1;
        index_fits = omega arith;
      })
      (λ e. let z : ◌≡◌ {A = ℕ} 0 1 = cc in absurd (omega arith))

  -- an entry is where it was
  in_before : (n : ℕ) (p : Place) → Live (resizing s size) p → In n (resized_at h.at p) → Live s p × In n (h.at p)
  unfolding resizing retabled state_of old_new size_of used_of buckets_of Live resized_at
  in_before n Place.free l i = (l, i)
  in_before n (Place.bucket Table.Old b) l i = (l, i)
  in_before n (Place.bucket Table.New b) l i = absurd i

  in_after : (n : ℕ) (p : Place) → Live s p → In n (h.at p) → Live (resizing s size) p × In n (resized_at h.at p)
  unfolding resizing retabled state_of old_new size_of used_of buckets_of Live resized_at
  in_after n Place.free l i = (l, i)
  in_after n (Place.bucket Table.Old b) l i = (l, i)
  in_after n (Place.bucket Table.New b) l i = absurd (omega (arith, before.no_size))

  home_after : (key : ℕ) (p : Place) → Live s p → Home s key p → Home (resizing s size) key p
  unfolding resizing retabled state_of old_new size_of used_of buckets_of Live Home
  home_after key Place.free l e = e
  home_after key (Place.bucket Table.Old b) l e = e
  home_after key (Place.bucket Table.New b) l e = absurd (omega (arith, before.no_size))

  resized_linked : (p : Place) → Live (resizing s size) p
      → Linked entries s.capacity (head_at (resizing s size) current (cleared size other) p) (resized_at h.at p)
  unfolding resizing retabled state_of old_new size_of used_of buckets_of Live head_at resized_at Linked
  resized_linked Place.free l = h.linked Place.free tt
  resized_linked (Place.bucket Table.Old b) l = h.linked (Place.bucket Table.Old b) l
  resized_linked (Place.bucket Table.New b) l = cleared_empty size b other l

  counts_after : (t : Table)
      → used_of (resizing s size) t ≡ sum (λ b. length (resized_at h.at (Place.bucket t b))) (size_of (resizing s size) t)
  unfolding resizing retabled state_of old_new used_of size_of resized_at
  counts_after Table.Old = h.counts Table.Old
  counts_after Table.New = sym (sum_zero (λ b. 0) size (λ b l. refl))

  -- the shape once a rehash has begun
  pub resized_shape : Shape (resizing s size) current (cleared size other) entries
  unfolding resizing retabled state_of old_new size_of used_of buckets_of resized_at
  resized_shape =
      record {
        state_sound = resized_sound;
        at = resized_at h.at;
        linked = resized_linked;
        owner = h.owner;
        owned = λ n z k. let (l, i) = h.owned n z k in in_after n (h.owner n) l i;
        owns = λ n p l i. let (k, j) = in_before n p l i in h.owns n p k j;
        home =
            λ n p l i. let (k, j) = in_before n p l i in home_after (key_of entries n) p k (h.home n p k j);
        keys_distinct =
            λ n m p q l k a b i j e.
            let (l', i') = in_before n p l i in
            let (k', j') = in_before m q k j in
            h.keys_distinct n m p q l' k' a b i' j' e;
        passed_empty = λ b l. absurd (omega arith);
        counts = counts_after;
        free_count = omega (arith, h.free_count, before.no_keys);
      }

  -- its chains
  pub resized_at_lem : (p : Place) → resized_shape.at p ≡ resized_at h.at p
  unfolding resized_shape
  resized_at_lem p = refl
