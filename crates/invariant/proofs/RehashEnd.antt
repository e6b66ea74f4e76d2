-- The end of a rehash: the new table becomes the only one, and the buffers change places. No entry moves.
-- Assumes nothing.
use Prim.Native.Nat.{ℕ}
use mathlib.Core.Path.{◌≡◌, refl, ap, subst}
use mathlib.Core.Bool.{true}
use mathlib.Core.List.{List}
use native.Mathlib.Omega.{arith}
use lib.ListN.{length}
use Rattle.cursor.specs.Member.{In}
use Rattle.model.specs.declared.State.{State}
use Rattle.model.specs.declared.Table.{Table}
use Rattle.model.specs.Memory.{Place, Live, head_at, size_of, used_of, buckets_of, key_of, sound_state, sum}
use Rattle.model.specs.Calls.{state_of, old_new, retabled, finished}
use Rattle.model.proofs.Soundness.{Rehashing}
use Rattle.model.proofs.Linked.{Linked}
use Rattle.invariant.proofs.Shape.{Home, IsBucket, Shape, facts}
use Rattle.invariant.proofs.States.{sound_again}
use Rattle.invariant.proofs.FirstEntries.{old_empty}

-- the same bucket, where the two tables change places

unfoldable pub swapped_table : Table → Table
swapped_table Table.Old = Table.New
swapped_table Table.New = Table.Old

unfoldable pub swapped_place : Place → Place
swapped_place Place.free = Place.free
swapped_place (Place.bucket t b) = Place.bucket (swapped_table t) b

swapped_bucket : (p : Place) → IsBucket p → IsBucket (swapped_place p)
unfolding swapped_place IsBucket
swapped_bucket Place.free b = b
swapped_bucket (Place.bucket t b) c = c

module _ {s : State} {current other entries : List ℕ} (h : Shape s current other entries) (rehashing : s.rehashing ≡ true)
    (none_left : s.old_used ≡ 0) where
  before : Rehashing s (length other)
  before = (facts h).rehashing rehashing

  finished_sound : sound_state (length other) (length current) (length entries) (finished s) ≡ true
  unfolding finished retabled state_of old_new
  finished_sound =
      let state = facts h in
      sound_again (finished s) other current entries state refl refl before.new_legal before.new_fits
      (omega (arith, state.used_fits)) state.free_fits state.iterators_fit
      (λ e. let z : ◌≡◌ {A = ℕ} 0 1 = cc in absurd (omega arith))
      (λ e. record { no_size = refl; no_keys = refl; no_index = refl })

  -- a live place was the other table's
  live_before : (p : Place) → Live (finished s) p → Live s (swapped_place p)
  unfolding finished retabled state_of old_new size_of used_of buckets_of swapped_table Live swapped_place
  live_before Place.free l = l
  live_before (Place.bucket Table.Old b) l = l
  live_before (Place.bucket Table.New b) l = absurd (omega arith)

  -- and an entry is there
  in_after : (n : ℕ) (p : Place) → Live s p → In n (h.at p)
      → Live (finished s) (swapped_place p) × In n (h.at (swapped_place (swapped_place p)))
  unfolding finished retabled state_of old_new size_of used_of buckets_of swapped_table Live swapped_place
  in_after n Place.free l i = (l, i)
  in_after n (Place.bucket Table.Old b) l i = absurd (subst (λ (ns : List ℕ). In n ns) (old_empty h none_left b l) i)
  in_after n (Place.bucket Table.New b) l i = (l, i)

  home_after : (key : ℕ) (p : Place) → Live (finished s) p → Home s key (swapped_place p) → Home (finished s) key p
  unfolding finished retabled state_of old_new size_of used_of buckets_of swapped_table Live Home swapped_place
  home_after key Place.free l e = e
  home_after key (Place.bucket Table.Old b) l e = e
  home_after key (Place.bucket Table.New b) l e = absurd (omega arith)

  owns_after : (n : ℕ) (p : Place) → h.owner n ≡ swapped_place p → swapped_place (h.owner n) ≡ p
  unfolding swapped_place swapped_table
  owns_after n Place.free e = ap swapped_place e
  owns_after n (Place.bucket Table.Old b) e = ap swapped_place e
  owns_after n (Place.bucket Table.New b) e = ap swapped_place e

  finished_linked : (p : Place) → Live (finished s) p
      → Linked entries s.capacity (head_at (finished s) other current p) (h.at (swapped_place p))
  unfolding finished retabled state_of old_new size_of used_of buckets_of swapped_table Live head_at swapped_place
  finished_linked Place.free l = h.linked Place.free tt
  finished_linked (Place.bucket Table.Old b) l = h.linked (Place.bucket Table.New b) l
  finished_linked (Place.bucket Table.New b) l = absurd (omega arith)

  counts_after : (t : Table)
      → used_of (finished s) t ≡ sum (λ b. length (h.at (swapped_place (Place.bucket t b)))) (size_of (finished s) t)
  unfolding finished retabled state_of old_new used_of size_of swapped_place swapped_table sum
  counts_after Table.Old = h.counts Table.New
  counts_after Table.New = refl

  -- the shape at the end of a rehash
  pub finished_shape : Shape (finished s) other current entries
  unfolding finished retabled state_of old_new size_of used_of buckets_of swapped_table swapped_place sum
  finished_shape =
      record {
        state_sound = finished_sound;
        at = λ p. h.at (swapped_place p);
        linked = finished_linked;
        owner = λ n. swapped_place (h.owner n);
        owned = λ n z k. let (l, i) = h.owned n z k in in_after n (h.owner n) l i;
        owns = λ n p l i. owns_after n p (h.owns n (swapped_place p) (live_before p l) i);
        home =
            λ n p l i. home_after (key_of entries n) p l (h.home n (swapped_place p) (live_before p l) i);
        keys_distinct =
            λ n m p q l k a b i j e.
            h.keys_distinct n m (swapped_place p) (swapped_place q) (live_before p l) (live_before q k)
            (swapped_bucket p a) (swapped_bucket q b) i j e;
        passed_empty = λ b l. absurd (omega arith);
        counts = counts_after;
        free_count = omega (arith, h.free_count);
      }

  -- its chains are those of the tables that changed places
  pub finished_at : (p : Place) → finished_shape.at p ≡ h.at (swapped_place p)
  unfolding finished_shape
  finished_at p = refl
