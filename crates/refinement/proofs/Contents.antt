-- Every undamaged store holds a map (`undamaged_holds`): that of the pairs in its live buckets. And it has what some ideal has
-- (`undamaged_ideal`).
-- Assumes nothing.
use Prim.Native.Nat.{ℕ, zero, suc, ◌+◌, ◌<◌}
use mathlib.Core.Path.{◌≡◌, refl, ap}
use mathlib.Core.Logic.{◌⊎◌, inl, inr, ⊎_elim, ⊎_map}
use mathlib.Core.List.{List, [], ◌∷◌, map}
use native.Mathlib.Decide.{ℕ_discrete}
use native.Mathlib.Omega.{arith}
use lib.ListN.{length, length-append, length-map}
use Rattle.cursor.specs.Member.{In, Distinct}
use Rattle.model.specs.declared.Table.{Table}
use Rattle.model.specs.Memory.{Place, size_of, used_of, keys_held, sum}
use Rattle.model.specs.Sequences.{World, Pair, PlainMap}
use Rattle.refinement.specs.Worlds.{UndamagedAt, Holds}
use Rattle.refinement.specs.Demand3.{Ideal, lengths_of, Matches}
use Rattle.invariant.proofs.FromUndamaged.{undamaged_shape}
use Rattle.refinement.proofs.Agreement.{agrees_matches, holds_agrees}
use Rattle.refinement.proofs.PlainMaps.{pair, value_pair, pair_value}
use Rattle.refinement.proofs.LiveTables.{Buckets}
use Rattle.refinement.proofs.BucketEntries.{pair_of, read_at, entries_of, pair_keys_once, of_pairs, in_pairs}

-- the first n buckets of a table, and some places behind them
unfoldable buckets : Table → ℕ → List Place → List Place
buckets t zero ps = ps
buckets t (suc n) ps = Place.bucket t n ∷ buckets t n ps

module _ (t : Table) (ps : List Place) where
  in_first : (b n : ℕ) → b < n → In (Place.bucket t b) (buckets t n ps)
  unfolding buckets
  in_first b zero l = absurd (omega arith)
  in_first b (suc n) l =
      elim (ℕ_discrete b n) [ yes e ↦ inl (ap (Place.bucket t) e) | no d ↦ inr (in_first b n (omega arith)) ]

  in_behind : (p : Place) (n : ℕ) → In p ps → In p (buckets t n ps)
  unfolding buckets
  in_behind p zero i = i
  in_behind p (suc n) i = inr (in_behind p n i)

  of_buckets : (p : Place) (n : ℕ) → In p (buckets t n ps) → ((b : ℕ) × (b < n) × (p ≡ Place.bucket t b)) ⊎ In p ps
  unfolding buckets
  of_buckets p zero i = inr i
  of_buckets p (suc n) (inl e) = inl (n, omega arith, e)
  of_buckets p (suc n) (inr i) = ⊎_map (λ (b, l, e). (b, omega arith, e)) (λ j. j) (of_buckets p n i)

  buckets_once : (n : ℕ) → Distinct ps → ((b : ℕ) → In (Place.bucket t b) ps → ⊥) → Distinct (buckets t n ps)
  unfolding buckets
  buckets_once zero d other = d
  buckets_once (suc n) d other = (
    λ i. ⊎_elim (λ (b, l, e). let same : n ≡ b = cc in omega arith) (other n) (of_buckets (Place.bucket t n) n i),
    buckets_once n d other,
  )

  buckets_length : (w : World) (n : ℕ)
      → length (entries_of w (buckets t n ps)) ≡ sum (λ b. length (read_at w (Place.bucket t b))) n + length (entries_of w ps)
  unfolding buckets entries_of sum
  buckets_length w zero = omega arith
  buckets_length w (suc n) =
      omega (arith, length-append (read_at w (Place.bucket t n)) (entries_of w (buckets t n ps)), buckets_length w n)

  -- they are buckets, none twice, if those behind are, and are not of the table
  all_buckets : (size : Table → ℕ) → Buckets size ps → ((b : ℕ) → In (Place.bucket t b) ps → ⊥)
      → Buckets size (buckets t (size t) ps)
  all_buckets size h other =
      record {
        each = λ p i. ⊎_elim (λ (b, l, e). (t, b, e, l)) (h.each p) (of_buckets p (size t) i);
        once = buckets_once (size t) h.once other;
      }

module _ (w : World) where
  abbrev size : Table → ℕ
  size = size_of w.state

  abbrev new : List Place
  new = buckets Table.New (size Table.New) []

  -- all live buckets
  abbrev live : List Place
  live = buckets Table.Old (size Table.Old) new

  live_buckets : Buckets size live
  live_buckets =
      all_buckets Table.Old new size
      (all_buckets Table.New [] size (record { each = λ p i. absurd i; once = tt }) (λ b i. i))
      (λ b i.
      ⊎_elim (λ (c, l, e). let z : ◌≡◌ {A = ℕ} 0 1 = cc in omega arith) (λ j. j)
      (of_buckets Table.New [] (Place.bucket Table.Old b) (size Table.New) i))

  in_live : (t : Table) (b : ℕ) → b < size t → In (Place.bucket t b) live
  in_live Table.Old b l = in_first Table.Old new b (size Table.Old) l
  in_live Table.New b l =
      in_behind Table.Old new (Place.bucket Table.New b) (size Table.Old) (in_first Table.New [] b (size Table.New) l)

  abbrev held : List Pair
  held = map (pair_of w.entries) (entries_of w live)

  module _ (u : UndamagedAt w) where
    held_count : length held ≡ keys_held w.state
    unfolding UndamagedAt keys_held used_of entries_of
    held_count =
        omega (
          arith,
          length-map (entries_of w live) (pair_of w.entries),
          buckets_length Table.Old new w (size Table.Old),
          buckets_length Table.New [] w (size Table.New),
          u.counts Table.Old,
          u.counts Table.New,
        )

    pub undamaged_holds : (m : PlainMap) × Holds w m
    undamaged_holds =
        let once = pair_keys_once w u live live_buckets in (
          record { capacity = w.state.capacity; pairs = held },
          record {
            capacity = refl;
            count = held_count;
            distinct = once;
            in_map =
                λ key value h.
                pair_value (pair key value) held once
                (in_pairs w u live live_buckets h (in_live h.table h.index h.live));
            in_store =
                λ key value e. (of_pairs w u live live_buckets (pair key value) (value_pair key value held e)).0;
          },
        )

-- an ideal of any map that it holds
pub holds_ideal : (w : World) (m : PlainMap) → UndamagedAt w → Holds w m
    → (i : Ideal) × (i.plain ≡ m) × Matches (lengths_of w) w i
unfolding UndamagedAt
holds_ideal w m undamaged holds =
    let (i, is, a) = holds_agrees w (undamaged_shape undamaged) m holds in (i, is, agrees_matches w i a (lengths_of w) refl)

pub undamaged_ideal : (w : World) → UndamagedAt w → (i : Ideal) × Matches (lengths_of w) w i
undamaged_ideal w undamaged =
    let (m, holds) = undamaged_holds w undamaged in
    let (i, is, matches) = holds_ideal w m undamaged holds in
    (i, matches)
