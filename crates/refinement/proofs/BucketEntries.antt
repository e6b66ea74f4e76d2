-- The entries of some live buckets, read one chain after another as a walk call reads those of its group. It gives, for an
-- undamaged store: they are read (`read_some`), and their pairs are those held there (`of_pairs`, `in_pairs`), no key twice
-- (`keys_once`).
-- Assumes nothing.
use Prim.Native.Nat.{ℕ, ◌+◌, ◌<◌, ◌≤◌}
use mathlib.Core.Path.{◌≡◌, refl, sym, ap, ap₂, subst}
use mathlib.Core.Logic.{inl, inr, ⊎_elim}
use mathlib.Core.List.{List, [], ◌∷◌, ◌++◌, map, map-map}
use mathlib.Core.Option.{some}
use lib.ListN.{length}
use Rattle.cursor.specs.Member.{In, Distinct}
use Rattle.model.specs.declared.Table.{Table}
use Rattle.model.specs.Memory.{Place, Live, size_of, key_of, value_of, entries_at}
use Rattle.model.specs.Walk.{joined, chains_at}
use Rattle.model.specs.Sequences.{World, Pair, keys_of}
use Rattle.refinement.specs.Worlds.{current, other, UndamagedAt, Held}
use Rattle.model.proofs.Lists.{in_left, in_right, in_either, in_map, of_map, distinct_append, distinct_map}
use Rattle.invariant.proofs.Shape.{IsBucket}
use Rattle.invariant.proofs.LinkedChains.{shape_distinct}
use Rattle.invariant.proofs.ToUndamaged.{entries_at_lem}
use Rattle.invariant.proofs.FromUndamaged.{fits_held, undamaged_shape}
use Rattle.refinement.proofs.PlainMaps.{pair}
use Rattle.refinement.proofs.LiveTables.{Buckets}

-- an entry's key and value
unfoldable pub pair_of : List ℕ → ℕ → Pair
pair_of entries n = pair (key_of entries n) (value_of entries n)

module _ (w : World) where
  -- the entries as they are read at a place
  abbrev pub read_at : Place → List ℕ
  read_at p = entries_at w.state (current w) (other w) w.entries p

  -- and at some, one after another
  unfoldable pub entries_of : List Place → List ℕ
  entries_of [] = []
  entries_of (p ∷ ps) = read_at p ++ entries_of ps

  of_entries : (n : ℕ) (ps : List Place) → In n (entries_of ps) → (p : Place) × In p ps × In n (read_at p)
  unfolding entries_of
  of_entries n [] i = elim i [ ]
  of_entries n (p ∷ ps) i =
      ⊎_elim (λ j. (p, inl refl, j)) (λ j. let (q, k, l) = of_entries n ps j in (q, inr k, l))
      (in_either n (read_at p) (entries_of ps) i)

  in_entries : (n : ℕ) (p : Place) (ps : List Place) → In p ps → In n (read_at p) → In n (entries_of ps)
  unfolding entries_of
  in_entries n p [] i i' = elim i [ ]
  in_entries n p (q ∷ ps) (inl e) i = in_left n (read_at q) (entries_of ps) (subst (λ r. In n (read_at r)) e i)
  in_entries n p (q ∷ ps) (inr j) i = in_right n (read_at q) (entries_of ps) (in_entries n p ps j i)

  module _ (u : UndamagedAt w) where
    -- at live places every chain is sound, ..
    live_read : (ps : List Place) → ((p : Place) → In p ps → Live w.state p)
        → chains_at w.state (current w) (other w) w.entries ps ≡ some (entries_of ps)
    unfolding chains_at joined entries_of UndamagedAt
    live_read [] live = refl
    live_read (p ∷ ps) live = ap₂ joined (u.chains_sound p (live p (inl refl))) (live_read ps (λ q i. live q (inr i)))

    -- .. and no entry is twice on one or on two
    live_once : (ps : List Place) → ((p : Place) → In p ps → Live w.state p) → Distinct ps → Distinct (entries_of ps)
    unfolding entries_of UndamagedAt
    live_once [] live d = tt
    live_once (p ∷ ps) live d =
        let shape = undamaged_shape u in
        let here = live p (inl refl) in
        distinct_append (read_at p) (entries_of ps) (rw (entries_at_lem shape p here) (shape_distinct shape p here))
        (live_once ps (λ q i. live q (inr i)) d.1)
        (λ n i j.
        let (q, k, l) = of_entries n ps j in
        d.0 (rw (u.on_one_chain n p q here (live q (inr k)) i l) k))

    module _ (ps : List Place) (h : Buckets (size_of w.state) ps) where
      abbrev ns : List ℕ
      ns = entries_of ps

      live_at : (p : Place) → In p ps → Live w.state p
      unfolding Live
      live_at p i = let (t, b, e, l) = h.each p i in rw e l

      pub read_some : chains_at w.state (current w) (other w) w.entries ps ≡ some ns
      read_some = live_read ps live_at

      -- an entry of theirs is in one of them
      filed : (n : ℕ) → In n ns
          → (t : Table) × (b : ℕ) × (b < size_of w.state t) × In (Place.bucket t b) ps × In n (read_at (Place.bucket t b))
      filed n i =
          let (p, j, k) = of_entries n ps i in
          let (t, b, e, l) = h.each p j in
          (t, b, l, rw e at j, rw e at k)

      -- so they are no more than the keys held, ..
      pub entries_fit : length ns ≤ w.state.old_used + w.state.new_used
      unfolding UndamagedAt Live IsBucket
      entries_fit =
          fits_held u ns (live_once ps live_at h.once)
          (λ n i. let (t, b, l, j, k) = filed n i in (Place.bucket t b, l, tt, k))

      -- .. no two have one key, ..
      pub keys_once : Distinct (map (key_of w.entries) ns)
      unfolding UndamagedAt
      keys_once =
          distinct_map (key_of w.entries) ns
          (λ n m i j e.
          let (t, a, l, _, k) = filed n i in
          let (t', b, l', _, k') = filed m j in
          u.keys_distinct n m t t' a b l l' k k' e)
          (live_once ps live_at h.once)

      pub pair_keys_once : Distinct (keys_of (map (pair_of w.entries) ns))
      unfolding keys_of pair_of
      pair_keys_once = rw (map-map (λ (p : Pair). p.key) (pair_of w.entries) ns) keys_once

      -- .. and their pairs are those that are held there
      pub of_pairs : (p : Pair) → In p (map (pair_of w.entries) ns)
          → (k : Held w p.key p.value) × In (Place.bucket k.table k.index) ps
      unfolding pair_of
      of_pairs p i =
          let (n, j, e) = of_map (pair_of w.entries) p ns i in
          let (t, b, l, k, there) = filed n j in (
            record {
              entry = n;
              table = t;
              index = b;
              live = l;
              there = there;
              its_key = ap (λ (q : Pair). q.key) (sym e);
              its_value = ap (λ (q : Pair). q.value) (sym e);
            },
            k,
          )

      pub in_pairs : {key value : ℕ} (k : Held w key value) → In (Place.bucket k.table k.index) ps
          → In (pair key value) (map (pair_of w.entries) ns)
      unfolding pair_of
      in_pairs {key} {value} k i =
          let same : pair_of w.entries k.entry ≡ pair key value =
          λ j. record { key = k.its_key j; value = k.its_value j } in
          let there = in_entries k.entry (Place.bucket k.table k.index) ps i k.there in
          rw same at (in_map (pair_of w.entries) k.entry ns there)
