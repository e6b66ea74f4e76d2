-- What a lookup answers in a store of a shape: the entry that has the key, where it stands in the key's own bucket, or that no
-- live bucket has the key. No chain is found damaged.
-- Assumes nothing.
use Prim.Native.Nat.{ℕ}
use mathlib.Core.Path.{◌≡◌, refl, sym, ap, subst, ◌∙◌}
use mathlib.Core.Logic.{inl, inr}
use mathlib.Core.Bool.{Bool, true, false, cond}
use mathlib.Core.List.{List, [], ◌∷◌, ◌++◌}
use native.Mathlib.Omega.{arith}
use lib.Dec.{eqb}
use borrow.Author.Tests.{eqb-true, eqb-false}
use Rattle.cursor.specs.Member.{In}
use Rattle.model.specs.declared.State.{State}
use Rattle.model.specs.declared.Lookup.{Lookup}
use Rattle.model.specs.declared.Table.{Table}
use Rattle.model.specs.Memory.{Place, Live, key_place, key_of, last_or}
use Rattle.model.specs.Calls.{first_with, searched, both, lookup_in, lookup_while, lookup}
use Rattle.model.proofs.Lists.{in_right}
use Rattle.invariant.proofs.Shape.{Home, IsBucket, Shape}
use Rattle.invariant.proofs.Places.{key_bucket, LiveTable, old_live, table_live, key_live}
use Rattle.invariant.proofs.ToUndamaged.{chain_at_lem}

-- an entry with the key, and the one before it, in the key's bucket of a table
pub record FoundAt {s : State} {current other entries : List ℕ} (h : Shape s current other entries)
    (key : ℕ) (t : Table) (before n : ℕ) : Type 0 where
  pub live : Live s (key_place s key t)
  pub bucket : IsBucket (key_place s key t)
  pub us : List ℕ
  pub vs : List ℕ
  pub split : h.at (key_place s key t) ≡ us ++ (n ∷ vs)
  pub before_last : before ≡ last_or 0 us
  pub its_key : key_of entries n ≡ key

-- The first entry with the key in a list: where it stands, or that no entry has the key.

unfoldable pub FirstIn : List ℕ → ℕ → Table → ℕ → List ℕ → Lookup → Type 0
FirstIn entries key t before ns Lookup.Damaged = ⊥
FirstIn entries key t before ns Lookup.Absent = (n : ℕ) → In n ns → key_of entries n ≡ key → ⊥
FirstIn entries key t before ns (Lookup.At t' before' n) =
    (us vs : List ℕ) × (ns ≡ us ++ (n ∷ vs)) × (before' ≡ last_or before us) × (key_of entries n ≡ key) × (t' ≡ t)

module _ (entries : List ℕ) (key : ℕ) (t : Table) where
  -- one entry more in front, whose key is another one
  first_behind : (before m : ℕ) (ns : List ℕ) (r : Lookup) → (key_of entries m ≡ key → ⊥)
      → FirstIn entries key t m ns r → FirstIn entries key t before (m ∷ ns) r
  unfolding FirstIn last_or
  first_behind before m ns Lookup.Damaged f h = h
  first_behind before m ns Lookup.Absent f h = none_here
    where
      none_here : (n : ℕ) → In n (m ∷ ns) → key_of entries n ≡ key → ⊥
      none_here n (inl e) k = f (cc)
      none_here n (inr i) k = h n i k
  first_behind before m ns (Lookup.At t' before' n) f (us, vs, same, last, k, e) =
      (m ∷ us, vs, ap (λ (l : List ℕ). m ∷ l) same, last, k, e)

  -- what the search of a list answers
  pub first_in : (before : ℕ) (ns : List ℕ) → FirstIn entries key t before ns (first_with entries key t before ns)
  unfolding FirstIn first_with last_or
  first_in before [] = λ n i k. i
  first_in before (m ∷ ns) = pick (eqb (key_of entries m) key) refl (first_in m ns)
    where
      pick : (f : Bool) → eqb (key_of entries m) key ≡ f → FirstIn entries key t m ns (first_with entries key t m ns)
          → FirstIn entries key t before (m ∷ ns) (cond f (Lookup.At t before m) (first_with entries key t m ns))
      pick true e h = ([], ns, refl, refl, eqb-true (key_of entries m) key e, refl)
      pick false e h =
          first_behind before m ns (first_with entries key t m ns) (eqb-false (key_of entries m) key e) h

module _ {s : State} {current other entries : List ℕ} (h : Shape s current other entries) where
  -- no entry of a live bucket has the key
  abbrev pub NotHeld : ℕ → Type 0
  NotHeld key = (p : Place) → Live s p → IsBucket p → (n : ℕ) → In n (h.at p) → key_of entries n ≡ key → ⊥

  -- what a lookup's answer says of the shape
  unfoldable Looked : ℕ → Lookup → Type 0
  Looked key Lookup.Damaged = ⊥
  Looked key Lookup.Absent = NotHeld key
  Looked key (Lookup.At t before n) = FoundAt h key t before n

  -- a live bucket that has an entry with the key is the key's own
  own_place : (key n : ℕ) (p : Place) → Live s p → IsBucket p → In n (h.at p) → key_of entries n ≡ key
      → (t : Table) × (key_place s key t ≡ p) × LiveTable s t
  unfolding Live IsBucket Home key_place
  own_place key n p l b i k = pick p l b (subst (λ (m : ℕ). Home s m p) k (h.home n p l i))
    where
      pick : (q : Place) → Live s q → IsBucket q → Home s key q → (t : Table) × (key_place s key t ≡ q) × LiveTable s t
      pick Place.free l b e = absurd b
      pick (Place.bucket t c) l b e = (t, ap (Place.bucket t) e, table_live h t c l)

  module _ (key : ℕ) where
    -- what an answer says of one table
    InTable : Table → Lookup → Type 0
    InTable t r = FirstIn entries key t 0 (h.at (key_place s key t)) r

    -- the chain read there is the shape's
    table_looked : (t : Table) → LiveTable s t → InTable t (lookup_in s current other entries key t)
    unfolding InTable lookup_in searched
    table_looked t live =
        let read = ap (searched entries key t 0) (chain_at_lem h (key_place s key t) (key_live h key t live)) in
        subst (λ (r : Lookup). FirstIn entries key t 0 (h.at (key_place s key t)) r) (sym read)
        (first_in entries key t 0 (h.at (key_place s key t)))

    -- found in one table
    found_in_table : (t : Table) → LiveTable s t → (t' : Table) (before n : ℕ)
        → InTable t (Lookup.At t' before n) → FoundAt h key t' before n
    unfolding InTable FirstIn
    found_in_table t live t' before n (us, vs, same, last, k, e) =
        subst (λ (u : Table). FoundAt h key u before n) (sym e)
        (record {
          live = key_live h key t live;
          bucket = key_bucket s key t;
          us = us;
          vs = vs;
          split = same;
          before_last = last;
          its_key = k;
        })

    -- absent from every table
    absent_from_all : InTable Table.Old Lookup.Absent → (s.rehashing ≡ true → InTable Table.New Lookup.Absent) → NotHeld key
    unfolding InTable FirstIn LiveTable
    absent_from_all f g p l b n i k = let (t, e, live) = own_place key n p l b i k in pick t e live
      where
        pick : (t : Table) → key_place s key t ≡ p → LiveTable s t → ⊥
        pick Table.New e live = g (live refl) n (subst (λ (q : Place). In n (h.at q)) (sym e) i) k
        pick Table.Old e live = f n (subst (λ (q : Place). In n (h.at q)) (sym e) i) k

    -- during a rehash
    looked_in_both : (old new : Lookup) → s.rehashing ≡ true → InTable Table.Old old → InTable Table.New new
        → Looked key (both old new)
    unfolding both Looked InTable FirstIn LiveTable
    looked_in_both Lookup.Damaged new e o w = o
    looked_in_both Lookup.Absent Lookup.Damaged e o w = w
    looked_in_both Lookup.Absent Lookup.Absent e o w = absent_from_all o (λ f. w)
    looked_in_both Lookup.Absent (Lookup.At t before n) e o w = found_in_table Table.New (λ f. e) t before n w
    looked_in_both (Lookup.At t before n) Lookup.Damaged e o w = absurd w
    looked_in_both (Lookup.At t before n) Lookup.Absent e o w = found_in_table Table.Old (old_live s) t before n o
    looked_in_both (Lookup.At t before n) (Lookup.At t' before' n') e o w =
        found_in_table Table.Old (old_live s) t before n o

    -- and with one table
    looked_in_one : (old : Lookup) → s.rehashing ≡ false → InTable Table.Old old → Looked key old
    unfolding Looked InTable FirstIn
    looked_in_one Lookup.Damaged f o = o
    looked_in_one Lookup.Absent f o = absent_from_all o (λ e. let z : ◌≡◌ {A = ℕ} 0 1 = cc in absurd (omega arith))
    looked_in_one (Lookup.At t before n) f o = found_in_table Table.Old (old_live s) t before n o

    -- a lookup finds the entry that has the key, or the key is not held
    looked_up : Looked key (lookup s current other entries key)
    unfolding lookup lookup_while LiveTable
    looked_up = pick s.rehashing refl
      where
        pick : (f : Bool) → s.rehashing ≡ f → Looked key (lookup_while f s current other entries key)
        pick true e =
            looked_in_both _ _ e (table_looked Table.Old (old_live s)) (table_looked Table.New (λ f. e))
        pick false e = looked_in_one _ e (table_looked Table.Old (old_live s))

    -- what was found stands in the key's bucket
    pub found_at : (t : Table) (before n : ℕ) → lookup s current other entries key ≡ Lookup.At t before n
        → FoundAt h key t before n
    unfolding Looked
    found_at t before n e = subst (Looked key) e looked_up

    -- and is one of its entries
    found_there : (t : Table) (before n : ℕ) → FoundAt h key t before n → In n (h.at (key_place s key t))
    found_there t before n f = subst (In n) (sym f.split) (in_right n f.us (n ∷ f.vs) (inl refl))

    -- a key that is held is found, at its entry
    pub lookup_held : (n : ℕ) (p : Place) → Live s p → IsBucket p → In n (h.at p) → key_of entries n ≡ key
        → (t : Table) × (before : ℕ) × (lookup s current other entries key ≡ Lookup.At t before n)
    unfolding Looked
    lookup_held n p l b i k = pick (lookup s current other entries key) looked_up
      where
        pick : (r : Lookup) → Looked key r → (t : Table) × (before : ℕ) × (r ≡ Lookup.At t before n)
        pick Lookup.Damaged f = absurd f
        pick Lookup.Absent f = absurd (f p l b n i k)
        pick (Lookup.At t before m) f =
            let same = h.keys_distinct m n (key_place s key t) p f.live l f.bucket b (found_there t before m f) i
            (f.its_key ∙ sym k) in
            (t, before, ap (Lookup.At t before) same)

    -- a key that is not held is absent
    pub lookup_none : NotHeld key → lookup s current other entries key ≡ Lookup.Absent
    unfolding Looked
    lookup_none none_held = pick (lookup s current other entries key) looked_up
      where
        pick : (r : Lookup) → Looked key r → r ≡ Lookup.Absent
        pick Lookup.Damaged f = absurd f
        pick Lookup.Absent f = refl
        pick (Lookup.At t before m) f =
            absurd (none_held (key_place s key t) f.live f.bucket m (found_there t before m f) f.its_key)
