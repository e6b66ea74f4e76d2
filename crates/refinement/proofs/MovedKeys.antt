-- The keys that a step moves: the unmoved keys of the lowest bucket that one of them calls for are the keys on the chain of
-- the first filled bucket. There are no unmoved keys where the old table holds none, and only there.
-- Assumes nothing.
use Prim.Native.Nat.{ℕ, ◌<◌, ◌≤◌, min}
use mathlib.Core.Path.{◌≡◌, refl, sym, ap, subst, ◌∙◌}
use mathlib.Core.Logic.{◌≢◌, ◌⊎◌, inl, inr}
use mathlib.Core.Bool.{Bool, true}
use mathlib.Core.List.{List, [], ◌∷◌, map}
use native.Mathlib.Decide.{dec_lt}
use native.Mathlib.Omega.{arith}
use lib.ListN.{length, length-map}
use lib.Dec.{eqb}
use borrow.Author.Tests.{eqb-true, eq-eqb}
use Rattle.cursor.specs.Member.{In, keep}
use Rattle.model.specs.declared.State.{State}
use Rattle.model.specs.Keys.{bucket_of}
use Rattle.model.specs.declared.Table.{Table}
use Rattle.model.specs.Memory.{Place, Live, size_of, key_of, value_of}
use Rattle.refinement.specs.Demand3.{Ideal, lowest}
use Rattle.model.proofs.Lists.{no_member, first_member, in_map, of_map, distinct_map, same_length, in_keep, of_keep, distinct_keep}
use Rattle.invariant.proofs.Shape.{Home, IsBucket}
use Rattle.invariant.proofs.LinkedChains.{shape_distinct}
use Rattle.invariant.proofs.FirstEntries.{EmptyBefore, old_empty}
use Rattle.invariant.proofs.StoreAfter.{HeldIn}
use Rattle.refinement.proofs.Agreement.{AgreesOn}
use Rattle.refinement.proofs.Fingerprints.{unmoved_count}

-- ---- the lowest bucket that some keys call for

-- of bucket b and those that the keys call for: one of these, and none is lower
lowest_is : (size b : ℕ) (ks : List ℕ)
    → ((lowest size b ks ≡ b) ⊎ ((k : ℕ) × In k ks × (bucket_of k size ≡ lowest size b ks)))
    × (lowest size b ks ≤ b)
    × ((k : ℕ) → In k ks → lowest size b ks ≤ bucket_of k size)
unfolding lowest
lowest_is size b [] = (inl refl, omega arith, λ k i. absurd i)
lowest_is size b (j ∷ ks) =
    let (met, first, others) = lowest_is size (min b (bucket_of j size)) ks in (
      by met,
      omega arith,
      λ k i. elim i [ inl e ↦ omega (arith, ap (λ (n : ℕ). bucket_of n size) e) | inr h ↦ others k h ],
    )
  where
    l : ℕ
    l = lowest size (min b (bucket_of j size)) ks

    by : (l ≡ min b (bucket_of j size)) ⊎ ((k : ℕ) × In k ks × (bucket_of k size ≡ l))
        → (l ≡ b) ⊎ ((k : ℕ) × In k (j ∷ ks) × (bucket_of k size ≡ l))
    by (inl e) =
        elim (dec_lt b (bucket_of j size)) [
          | yes h ↦ inl (e ∙ omega arith)
          | no h ↦ inr (j, inl refl, sym (e ∙ omega arith))
        ]
    by (inr (k, i, e)) = inr (k, inr i, e)

unfoldable pub lowest_of : ℕ → List ℕ → ℕ
lowest_of size [] = 0
lowest_of size (k ∷ ks) = lowest size (bucket_of k size) ks

-- one of the keys calls for it, ..
pub lowest_reached : (size : ℕ) (ks : List ℕ) → ks ≢ [] → (k : ℕ) × In k ks × (bucket_of k size ≡ lowest_of size ks)
unfolding lowest_of
lowest_reached size [] f = absurd (f refl)
lowest_reached size (k ∷ ks) f =
    elim (lowest_is size (bucket_of k size) ks).0 [ inl e ↦ (k, inl refl, sym e) | inr (j, i, e) ↦ (j, inr i, e) ]

-- .. and none for a lower one
pub lowest_below : (size : ℕ) (ks : List ℕ) (k : ℕ) → In k ks → lowest_of size ks ≤ bucket_of k size
unfolding lowest_of
lowest_below size [] k i = elim i [ ]
lowest_below size (j ∷ ks) k (inl e) =
    omega (arith, (lowest_is size (bucket_of j size) ks).1, ap (λ (n : ℕ). bucket_of n size) e)
lowest_below size (j ∷ ks) k (inr i) = (lowest_is size (bucket_of j size) ks).2 k i

-- ---- the keys in the old table

module _ {s : State} {current other entries : List ℕ} {i : Ideal} (a : AgreesOn s current other entries i) where
  abbrev at : Place → List ℕ
  at = a.shape.at

  -- a key on a chain of the old table calls for that bucket
  pub called_for_lem : (key value b : ℕ) → b < s.old_size → HeldIn entries (at (Place.bucket Table.Old b)) key value
      → bucket_of key s.old_size ≡ b
  unfolding Live Home size_of
  called_for_lem key value b l h =
      ap (λ (k : ℕ). bucket_of k s.old_size) (sym h.its_key) ∙ a.shape.home h.entry (Place.bucket Table.Old b) l h.there

  -- none, where the old table holds no keys
  pub none_unmoved : s.old_used ≡ 0 → i.unmoved ≡ []
  none_unmoved z =
      no_member i.unmoved
      (λ key j.
      let k = a.unmoved_in key j in
      subst (λ (ns : List ℕ). In k.held.entry ns) (old_empty a.shape z k.index k.live) k.held.there)

  -- and only there
  pub none_left : s.rehashing ≡ true → i.unmoved ≡ [] → s.old_used ≡ 0
  none_left rehashing e = sym (unmoved_count a rehashing) ∙ ap length e

  -- no key calls for a bucket before which every other is empty
  pub not_lower : (b : ℕ) → EmptyBefore a.shape b → (key : ℕ) → In key i.unmoved → b ≤ bucket_of key s.old_size
  not_lower b before key j =
      let h = a.unmoved_in key j in
      elim (dec_lt h.index b) [
        | yes k ↦ absurd (subst (λ (ns : List ℕ). In h.held.entry ns) (before.empty h.index k) h.held.there)
        | no k ↦ omega (arith, called_for_lem key h.value h.index h.live h.held)
      ]

  -- The first filled bucket of the old table.
  module _ (rehashing : s.rehashing ≡ true) (b : ℕ) (before : EmptyBefore a.shape b)
      (filled : at (Place.bucket Table.Old b) ≢ []) where
    -- a key there is unmoved
    held_unmoved : (key value : ℕ) → HeldIn entries (at (Place.bucket Table.Old b)) key value → In key i.unmoved
    held_unmoved key value h =
        a.in_unmoved rehashing key (record { value = value; index = b; live = before.live; held = h })

    some_held : (key : ℕ) × (value : ℕ) × HeldIn entries (at (Place.bucket Table.Old b)) key value
    some_held =
        let (n, j) = first_member (at (Place.bucket Table.Old b)) filled in
        (key_of entries n, value_of entries n, record { entry = n; there = j; its_key = refl; its_value = refl })

    pub lowest_first : lowest_of s.old_size i.unmoved ≡ b
    lowest_first =
        let (key, value, h) = some_held in
        let there = held_unmoved key value h in
        let (low, j, e) = lowest_reached s.old_size i.unmoved (λ n. subst (λ (ks : List ℕ). In key ks) n there) in
        omega
        (arith, e, not_lower b before low j, lowest_below s.old_size i.unmoved key there, called_for_lem key value b before.live h)

    -- the unmoved keys that call for it are as many as its chain has entries
    pub moved_count : length (keep (λ j. eqb (bucket_of j s.old_size) b) i.unmoved) ≡ length (at (Place.bucket Table.Old b))
    unfolding Live IsBucket size_of
    moved_count =
        same_length (keep moves i.unmoved) (map (key_of entries) ns) (distinct_keep moves i.unmoved a.unmoved_once)
        (distinct_map (key_of entries) ns
        (λ n m j k e. a.shape.keys_distinct n m (Place.bucket Table.Old b) (Place.bucket Table.Old b) before.live before.live tt tt j k e)
        (shape_distinct a.shape (Place.bucket Table.Old b) before.live))
        (λ key j.
        let (there, t) = of_keep moves key i.unmoved j in
        let h = a.unmoved_in key there in
        let same : h.index ≡ b =
        sym (called_for_lem key h.value h.index h.live h.held) ∙ eqb-true (bucket_of key s.old_size) b t in
        on_chain key h.value (subst (λ (n : ℕ). HeldIn entries (at (Place.bucket Table.Old n)) key h.value) same h.held))
        (λ key j.
        let (n, k, e) = of_map (key_of entries) key ns j in
        let h : HeldIn entries ns key (value_of entries n) =
        record { entry = n; there = k; its_key = sym e; its_value = refl } in
        in_keep moves key i.unmoved (held_unmoved key (value_of entries n) h)
        (eq-eqb (bucket_of key s.old_size) b (called_for_lem key (value_of entries n) b before.live h)))
        ∙ length-map ns (key_of entries)
      where
        moves : ℕ → Bool
        moves j = eqb (bucket_of j s.old_size) b

        ns : List ℕ
        ns = at (Place.bucket Table.Old b)

        on_chain : (key value : ℕ) → HeldIn entries ns key value → In key (map (key_of entries) ns)
        on_chain key value h =
            subst (λ (k : ℕ). In k (map (key_of entries) ns)) h.its_key (in_map (key_of entries) h.entry ns h.there)
