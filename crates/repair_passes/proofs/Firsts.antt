-- The second pass: over chains that are the entries met, an entry finds itself exactly if it is the first met with its key.
-- Assumes nothing.
use Prim.Native.Nat.{ℕ, zero, suc, ◌≤◌, ◌<◌}
use mathlib.Core.Path.{◌≡◌, refl, sym, ap, ◌∙◌}
use mathlib.Core.Logic.{inl, inr}
use mathlib.Core.Bool.{Bool, true, false, cond}
use mathlib.Core.List.{List, [], ◌∷◌}
use mathlib.Core.Option.{Option}
use native.Mathlib.Omega.{arith}
use lib.ListN.{length, get_or}
use lib.Dec.{eqb, eqb-suc-zero}
use borrow.Author.Tests.{ne_eqb}
use Rattle.cursor.specs.Member.{Distinct}
use Rattle.model.specs.declared.State.{State}
use Rattle.model.specs.declared.Table.{Table}
use Rattle.model.specs.declared.Lookup.{Lookup}
use Rattle.model.specs.Keys.{bucket_of}
use Rattle.model.specs.Limits.{legal_size}
use Rattle.model.specs.Memory.{key_of, in_bucket, size_of}
use Rattle.model.specs.Calls.{searched, first_with, both}
use Rattle.model.proofs.Soundness.{Sound}
use Rattle.model.proofs.Linked.{Linked, read_complete}
use Rattle.std.specs.Prelude.{Ok, Err, Some, None}
use Rattle.search.specs.Found.{Found, found_of, both_found, found_is}
use Rattle.search.specs.Tables.{searched_in}
use Rattle.model.proofs.Lists.{distinct_fits}
use Rattle.model.specs.Repair.{met_at, met_all, first_met, is_kept}
use Rattle.model.proofs.Numbers.{down_from, in_down_from, length_down_from}
use Rattle.model.proofs.Relinked.{InRange}
use Rattle.model.proofs.Kept.{met, met_facts, met_distinct}
use Rattle.model.proofs.FirstMet.{or_first, Positive, first_met_keys, key_below, met_for, first_resting, first_rehashing}
use Rattle.repair_passes.specs.Passes.{found_for, finds_first}

-- what a search of a list finds, where 0 is no entry

as_found : ℕ → Found
as_found found = cond (eqb found 0) (Ok None) (Ok (Some found))

found_first : (e : List ℕ) (key : ℕ) (t : Table) (before : ℕ) (ns : List ℕ) → Positive ns
    → found_of (first_with e key t before ns) ≡ as_found (first_met e key ns)
unfolding first_with first_met found_of as_found Positive
found_first e key t before [] p = refl
found_first e key t before (zero ∷ ns) p = let z = p 0 (inl refl) in absurd (omega arith)
found_first e key t before (suc n ∷ ns) p =
    by (eqb (key_of e (suc n)) key) (found_first e key t (suc n) ns (λ m i. p m (inr i)))
  where
    by : (b : Bool) → found_of (first_with e key t (suc n) ns) ≡ as_found (first_met e key ns)
        → found_of (cond b (Lookup.At t before (suc n)) (first_with e key t (suc n) ns))
        ≡ as_found (cond b (suc n) (first_met e key ns))
    by true h = rw eqb-suc-zero
    by false h = h

found_both : (a b : Lookup) → found_of (both a b) ≡ both_found (found_of a) (found_of b)
unfolding found_of both both_found
found_both Lookup.Damaged b = refl
found_both Lookup.Absent Lookup.Damaged = refl
found_both Lookup.Absent Lookup.Absent = refl
found_both Lookup.Absent (Lookup.At t before n) = refl
found_both (Lookup.At t before n) Lookup.Damaged = refl
found_both (Lookup.At t before n) Lookup.Absent = refl
found_both (Lookup.At t before n) (Lookup.At t' before' n') = refl

both_first : (x y : ℕ) → both_found (as_found x) (as_found y) ≡ as_found (or_first x y)
unfolding both_found as_found or_first
both_first zero zero = refl
both_first zero (suc y) = rw eqb-suc-zero
both_first (suc x) zero = rw eqb-suc-zero
both_first (suc x) (suc y) = rw (eqb-suc-zero, eqb-suc-zero)

found_is_lem : (x n : ℕ) → 0 < n → found_is (as_found x) n ≡ eqb x n
unfolding found_is as_found
found_is_lem zero n z = sym (ne_eqb 0 n (λ e. omega arith))
found_is_lem (suc x) n z = rw eqb-suc-zero

-- a list of different entries is no longer than the capacity
pub short_enough : (most : ℕ) (ns : List ℕ) → Distinct ns → InRange most ns → length ns ≤ most
short_enough most ns d r =
    omega (
      arith,
      distinct_fits ns (down_from most) d (λ n i. let (z, l) = r n i in in_down_from most n z l),
      length_down_from most,
    )

-- the heads are those of the chains that were met, and the entries link them
module _ (s : State) (current other entries : List ℕ) (heads : Table → List ℕ) (e : List ℕ)
    (facts : Sound s (length current) (length other) (length entries))
    (keys : (n : ℕ) → key_of e n ≡ key_of entries n)
    (linked : (t : Table) (b : ℕ) → b < size_of s t → Linked e s.capacity (get_or (heads t) b 0) (met_at s current other entries t b)) where
  -- it is read to its end
  found : (t : Table) (key : ℕ) → legal_size (size_of s t) ≡ true
      → found_of (searched_in e s.capacity s.capacity (heads t) (size_of s t) key t) ≡ as_found (first_met entries key (met_for s current other entries t key))
  unfolding searched_in searched met_for met Positive
  found t key l =
      let b = bucket_of key (size_of s t) in
      let of = met_facts s current other entries t b in
      ap (λ (o : Option (List ℕ)). found_of (searched e key t 0 o))
      (read_complete (in_bucket (size_of s t) b) e s.capacity s.capacity (get_or (heads t) b 0) (met_for s current other entries t key)
      (linked t b (key_below (size_of s t) key l)) (λ n i. rw (keys n) (of n i).2)
      (short_enough s.capacity (met_for s current other entries t key) (met_distinct s current other entries t b) (λ n i. let (z, k, p) = of n i in (z, k))))
      ∙ found_first e key t 0 (met_for s current other entries t key) (λ n i. (of n i).0)
      ∙ ap as_found (first_met_keys e entries key (met_for s current other entries t key) (λ n i. keys n))

  two_found : (key : ℕ) → s.rehashing ≡ true
      → found_of
      (both (searched_in e s.capacity s.capacity (heads Table.Old) s.old_size key Table.Old)
      (searched_in e s.capacity s.capacity (heads Table.New) s.new_size key Table.New))
      ≡ as_found (or_first (first_met entries key (met_for s current other entries Table.Old key)) (first_met entries key (met_for s current other entries Table.New key)))
  unfolding size_of
  two_found key r =
      found_both (searched_in e s.capacity s.capacity (heads Table.Old) s.old_size key Table.Old)
      (searched_in e s.capacity s.capacity (heads Table.New) s.new_size key Table.New)
      ∙ rw (found Table.Old key facts.old_legal, found Table.New key (facts.rehashing r).new_legal)
      (both_first (first_met entries key (met_for s current other entries Table.Old key)) (first_met entries key (met_for s current other entries Table.New key)))

  pub finds_kept : (n : ℕ) → 0 < n → finds_first s (heads Table.Old) (heads Table.New) e n ≡ is_kept s current other entries n
  unfolding finds_first is_kept found_for size_of
  finds_kept n z = by s.rehashing refl
    where
      by : (t : Bool) → s.rehashing ≡ t
          → found_is (found_for t s (heads Table.Old) (heads Table.New) e (key_of e n)) n
          ≡ eqb (first_met entries (key_of entries n) (met_all s current other entries)) n
      by false r =
          rw (keys n)
          (ap (λ (f : Found). found_is f n) (found Table.Old (key_of entries n) facts.old_legal)
          ∙ found_is_lem _ n z
          ∙ ap (λ (x : ℕ). eqb x n) (sym (first_resting s current other entries facts (key_of entries n) r)))
      by true r =
          rw (keys n)
          (ap (λ (f : Found). found_is f n) (two_found (key_of entries n) r)
          ∙ found_is_lem _ n z
          ∙ ap (λ (x : ℕ). eqb x n) (sym (first_rehashing s current other entries facts (key_of entries n) r)))
