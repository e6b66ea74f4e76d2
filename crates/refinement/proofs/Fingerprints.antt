-- The fingerprint of a store that agrees with the ideal is the one that the ideal computes from its own sizes and counts
-- (`print_agrees`): during a rehash the old table holds as many keys as are unmoved (`unmoved_count`).
-- Assumes nothing.
use Prim.Native.Nat.{ℕ, zero, suc, ◌-◌, ◌<◌}
use mathlib.Core.Path.{◌≡◌, refl, sym, ap, subst, ◌∙◌}
use mathlib.Core.Bool.{Bool, true, false}
use mathlib.Core.List.{List, map}
use native.Mathlib.Omega.{arith}
use lib.ListN.{length, length-map}
use Rattle.cursor.specs.Member.{In, Distinct}
use Rattle.fingerprint.specs.Mix.{fingerprint}
use Rattle.model.specs.declared.State.{State}
use Rattle.model.specs.declared.Table.{Table}
use Rattle.model.specs.Memory.{Place, Live, size_of, used_of, keys_held, key_of, value_of}
use Rattle.model.specs.Calls.{old_new}
use Rattle.model.specs.Walk.{tables_by, tables_of}
use Rattle.model.specs.Iterators.{numbers_of, fingerprint_of}
use Rattle.model.specs.Sequences.{World}
use Rattle.refinement.specs.Demand3.{Ideal, live_sizes, keys_in, ideal_print}
use Rattle.model.proofs.Lists.{distinct_append, in_map, of_map, distinct_map, same_length}
use Rattle.model.proofs.Sums.{gathered, length_gathered, in_gathered, of_gathered}
use Rattle.invariant.proofs.Shape.{IsBucket, facts}
use Rattle.invariant.proofs.LinkedChains.{shape_distinct}
use Rattle.refinement.proofs.Agreement.{AgreesOn, Agrees}

-- lists with no repeats, no two of which share a member, make one
gathered_once : (f : ℕ → List ℕ) (n : ℕ) → ((b : ℕ) → b < n → Distinct (f b))
    → ((x b c : ℕ) → b < n → c < n → In x (f b) → In x (f c) → b ≡ c) → Distinct (gathered f n)
unfolding gathered
gathered_once f zero each apart = tt
gathered_once f (suc n) each apart =
    distinct_append (gathered f n) (f n)
    (gathered_once f n (λ b l. each b (omega arith)) (λ x b c l k i j. apart x b c (omega arith) (omega arith) i j))
    (each n (omega arith))
    (λ x i j.
    let (b, l, k) = of_gathered f n x i in
    omega (arith, apart x b n (omega arith) (omega arith) k j))

module _ {s : State} {current other entries : List ℕ} {i : Ideal} (a : AgreesOn s current other entries i) where
  abbrev old : ℕ → Place
  old b = Place.bucket Table.Old b

  abbrev chain : ℕ → List ℕ
  chain b = a.shape.at (old b)

  -- the entries of the old table, none twice
  abbrev ns : List ℕ
  ns = gathered chain s.old_size

  entries_once : Distinct ns
  unfolding Live size_of
  entries_once =
      gathered_once chain s.old_size (λ b l. shape_distinct a.shape (old b) l)
      (λ n b c l k i j.
      let here : a.shape.owner n ≡ old b = a.shape.owns n (old b) l i in
      let there : a.shape.owner n ≡ old c = a.shape.owns n (old c) k j in
      cc)

  -- their keys are the unmoved ones
  pub unmoved_count : s.rehashing ≡ true → length i.unmoved ≡ s.old_used
  unfolding Live IsBucket size_of used_of
  unmoved_count rehashing =
      same_length i.unmoved (map (key_of entries) ns) a.unmoved_once
      (distinct_map (key_of entries) ns
      (λ n m j k e.
      let (b, l, here) = of_gathered chain s.old_size n j in
      let (c, l', there) = of_gathered chain s.old_size m k in
      a.shape.keys_distinct n m (old b) (old c) l l' tt tt here there e)
      entries_once)
      (λ key j.
      let h = a.unmoved_in key j in
      subst (λ (k : ℕ). In k (map (key_of entries) ns)) h.held.its_key
      (in_map (key_of entries) h.held.entry ns
      (in_gathered chain s.old_size h.index h.held.entry h.live h.held.there)))
      (λ key j.
      let (n, k, e) = of_map (key_of entries) key ns j in
      let (b, l, there) = of_gathered chain s.old_size n k in
      a.in_unmoved rehashing key
      (record {
        value = value_of entries n;
        index = b;
        live = l;
        held = record { entry = n; there = there; its_key = sym e; its_value = refl };
      }))
      ∙ length-map ns (key_of entries)
      ∙ length_gathered chain s.old_size
      ∙ sym (a.shape.counts Table.Old)

  -- so the six numbers are the ideal's
  numbers_agree : (f : Bool) → s.rehashing ≡ f
      → (let t = tables_by f s.old_size s.new_size in
      numbers_of s.second_is_current (size_of s) (used_of s)
      ≡ numbers_of s.second_is_current (live_sizes t) (keys_in t (length i.plain.pairs) (length i.unmoved)))
  unfolding tables_by numbers_of size_of used_of keys_held live_sizes keys_in old_new
  numbers_agree false e =
      let resting = (facts a.shape).resting e in
      let size = resting.no_size in
      let new = resting.no_keys in
      let old : s.old_used ≡ length i.plain.pairs = omega (arith, a.count) in
      cc
  numbers_agree true e =
      let old = unmoved_count e in
      let new : s.new_used ≡ length i.plain.pairs - length i.unmoved = omega (arith, a.count) in
      cc

pub print_agrees : (w : World) (i : Ideal) → Agrees w i → fingerprint_of w.state ≡ ideal_print i
unfolding fingerprint_of ideal_print tables_of
print_agrees w i a =
    ap fingerprint (numbers_agree a w.state.rehashing refl ∙ cc (a.turned, a.tables))
