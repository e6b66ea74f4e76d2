-- Memory written along lists: chains linked anew, heads set, and entries freed. Each list is then linked, and what stands in
-- none of them is as before.
-- Assumes nothing.
use Prim.Native.Nat.{ℕ, zero, suc, ◌*◌, ◌<◌, ◌≤◌}
use mathlib.Core.Path.{◌≡◌, refl, sym, subst, ◌∙◌}
use mathlib.Core.Logic.{inl, inr, ⊎_elim}
use mathlib.Core.List.{List, [], ◌∷◌}
use native.Mathlib.Decide.{dec_lt, ℕ_discrete}
use native.Mathlib.Omega.{arith}
use lib.ListN.{length, get_or, length-set}
use lib.Seq.{get_or-set_same, get_or-set_other}
use Rattle.cursor.specs.Member.{In, Distinct}
use Rattle.model.specs.Memory.{link_of, key_of, value_of, set_link, set_key, set_entry}
use Rattle.model.proofs.Fields.{length_set_link, length_set_key, length_set_entry, link_set_same, key_set_link, value_set_link, key_set_same, value_set_same, key_set_other, value_set_other, link_set_key, link_set_value, key_set_value, value_set_key}
use Rattle.model.proofs.Linked.{Linked, link_set_other, linked_kept}
use Rattle.model.specs.Repair.{first_or0, chained, chained_all, headed, freed}

-- entries of a buffer that is long enough
abbrev pub InRange : ℕ → List ℕ → Type 0
InRange most ns = (n : ℕ) → In n ns → (0 < n) × (n ≤ most)

-- One chain.

pub length_chained : (e ns : List ℕ) → length (chained e ns) ≡ length e
unfolding chained
length_chained e [] = refl
length_chained e (n ∷ ns) = length_chained (set_link e n (first_or0 ns)) ns ∙ length_set_link e n (first_or0 ns)

pub key_chained : (e ns : List ℕ) (m : ℕ) → key_of (chained e ns) m ≡ key_of e m
unfolding chained
key_chained e [] m = refl
key_chained e (n ∷ ns) m = key_chained (set_link e n (first_or0 ns)) ns m ∙ key_set_link e n m (first_or0 ns)

pub value_chained : (e ns : List ℕ) (m : ℕ) → value_of (chained e ns) m ≡ value_of e m
unfolding chained
value_chained e [] m = refl
value_chained e (n ∷ ns) m = value_chained (set_link e n (first_or0 ns)) ns m ∙ value_set_link e n m (first_or0 ns)

pub link_chained : (e ns : List ℕ) (m : ℕ) → (In m ns → ⊥) → link_of (chained e ns) m ≡ link_of e m
unfolding chained
link_chained e [] m f = refl
link_chained e (n ∷ ns) m f =
    link_chained (set_link e n (first_or0 ns)) ns m (λ i. f (inr i)) ∙ link_set_other e n m (first_or0 ns) (λ h. f (inl h))

pub chained_linked : (e : List ℕ) (most : ℕ) (ns : List ℕ) → most * 3 ≤ length e → Distinct ns → InRange most ns
    → Linked (chained e ns) most (first_or0 ns) ns
unfolding chained Linked first_or0
chained_linked e most [] l d r = refl
chained_linked e most (n ∷ ns) l d r =
    let (z, k) = r n (inl refl) in
    let e' = set_link e n (first_or0 ns) in
    let its_link : link_of (chained e' ns) n ≡ first_or0 ns =
    link_chained e' ns n d.0 ∙ link_set_same e n (first_or0 ns) z (omega arith) in (
      refl,
      z,
      k,
      subst (λ (at : ℕ). Linked (chained e' ns) most at ns) (sym its_link)
          (chained_linked e' most ns (omega (arith, length_set_link e n (first_or0 ns))) d.1 (λ m i. r m (inr i))),
    )

-- The chains of a table.

module _ (f : ℕ → List ℕ) (e : List ℕ) where
  pub length_chained_all : (n : ℕ) → length (chained_all f e n) ≡ length e
  unfolding chained_all
  length_chained_all zero = refl
  length_chained_all (suc n) = length_chained (chained_all f e n) (f n) ∙ length_chained_all n

  pub key_chained_all : (n m : ℕ) → key_of (chained_all f e n) m ≡ key_of e m
  unfolding chained_all
  key_chained_all zero m = refl
  key_chained_all (suc n) m = key_chained (chained_all f e n) (f n) m ∙ key_chained_all n m

  pub value_chained_all : (n m : ℕ) → value_of (chained_all f e n) m ≡ value_of e m
  unfolding chained_all
  value_chained_all zero m = refl
  value_chained_all (suc n) m = value_chained (chained_all f e n) (f n) m ∙ value_chained_all n m

  pub link_chained_all : (n m : ℕ) → ((b : ℕ) → b < n → In m (f b) → ⊥) → link_of (chained_all f e n) m ≡ link_of e m
  unfolding chained_all
  link_chained_all zero m h = refl
  link_chained_all (suc n) m h =
      link_chained (chained_all f e n) (f n) m (h n (omega arith)) ∙ link_chained_all n m (λ b l. h b (omega arith))

  pub chained_all_linked : (most n : ℕ) → most * 3 ≤ length e → ((b : ℕ) → Distinct (f b)) → ((b : ℕ) → InRange most (f b))
      → ((a b m : ℕ) → a < b → In m (f a) → In m (f b) → ⊥)
      → (b : ℕ) → b < n → Linked (chained_all f e n) most (first_or0 (f b)) (f b)
  unfolding chained_all
  chained_all_linked most zero l d r apart b k = absurd (omega arith)
  chained_all_linked most (suc n) l d r apart b k =
      elim (dec_lt b n) [
        | yes j ↦
            linked_kept (chained_all f e n) (chained (chained_all f e n) (f n)) most (first_or0 (f b)) (f b)
            (λ m i. link_chained (chained_all f e n) (f n) m (λ h. apart b n m j i h))
            (chained_all_linked most n l d r apart b j)
        | no j ↦
            let same : n ≡ b = omega arith in
            subst (λ (c : ℕ). Linked (chained (chained_all f e n) (f n)) most (first_or0 (f c)) (f c)) same
            (chained_linked (chained_all f e n) most (f n) (omega (arith, length_chained_all n)) (d n) (r n))
      ]

  -- Heads.

  pub length_headed : (n : ℕ) → length (headed f e n) ≡ length e
  unfolding headed
  length_headed zero = refl
  length_headed (suc n) = length-set (headed f e n) n (first_or0 (f n)) ∙ length_headed n

  pub head_headed : (n b : ℕ) → n ≤ length e → b < n → get_or (headed f e n) b 0 ≡ first_or0 (f b)
  unfolding headed
  head_headed zero b l k = absurd (omega arith)
  head_headed (suc n) b l k =
      elim (ℕ_discrete b n) [
        | yes same ↦
            rw same (get_or-set_same (headed f e n) n (first_or0 (f n)) 0 (omega (arith, length_headed n)))
        | no d ↦ get_or-set_other (headed f e n) n b (first_or0 (f n)) 0 d ∙ head_headed n b (omega arith) (omega arith)
      ]

-- Freed entries.

module _ (e : List ℕ) (n m l k v : ℕ) where
  link_entry_other : (m ≡ n → ⊥) → link_of (set_entry e n l k v) m ≡ link_of e m
  unfolding set_entry
  link_entry_other d =
      link_set_value (set_key (set_link e n l) n k) n m v ∙ link_set_key (set_link e n l) n m k ∙ link_set_other e n m l d

  key_entry_other : (m ≡ n → ⊥) → key_of (set_entry e n l k v) m ≡ key_of e m
  unfolding set_entry
  key_entry_other d =
      key_set_value (set_key (set_link e n l) n k) n m v ∙ key_set_other (set_link e n l) n m k d ∙ key_set_link e n m l

  value_entry_other : (m ≡ n → ⊥) → value_of (set_entry e n l k v) m ≡ value_of e m
  unfolding set_entry
  value_entry_other d =
      value_set_other (set_key (set_link e n l) n k) n m v d ∙ value_set_key (set_link e n l) n m k ∙ value_set_link e n m l

link_entry_same : (e : List ℕ) (n l k v : ℕ) → 0 < n → n * 3 ≤ length e → link_of (set_entry e n l k v) n ≡ l
unfolding set_entry
link_entry_same e n l k v z h =
    link_set_value (set_key (set_link e n l) n k) n n v ∙ link_set_key (set_link e n l) n n k ∙ link_set_same e n l z h

module _ (e : List ℕ) (n l k v : ℕ) (z : 0 < n) (h : n * 3 ≤ length e) where
  key_entry_same : key_of (set_entry e n l k v) n ≡ k
  unfolding set_entry
  key_entry_same =
      key_set_value (set_key (set_link e n l) n k) n n v
      ∙ key_set_same (set_link e n l) n k z (omega (arith, length_set_link e n l))

  value_entry_same : value_of (set_entry e n l k v) n ≡ v
  unfolding set_entry
  value_entry_same =
      value_set_same (set_key (set_link e n l) n k) n v z
      (omega (arith, length_set_key (set_link e n l) n k, length_set_link e n l))

pub length_freed : (e ns : List ℕ) → length (freed e ns) ≡ length e
unfolding freed
length_freed e [] = refl
length_freed e (n ∷ ns) = length_set_entry (freed e ns) n (first_or0 ns) 0 0 ∙ length_freed e ns

pub link_freed : (e ns : List ℕ) (m : ℕ) → (In m ns → ⊥) → link_of (freed e ns) m ≡ link_of e m
unfolding freed
link_freed e [] m f = refl
link_freed e (n ∷ ns) m f =
    link_entry_other (freed e ns) n m (first_or0 ns) 0 0 (λ h. f (inl h)) ∙ link_freed e ns m (λ i. f (inr i))

pub key_freed : (e ns : List ℕ) (m : ℕ) → (In m ns → ⊥) → key_of (freed e ns) m ≡ key_of e m
unfolding freed
key_freed e [] m f = refl
key_freed e (n ∷ ns) m f =
    key_entry_other (freed e ns) n m (first_or0 ns) 0 0 (λ h. f (inl h)) ∙ key_freed e ns m (λ i. f (inr i))

pub value_freed : (e ns : List ℕ) (m : ℕ) → (In m ns → ⊥) → value_of (freed e ns) m ≡ value_of e m
unfolding freed
value_freed e [] m f = refl
value_freed e (n ∷ ns) m f =
    value_entry_other (freed e ns) n m (first_or0 ns) 0 0 (λ h. f (inl h)) ∙ value_freed e ns m (λ i. f (inr i))

module _ (e : List ℕ) (most : ℕ) (l : most * 3 ≤ length e) where
  pub freed_linked : (ns : List ℕ) → Distinct ns → InRange most ns → Linked (freed e ns) most (first_or0 ns) ns
  unfolding freed Linked first_or0
  freed_linked [] d r = refl
  freed_linked (n ∷ ns) d r =
      let (z, k) = r n (inl refl) in
      let e' = freed e ns in
      let its_link : link_of (set_entry e' n (first_or0 ns) 0 0) n ≡ first_or0 ns =
      link_entry_same e' n (first_or0 ns) 0 0 z (omega (arith, length_freed e ns)) in (
        refl,
        z,
        k,
        subst (λ (at : ℕ). Linked (set_entry e' n (first_or0 ns) 0 0) most at ns) (sym its_link)
            (linked_kept e' (set_entry e' n (first_or0 ns) 0 0) most (first_or0 ns) ns
            (λ m i. link_entry_other e' n m (first_or0 ns) 0 0 (λ same. d.0 (subst (λ (j : ℕ). In j ns) same i)))
            (freed_linked ns d.1 (λ m i. r m (inr i)))),
      )

  -- with key and value zeroed

  pub key_zeroed : (ns : List ℕ) (m : ℕ) → InRange most ns → In m ns → key_of (freed e ns) m ≡ 0
  unfolding freed
  key_zeroed [] m r i = elim i [ ]
  key_zeroed (n ∷ ns) m r i =
      elim (ℕ_discrete m n) [
        | yes same ↦
            let (z, k) = r n (inl refl) in
            rw same (key_entry_same (freed e ns) n (first_or0 ns) 0 0 z (omega (arith, length_freed e ns)))
        | no d ↦
            key_entry_other (freed e ns) n m (first_or0 ns) 0 0 d
            ∙ key_zeroed ns m (λ k j. r k (inr j)) (⊎_elim (λ same. absurd (d same)) (λ j. j) i)
      ]

  pub value_zeroed : (ns : List ℕ) (m : ℕ) → InRange most ns → In m ns → value_of (freed e ns) m ≡ 0
  unfolding freed
  value_zeroed [] m r i = elim i [ ]
  value_zeroed (n ∷ ns) m r i =
      elim (ℕ_discrete m n) [
        | yes same ↦
            let (z, k) = r n (inl refl) in
            rw same (value_entry_same (freed e ns) n (first_or0 ns) 0 0 z (omega (arith, length_freed e ns)))
        | no d ↦
            value_entry_other (freed e ns) n m (first_or0 ns) 0 0 d
            ∙ value_zeroed ns m (λ k j. r k (inr j)) (⊎_elim (λ same. absurd (d same)) (λ j. j) i)
      ]
