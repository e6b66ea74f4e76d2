-- Entry buffers that agree but for the links of some entries, and that what is written to both alike agrees on more.
-- Assumes nothing.
use Prim.Native.Nat.{ℕ, zero, suc, ◌+◌, ◌-◌, ◌*◌, ◌≤◌, ◌<◌}
use mathlib.Core.Path.{◌≡◌, refl, sym, ap, subst, ◌∙◌}
use mathlib.Core.Logic.{inl, inr}
use mathlib.Core.List.{List, [], ◌∷◌}
use native.Mathlib.Numerals.{sub-one}
use native.Mathlib.Decide.{dec_lt, ℕ_discrete}
use native.Mathlib.Omega.{arith}
use lib.ListN.{length, get_or, set, length-set}
use lib.Seq.{get_or-set_same, get_or-set_other, set_out, ext_get_or}
use Rattle.cursor.specs.Member.{In}
use Rattle.model.specs.Memory.{key_of, set_link, set_key, set_value, set_entry}
use Rattle.model.proofs.Fields.{length_set_link}
use Rattle.model.specs.Repair.{first_or0, chained, chained_all, freed}
use Rattle.model.proofs.Relinked.{InRange, length_chained_all, length_freed}

-- but for the links of the entries of P
pub record Agree (P : ℕ → Type 0) (e e' : List ℕ) : Type 0 where
  pub long : length e ≡ length e'
  pub same : (i : ℕ) → ((n : ℕ) → 0 < n → P n → i ≡ (n - 1) * 3 → ⊥) → get_or e i 0 ≡ get_or e' i 0

pub agree_self : (P : ℕ → Type 0) (e : List ℕ) → Agree P e e
agree_self P e = record { long = refl; same = λ i f. refl }

module _ {P : ℕ → Type 0} {e e' : List ℕ} (h : Agree P e e') where
  pub agree_key : (n : ℕ) → key_of e n ≡ key_of e' n
  unfolding key_of
  agree_key zero = refl
  agree_key (suc n) = h.same (n * 3 + 1) (λ m z p f. omega arith)

  pub agree_wider : (Q : ℕ → Type 0) → ((n : ℕ) → P n → Q n) → Agree Q e e'
  agree_wider Q f = record { long = h.long; same = λ i g. h.same i (λ n z p. g n z (f n p)) }

  -- a link written to one of them
  pub agree_written : (n x : ℕ) → P n → Agree P (set_link e n x) e'
  unfolding set_link
  agree_written zero x p = h
  agree_written (suc n) x p =
      record {
        long = length-set e (n * 3) x ∙ h.long;
        same =
            λ i f.
            get_or-set_other e (n * 3) i x 0
            (λ g. let at : i ≡ (suc n - 1) * 3 = rw sub-one g in f (suc n) (omega arith) p at)
            ∙ h.same i f;
      }

  -- a number written to both
  pub agree_both : (j x : ℕ) → Agree P (set e j x) (set e' j x)
  agree_both j x =
      record {
        long = length-set e j x ∙ h.long ∙ sym (length-set e' j x);
        same =
            λ i f.
            elim (ℕ_discrete i j) [
              | yes g ↦
                  elim (dec_lt j (length e)) [
                    | yes l ↦
                        rw g
                        (get_or-set_same e j x 0 l
                        ∙ sym (get_or-set_same e' j x 0 (let long = h.long in omega arith)))
                    | no l ↦
                        rw (set_out e j x (omega arith), set_out e' j x (let long = h.long in omega arith)) (h.same i f)
                  ]
              | no g ↦ get_or-set_other e j i x 0 g ∙ h.same i f ∙ sym (get_or-set_other e' j i x 0 g)
            ];
      }

  -- a link written to both
  pub agree_link_both : (n x : ℕ) → 0 < n → n * 3 ≤ length e
      → Agree (λ m. P m × (m ≡ n → ⊥)) (set_link e n x) (set_link e' n x)
  unfolding set_link
  agree_link_both zero x z l = absurd (omega arith)
  agree_link_both (suc n) x z l =
      let both = agree_both (n * 3) x in
      record {
        long = both.long;
        same =
            λ i f.
            elim (ℕ_discrete i (n * 3)) [
              | yes g ↦
                  rw g
                  (get_or-set_same e (n * 3) x 0 (omega arith)
                  ∙ sym (get_or-set_same e' (n * 3) x 0 (let long = h.long in omega arith)))
              | no g ↦
                  both.same i
                  (λ m q p k. f m q (p, λ s. g (let at : (suc n - 1) * 3 ≡ n * 3 = rw sub-one in k ∙ ap (λ (y : ℕ). (y - 1) * 3) s ∙ at)) k)
            ];
      }

pub agree_entry : {P : ℕ → Type 0} {e e' : List ℕ} → Agree P e e' → (n l k v : ℕ) → 0 < n → n * 3 ≤ length e
    → Agree (λ m. P m × (m ≡ n → ⊥)) (set_entry e n l k v) (set_entry e' n l k v)
unfolding set_entry set_key set_value
agree_entry h zero l k v z f = absurd (omega arith)
agree_entry h (suc n) l k v z f = agree_both (agree_both (agree_link_both h (suc n) l z f) (n * 3 + 1) k) (n * 3 + 2) v

not_in : (m n : ℕ) (ns : List ℕ) → (m ≡ n → ⊥) → (In m ns → ⊥) → In m (n ∷ ns) → ⊥
not_in m n ns f g (inl e) = f e
not_in m n ns f g (inr i) = g i

module _ (most : ℕ) where
  pub agree_chained : (P : ℕ → Type 0) (e e' ns : List ℕ) → Agree P e e' → most * 3 ≤ length e
      → InRange most ns → Agree (λ m. P m × (In m ns → ⊥)) (chained e ns) (chained e' ns)
  unfolding chained
  agree_chained P e e' [] h l r = agree_wider h (λ m. P m × (In m [] → ⊥)) (λ m p. (p, λ i. i))
  agree_chained P e e' (n ∷ ns) h l r =
      let (z, k) = r n (inl refl) in
      agree_wider
      (agree_chained (λ m. P m × (m ≡ n → ⊥)) (set_link e n (first_or0 ns)) (set_link e' n (first_or0 ns)) ns
      (agree_link_both h n (first_or0 ns) z (omega arith)) (omega (arith, length_set_link e n (first_or0 ns))) (λ m i. r m (inr i)))
      (λ m. P m × (In m (n ∷ ns) → ⊥)) (λ m p. (p.0.0, not_in m n ns p.0.1 p.1))

  pub agree_chained_all : (P : ℕ → Type 0) (f : ℕ → List ℕ) (e e' : List ℕ) → Agree P e e' → most * 3 ≤ length e
      → ((b : ℕ) → InRange most (f b)) → (b : ℕ)
      → Agree (λ m. P m × ((a : ℕ) → a < b → In m (f a) → ⊥)) (chained_all f e b) (chained_all f e' b)
  unfolding chained_all
  agree_chained_all P f e e' h l r zero = agree_wider h (λ m. P m × ((a : ℕ) → a < 0 → In m (f a) → ⊥)) (λ m p. (p, λ a k i. omega arith))
  agree_chained_all P f e e' h l r (suc b) =
      agree_wider
      (agree_chained (λ m. P m × ((a : ℕ) → a < b → In m (f a) → ⊥)) (chained_all f e b) (chained_all f e' b) (f b)
      (agree_chained_all P f e e' h l r b) (omega (arith, length_chained_all f e b)) (r b))
      (λ m. P m × ((a : ℕ) → a < suc b → In m (f a) → ⊥)) (λ m p. (p.0.0, λ a k i. none m p.0.1 p.1 a k i))
    where
      none : (m : ℕ) → ((a : ℕ) → a < b → In m (f a) → ⊥) → (In m (f b) → ⊥) → (a : ℕ) → a < suc b → In m (f a) → ⊥
      none m g k a l i =
          elim (dec_lt a b) [ yes j ↦ g a j i | no j ↦ k (let same : a ≡ b = omega arith in subst (λ (c : ℕ). In m (f c)) same i) ]

  pub agree_freed : (P : ℕ → Type 0) (e e' ns : List ℕ) → Agree P e e' → most * 3 ≤ length e
      → InRange most ns → Agree (λ m. P m × (In m ns → ⊥)) (freed e ns) (freed e' ns)
  unfolding freed
  agree_freed P e e' [] h l r = agree_wider h (λ m. P m × (In m [] → ⊥)) (λ m p. (p, λ i. i))
  agree_freed P e e' (n ∷ ns) h l r =
      let (z, k) = r n (inl refl) in
      agree_wider
      (agree_entry (agree_freed P e e' ns h l (λ m i. r m (inr i))) n (first_or0 ns) 0 0 z (omega (arith, length_freed e ns)))
      (λ m. P m × (In m (n ∷ ns) → ⊥)) (λ m p. (p.0.0, not_in m n ns p.1 p.0.1))

-- buffers that agree on all
pub agree_all : (P : ℕ → Type 0) (e e' : List ℕ) → ((n : ℕ) → 0 < n → P n → ⊥) → Agree P e e' → e ≡ e'
agree_all P e e' f h = ext_get_or 0 e e' h.long (λ i l. h.same i (λ n z p g. f n z p))
