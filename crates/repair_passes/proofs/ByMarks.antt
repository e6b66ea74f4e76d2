-- The entries met on a chain by the marks are those met by the list of what was met before, and marking them marks that list.
-- Assumes nothing.
use Prim.Native.Nat.{ℕ, zero, suc, ◌≤◌, ◌<◌}
use mathlib.Core.Path.{◌≡◌, refl, sym, ap, ◌∙◌}
use mathlib.Core.Logic.{inl, inr, ⊎_elim}
use mathlib.Core.Bool.{Bool, true, false, ◌&&◌, not, cond}
use mathlib.Core.List.{List, [], ◌∷◌, ◌++◌, append-nil}
use native.Mathlib.Decide.{ℕ_discrete}
use native.Mathlib.Omega.{arith}
use lib.ListN.{length}
use lib.Dec.{leb, eqb}
use borrow.Author.Tests.{eq-eqb, ne_eqb, leb-true}
use Rattle.cursor.specs.Member.{In, any, among}
use Rattle.model.specs.Memory.{link_of, key_of, in_bucket}
use Rattle.model.proofs.Tests.{tested, tested_not, told, told_not}
use Rattle.model.proofs.Lists.{in_either, in_left, in_right, tells_among}
use Rattle.model.specs.Repair.{followed}
use Rattle.repair_passes.specs.Passes.{mark_of, set_mark, mark_all, meets, met_by_marks}
use Rattle.repair_passes.proofs.Marking.{length_set_mark, mark_same, mark_other}

-- the marks are those of some entries
abbrev pub Marks : ℕ → List ℕ → List ℕ → Type 0
Marks capacity marks ms = (n : ℕ) → 0 < n → n ≤ capacity → eqb (mark_of marks n) 0 ≡ not (among n ms)

among_one : (ms : List ℕ) (m n : ℕ) → (n ≡ m → ⊥) → among n (m ∷ ms) ≡ among n ms
unfolding among any
among_one ms m n d = rw (ne_eqb m n (λ e. d (sym e)))

among_here : (ms : List ℕ) (n : ℕ) → among n (n ∷ ms) ≡ true
unfolding among any
among_here ms n = rw (eq-eqb n n refl)

mark_one : (capacity : ℕ) (marks ms : List ℕ) (m : ℕ) → 0 < m → m ≤ length marks → Marks capacity marks ms
    → Marks capacity (set_mark marks m 1) (m ∷ ms)
mark_one capacity marks ms m z l h n p q =
    elim (ℕ_discrete n m) [
      | yes e ↦ rw (e, mark_same marks m 1 z l, among_here ms m)
      | no d ↦ rw (mark_other marks m n 1 d, among_one ms m n d) (h n p q)
    ]

same_among : (ms ns : List ℕ) (n : ℕ) → (In n ms → In n ns) → (In n ns → In n ms) → among n ms ≡ among n ns
same_among ms ns n f g = by (among n ns) refl
  where
    by : (b : Bool) → among n ns ≡ b → among n ms ≡ b
    by true e = tested (tells_among n ms) (g (told (tells_among n ns) e))
    by false e = tested_not (tells_among n ms) (λ i. told_not (tells_among n ns) e (f i))

-- the same entries, met by the marks and by the list
module _ (e e₀ : List ℕ) (capacity size b : ℕ) (keys : (n : ℕ) → key_of e n ≡ key_of e₀ n) where
  pub met_followed : (fuel : ℕ) (marks before : List ℕ) (at : ℕ) → capacity ≤ length marks → Marks capacity marks before
      → ((n : ℕ) → (In n before → ⊥) → link_of e n ≡ link_of e₀ n)
      → met_by_marks e capacity size b fuel marks at ≡ followed (in_bucket size b) e₀ capacity fuel before at
  unfolding met_by_marks followed meets
  met_followed zero marks before at l h links = refl
  met_followed (suc fuel) marks before zero l h links = refl
  met_followed (suc fuel) marks before (suc n) l h links =
      by (leb (suc n) capacity) refl
      (λ k new.
      met_followed fuel (set_mark marks (suc n) 1) (suc n ∷ before) (link_of e (suc n)) (omega (arith, length_set_mark marks (suc n) 1))
      (mark_one capacity marks before (suc n) (omega arith) (omega arith) h) (λ m f. links m (λ i. f (inr i))))
    where
      by : (c : Bool) → leb (suc n) capacity ≡ c
          → (suc n ≤ capacity → (In (suc n) before → ⊥)
          → met_by_marks e capacity size b fuel (set_mark marks (suc n) 1) (link_of e (suc n))
          ≡ followed (in_bucket size b) e₀ capacity fuel (suc n ∷ before) (link_of e (suc n)))
          → cond (c && eqb (mark_of marks (suc n)) 0 && in_bucket size b (key_of e (suc n)))
          (suc n ∷ met_by_marks e capacity size b fuel (set_mark marks (suc n) 1) (link_of e (suc n))) []
          ≡ cond (c && not (among (suc n) before) && in_bucket size b (key_of e₀ (suc n)))
          (suc n ∷ followed (in_bucket size b) e₀ capacity fuel (suc n ∷ before) (link_of e₀ (suc n))) []
      by false c rest = refl
      by true c rest =
          rw (h (suc n) (omega arith) (leb-true (suc n) capacity c), keys (suc n)) (this (among (suc n) before) refl)
        where
          this : (t : Bool) → among (suc n) before ≡ t
              → cond (not t && in_bucket size b (key_of e₀ (suc n)))
              (suc n ∷ met_by_marks e capacity size b fuel (set_mark marks (suc n) 1) (link_of e (suc n))) []
              ≡ cond (not t && in_bucket size b (key_of e₀ (suc n)))
              (suc n ∷ followed (in_bucket size b) e₀ capacity fuel (suc n ∷ before) (link_of e₀ (suc n))) []
          this true t = refl
          this false t =
              let new = told_not (tells_among (suc n) before) t in
              ap (λ (ms : List ℕ). cond (in_bucket size b (key_of e₀ (suc n))) (suc n ∷ ms) [])
              (rest (leb-true (suc n) capacity c) new
              ∙ ap (followed (in_bucket size b) e₀ capacity fuel (suc n ∷ before)) (links (suc n) new))

-- marks of what was met
pub mark_all_lem : (capacity : ℕ) (marks ms ns : List ℕ) → capacity ≤ length marks → ((n : ℕ) → In n ns → (0 < n) × (n ≤ capacity))
    → Marks capacity marks ms → Marks capacity (mark_all marks ns) (ms ++ ns)
unfolding mark_all
mark_all_lem capacity marks ms [] l r h n z k = rw append-nil (h n z k)
mark_all_lem capacity marks ms (m ∷ ns) l r h n z k =
    let (p, q) = r m (inl refl) in
    let rest =
    mark_all_lem capacity (set_mark marks m 1) (m ∷ ms) ns (omega (arith, length_set_mark marks m 1)) (λ j i. r j (inr i))
    (mark_one capacity marks ms m p (omega arith) h) n z k in
    rest ∙ ap not (moved n)
  where
    moved : (n : ℕ) → among n ((m ∷ ms) ++ ns) ≡ among n (ms ++ m ∷ ns)
    moved n =
        same_among ((m ∷ ms) ++ ns) (ms ++ m ∷ ns) n
        (λ i. ⊎_elim (λ e. in_right n ms (m ∷ ns) (inl e)) (λ j. ⊎_elim (in_left n ms (m ∷ ns)) (λ h. in_right n ms (m ∷ ns) (inr h)) (in_either n ms ns j)) i)
        (λ i. ⊎_elim (λ j. inr (in_left n ms ns j)) (λ j. ⊎_elim inl (λ h. inr (in_right n ms ns h)) j) (in_either n ms (m ∷ ns) i))
