-- How often a number is in a list: once at least exactly if it is in it, and once at most if the list has no repeats.
-- Assumes nothing.
use Prim.Native.Nat.{ℕ, ◌+◌, ◌<◌, ◌≤◌}
use mathlib.Core.Path.{◌≡◌, refl, subst}
use mathlib.Core.Logic.{inl}
use mathlib.Core.Bool.{Bool, true, false, cond}
use mathlib.Core.List.{List, [], ◌∷◌, ◌++◌}
use native.Mathlib.Omega.{arith}
use lib.ListN.{length}
use lib.Dec.{eqb}
use borrow.Author.Tests.{eqb-true, eq-eqb}
use Rattle.cursor.specs.Member.{In, Distinct, keep}
use Rattle.model.proofs.Lists.{in_keep, of_keep, distinct_keep, distinct_fits}

-- a list with a member is not empty
pub in_filled : {A : Type 0} (x : A) (xs : List A) → In x xs → 0 < length xs
in_filled {A = A} x [] i = elim i [ ]
in_filled x (y ∷ ys) i = omega arith

module _ (key : ℕ) where
  abbrev same : ℕ → Bool
  same k = eqb k key

  abbrev pub count : List ℕ → ℕ
  count ks = length (keep same ks)

  pub count_append : (ks js : List ℕ) → count (ks ++ js) ≡ count ks + count js
  unfolding keep
  count_append [] js = omega arith
  count_append (k ∷ ks) js = by (same k) (count_append ks js)
    where
      by : (t : Bool) → count (ks ++ js) ≡ count ks + count js
          → length (cond t (k ∷ keep same (ks ++ js)) (keep same (ks ++ js)))
          ≡ length (cond t (k ∷ keep same ks) (keep same ks)) + count js
      by true e = omega arith
      by false e = e

  pub count_once : (ks : List ℕ) → Distinct ks → count ks ≤ 1
  count_once ks d =
      distinct_fits (keep same ks) (key ∷ []) (distinct_keep same ks d)
      (λ k i. inl (eqb-true k key (of_keep same k ks i).1))

  pub count_in : (ks : List ℕ) → 0 < count ks → In key ks
  count_in ks some = first (keep same ks) (λ k i. of_keep same k ks i) some
    where
      first : (js : List ℕ) → ((k : ℕ) → In k js → In k ks × (same k ≡ true)) → 0 < length js → In key ks
      first [] each some = absurd (omega arith)
      first (k ∷ js) each some =
          let (there, e) = each k (inl refl) in
          subst (λ x. In x ks) (eqb-true k key e) there

  pub in_count : (ks : List ℕ) → In key ks → 0 < count ks
  in_count ks i = in_filled key (keep same ks) (in_keep same key ks i (eq-eqb key key refl))

-- no repeats, if each number is in it once at most
pub counts_distinct : (ks : List ℕ) → ((key : ℕ) → count key ks ≤ 1) → Distinct ks
counts_distinct [] once = tt
counts_distinct (k ∷ ks) once = (
  λ i. omega (arith, once k, count_append k (k ∷ []) ks, in_count k (k ∷ []) (inl refl), in_count k ks i),
  counts_distinct ks (λ key. omega (arith, once key, count_append key (k ∷ []) ks)),
)
