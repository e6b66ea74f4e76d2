-- How a chain is read, one entry at a time, in the terms of the code's tests.
-- Assumes nothing.
use Prim.Native.Nat.{ℕ, zero, suc, ◌-◌, ◌≤◌, ◌<◌}
use mathlib.Core.Path.{◌≡◌, refl, sym, ◌∙◌}
use mathlib.Core.Bool.{Bool, true, false, ◌||◌}
use mathlib.Core.List.{List, [], ◌∷◌}
use mathlib.Core.Option.{none, some, map}
use native.Mathlib.Numerals.{sub-one}
use native.Mathlib.Omega.{arith}
use lib.Dec.{ltb, eqb, eqb-suc-zero}
use borrow.Author.Tests.{ltb-true, ltb-false, le-leb, lt-leb, eq-eqb, ne_eqb}
use Rattle.model.specs.Keys.{bucket_of}
use Rattle.model.specs.Memory.{link_of, key_of, chain, in_bucket, met}

module _ (test : ℕ → Bool) (entries : List ℕ) (capacity : ℕ) where
  -- 0 ends a chain
  pub chain_end : (budget at : ℕ) → at ≡ 0 → chain test entries capacity budget at ≡ some []
  unfolding chain
  chain_end zero zero e = refl
  chain_end zero (suc at) e = absurd (omega arith)
  chain_end (suc budget) zero e = refl
  chain_end (suc budget) (suc at) e = absurd (omega arith)

  -- the code's test of a number that ends a chain that is not sound
  pub chain_bad : (budget at : ℕ) → (at ≡ 0 → ⊥) → (eqb budget 0 || ltb capacity at) ≡ true
      → chain test entries capacity budget at ≡ none
  unfolding chain met
  chain_bad budget zero f t = absurd (f refl)
  chain_bad zero (suc at) f t = refl
  chain_bad (suc budget) (suc at) f t = rw (lt-leb (suc at) capacity (ltb-true capacity (suc at) (rw eqb-suc-zero at t)))

  -- where that test fails, the entry's key decides: the chain is not sound ..
  pub chain_stray : (budget at : ℕ) → (at ≡ 0 → ⊥) → (eqb budget 0 || ltb capacity at) ≡ false
      → test (key_of entries at) ≡ false → chain test entries capacity budget at ≡ none
  unfolding chain met
  chain_stray budget zero f t k = absurd (f refl)
  chain_stray zero (suc at) f t k = refl
  chain_stray (suc budget) (suc at) f t k =
      rw (le-leb (suc at) capacity (ltb-false capacity (suc at) (rw eqb-suc-zero at t)), k)

  -- .. or the entry is met and its link followed
  pub chain_good : (budget at : ℕ) → (at ≡ 0 → ⊥) → (eqb budget 0 || ltb capacity at) ≡ false
      → test (key_of entries at) ≡ true
      → chain test entries capacity budget at
      ≡ map (λ ns. at ∷ ns) (chain test entries capacity (budget - 1) (link_of entries at))
  unfolding chain met
  chain_good budget zero f t k = absurd (f refl)
  chain_good zero (suc at) f t k = let z : ◌≡◌ {A = ℕ} 0 1 = cc in absurd (omega arith)
  chain_good (suc budget) (suc at) f t k =
      rw (le-leb (suc at) capacity (ltb-false capacity (suc at) (rw eqb-suc-zero at t)), k, sub-one)

-- what that test says of the numbers
pub budget_left : (capacity budget at : ℕ) → (eqb budget 0 || ltb capacity at) ≡ false → 0 < budget
budget_left capacity zero at t = let z : ◌≡◌ {A = ℕ} 0 1 = cc in absurd (omega arith)
budget_left capacity (suc budget) at t = omega arith

pub in_range : (capacity budget at : ℕ) → (eqb budget 0 || ltb capacity at) ≡ false → at ≤ capacity
in_range capacity zero at t = let z : ◌≡◌ {A = ℕ} 0 1 = cc in absurd (omega arith)
in_range capacity (suc budget) at t = ltb-false capacity at (rw eqb-suc-zero at t)

-- the code's test of a key on a bucket's chain, by the bucket that it computes for the key
module _ (size b key i : ℕ) (e : i ≡ bucket_of key size) where
  pub bucket_same : i ≡ b → in_bucket size b key ≡ true
  unfolding in_bucket
  bucket_same h = eq-eqb (bucket_of key size) b (sym e ∙ h)

  pub bucket_other : (i ≡ b → ⊥) → in_bucket size b key ≡ false
  unfolding in_bucket
  bucket_other f = ne_eqb (bucket_of key size) b (λ h. f (e ∙ h))
