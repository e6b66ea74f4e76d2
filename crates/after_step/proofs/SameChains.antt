-- A chain in two memories: what keeps it the same.
-- Assumes nothing.
use Prim.Native.Nat.{ℕ, zero, suc}
use mathlib.Core.Path.{◌≡◌, refl}
use mathlib.Core.Bool.{Bool, true, false, ◌&&◌}
use mathlib.Core.List.{List}
use mathlib.Core.Option.{Option}
use lib.Dec.{leb}
use Rattle.model.specs.Memory.{link_of, key_of, met, chain}

-- a chain is read the same where all keys are kept, and the links of the entries whose keys pass

met_same : (t u : Bool) (n : ℕ) (r r' : Option (List ℕ)) → (u ≡ true → r ≡ r') → met (t && u) n r ≡ met (t && u) n r'
unfolding met
met_same true true n r r' f = rw (f refl)
met_same true false n r r' f = refl
met_same false u n r r' f = refl

module _ (test : ℕ → Bool) (e e' : List ℕ) (capacity : ℕ) (keys : (n : ℕ) → key_of e' n ≡ key_of e n)
    (links : (n : ℕ) → test (key_of e n) ≡ true → link_of e' n ≡ link_of e n) where
  pub chain_same : (budget at : ℕ) → chain test e' capacity budget at ≡ chain test e capacity budget at
  unfolding chain
  chain_same zero zero = refl
  chain_same zero (suc at) = refl
  chain_same (suc budget) zero = refl
  chain_same (suc budget) (suc at) =
      rw (keys (suc at))
      (met_same (leb (suc at) capacity) (test (key_of e (suc at))) (suc at) _ _
      (λ p. rw (links (suc at) p) (chain_same budget (link_of e (suc at)))))
