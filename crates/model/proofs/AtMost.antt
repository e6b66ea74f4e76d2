-- Chains read with a limit on all their entries: a chain that may have so many more, and chains read one after another.
-- Assumes nothing.
use Prim.Native.Nat.{ℕ, ◌-◌, ◌≤◌, min}
use mathlib.Core.Path.{◌≡◌, refl, sym, ◌∙◌}
use mathlib.Core.Bool.{Bool, true, false, cond}
use mathlib.Core.List.{List, ◌++◌}
use mathlib.Core.Option.{Option, none, some}
use native.Mathlib.Omega.{arith}
use lib.ListN.{length, length-append}
use lib.Dec.{leb}
use borrow.Author.Tests.{leb-true, leb-false, le-leb, lt-leb}
use Rattle.model.specs.Memory.{chain, listed}
use Rattle.model.specs.Walk.{joined, at_most}
use Rattle.model.proofs.Linked.{read_sound, read_complete, chain_wider}

-- a limit that is not passed
pub at_most_few : (most : ℕ) (o : Option (List ℕ)) → length (listed o) ≤ most → at_most most o ≡ o
unfolding at_most listed
at_most_few most none h = refl
at_most_few most (some ns) h = rw (le-leb (length ns) most h)

-- what it lets through
pub at_most_some : (most : ℕ) (o : Option (List ℕ)) (ns : List ℕ) → at_most most o ≡ some ns → (o ≡ some ns) × (length ns ≤ most)
unfolding at_most
at_most_some most none ns e = let z : ◌≡◌ {A = ℕ} 0 1 = cc in absurd (omega arith)
at_most_some most (some ms) ns e = by (leb (length ms) most) refl e
  where
    by : (t : Bool) → leb (length ms) most ≡ t → cond t (some ms) none ≡ some ns → (some ms ≡ some ns) × (length ns ≤ most)
    by true h f =
        let few = leb-true (length ms) most h in
        let alike : length ms ≡ length ns = cc f in
        (f, omega arith)
    by false h f = let z : ◌≡◌ {A = ℕ} 0 1 = cc in absurd (omega arith)

-- where it lets entries through, it makes no difference
pub at_most_sound : (most : ℕ) (o : Option (List ℕ)) (ns : List ℕ) → at_most most o ≡ some ns
    → (at_most most o ≡ o) × (o ≡ some (listed o))
unfolding listed
at_most_sound most none ns e = let z : ◌≡◌ {A = ℕ} 0 1 = cc (at_most_some most none ns e).0 in absurd (omega arith)
at_most_sound most (some ms) ns e = (e ∙ sym (at_most_some most (some ms) ns e).0, refl)

-- the chains behind the first may have what that one leaves of the limit
pub at_most_joined : (most : ℕ) (a b : Option (List ℕ))
    → at_most most (joined a b) ≡ joined (at_most most a) (at_most (most - length (listed a)) b)
unfolding at_most joined listed
at_most_joined most none b = refl
at_most_joined most (some ns) none = by (leb (length ns) most)
  where
    by : (t : Bool) → none ≡ joined (cond t (some ns) none) none
    by true = refl
    by false = refl
at_most_joined most (some ns) (some ms) = by (leb (length ns) most) refl
  where
    behind : (t : Bool) → leb (length ms) (most - length ns) ≡ t → length ns ≤ most
        → cond (leb (length (ns ++ ms)) most) (some (ns ++ ms)) none ≡ joined (some ns) (cond t (some ms) none)
    behind true e h =
        let few = leb-true (length ms) (most - length ns) e in
        rw (le-leb (length (ns ++ ms)) most (omega (arith, length-append ns ms)))
    behind false e h =
        let many = leb-false (length ms) (most - length ns) e in
        rw (lt-leb (length (ns ++ ms)) most (omega (arith, length-append ns ms)))

    by : (t : Bool) → leb (length ns) most ≡ t
        → cond (leb (length (ns ++ ms)) most) (some (ns ++ ms)) none
        ≡ joined (cond t (some ns) none) (cond (leb (length ms) (most - length ns)) (some ms) none)
    by true e = behind (leb (length ms) (most - length ns)) refl (leb-true (length ns) most e)
    by false e = let many = leb-false (length ns) most e in
        rw (lt-leb (length (ns ++ ms)) most (omega (arith, length-append ns ms)))

-- a chain is read with a limit as it is read with the smaller budget
pub chain_at_most : (test : ℕ → Bool) (entries : List ℕ) (capacity budget most head : ℕ)
    → chain test entries capacity (min budget most) head ≡ at_most most (chain test entries capacity budget head)
unfolding at_most
chain_at_most test entries capacity budget most head =
    by (chain test entries capacity budget head) refl (chain test entries capacity (min budget most) head) refl
  where
    -- what is read with the smaller one is read with both
    same : (ns : List ℕ) (o : Option (List ℕ)) → chain test entries capacity (min budget most) head ≡ some ns
        → chain test entries capacity budget head ≡ o → o ≡ some ns
    same ns o e f = sym f ∙ chain_wider test test entries capacity capacity (min budget most) budget head ns (λ key p. p) (omega arith) (omega arith) e

    whole : (ns : List ℕ) (p : Option (List ℕ)) → chain test entries capacity budget head ≡ some ns
        → chain test entries capacity (min budget most) head ≡ p → (t : Bool) → leb (length ns) most ≡ t
        → p ≡ cond t (some ns) none
    whole ns p e f true h =
        let (linked, short, passing) = read_sound test entries capacity budget head ns e in
        let few = leb-true (length ns) most h in
        sym f ∙ read_complete test entries capacity (min budget most) head ns linked passing (omega arith)
    whole ns none e f false h = refl
    whole ns (some ms) e f false h =
        let many = leb-false (length ns) most h in
        let short = (read_sound test entries capacity (min budget most) head ms f).1 in
        let alike : length ns ≡ length ms = cc (same ms (some ns) f e) in
        absurd (omega arith)

    by : (o : Option (List ℕ)) → chain test entries capacity budget head ≡ o → (p : Option (List ℕ))
        → chain test entries capacity (min budget most) head ≡ p → p ≡ at_most most o
    by none e none f = refl
    by none e (some ns) f = let z : ◌≡◌ {A = ℕ} 0 1 = cc (same ns none f e) in absurd (omega arith)
    by (some ns) e p f = whole ns p e f (leb (length ns) most) refl
