-- Entries reached from a head by links, each in range and with a key that passes. What is met on a chain is reached, and a
-- list that is reached is met whole where none of it was met before, even one that goes round.
-- Assumes nothing.
use Prim.Native.Nat.{ℕ, zero, suc, ◌<◌, ◌≤◌}
use mathlib.Core.Path.{◌≡◌, refl, sym, ap, subst, ◌∙◌}
use mathlib.Core.Logic.{inl, inr, ⊎_elim, ⊎_map, ◌⊎◌}
use mathlib.Core.Bool.{Bool, true, false, ◌&&◌, not, cond}
use mathlib.Core.List.{List, [], ◌∷◌, ◌++◌}
use native.Mathlib.Decide.{ℕ_discrete}
use native.Mathlib.Omega.{arith}
use lib.ListN.{length}
use lib.Dec.{leb}
use borrow.Author.Tests.{leb-true, le-leb}
use Rattle.cursor.specs.Member.{In, among}
use Rattle.model.specs.Memory.{link_of, key_of}
use Rattle.model.specs.Repair.{followed}
use Rattle.model.proofs.Tests.{tested_not, true_not_false}
use Rattle.model.proofs.Lists.{tells_among}
use Rattle.model.proofs.Numbers.{down_from, in_down_from, length_down_from, filled}
use Rattle.model.proofs.Followed.{all_three, followed_met, followed_distinct}

unfoldable pub Reached : (ℕ → Bool) → List ℕ → ℕ → ℕ → List ℕ → Type 0
Reached test entries capacity at [] = Unit {0}
Reached test entries capacity at (n ∷ ns) =
    (at ≡ n) × (0 < n) × (n ≤ capacity) × (test (key_of entries n) ≡ true) × Reached test entries capacity (link_of entries n) ns

module _ (test : ℕ → Bool) (entries : List ℕ) (capacity : ℕ) where
  -- what is known of each
  pub of_reached : (at : ℕ) (ns : List ℕ) → Reached test entries capacity at ns → (n : ℕ) → In n ns
      → (0 < n) × (n ≤ capacity) × (test (key_of entries n) ≡ true)
  unfolding Reached
  of_reached at [] r n i = elim i [ ]
  of_reached at (m ∷ ns) r n (inl e) = (omega arith, omega arith, ap (λ (k : ℕ). test (key_of entries k)) e ∙ r.3)
  of_reached at (m ∷ ns) r n (inr i) = of_reached (link_of entries m) ns r.4 n i

  -- the front of a list that is reached
  pub front_reached : (at : ℕ) (us vs : List ℕ) → Reached test entries capacity at (us ++ vs) → Reached test entries capacity at us
  unfolding Reached
  front_reached at [] vs r = tt
  front_reached at (u ∷ us) vs r = (r.0, r.1, r.2, r.3, front_reached (link_of entries u) us vs r.4)

  -- what is met is reached
  pub followed_reached : (fuel : ℕ) (before : List ℕ) (at : ℕ)
      → Reached test entries capacity at (followed test entries capacity fuel before at)
  unfolding followed Reached
  followed_reached zero before at = tt
  followed_reached (suc fuel) before zero = tt
  followed_reached (suc fuel) before (suc m) =
      by (leb (suc m) capacity && not (among (suc m) before) && test (key_of entries (suc m))) refl
      (followed_reached fuel (suc m ∷ before) (link_of entries (suc m)))
    where
      by : (b : Bool) → (leb (suc m) capacity && not (among (suc m) before) && test (key_of entries (suc m))) ≡ b
          → Reached test entries capacity (link_of entries (suc m))
          (followed test entries capacity fuel (suc m ∷ before) (link_of entries (suc m)))
          → Reached test entries capacity (suc m)
          (cond b (suc m ∷ followed test entries capacity fuel (suc m ∷ before) (link_of entries (suc m))) [])
      by false e rest = tt
      by true e rest =
          let (a, b, c) = all_three (leb (suc m) capacity) (among (suc m) before) (test (key_of entries (suc m))) e in
          (refl, omega arith, leb-true (suc m) capacity a, c, rest)

  -- the head of a chain, or the link of one of its entries
  unfoldable Led : ℕ → List ℕ → ℕ → Type 0
  Led at ns x = (x ≡ at) ⊎ ((n : ℕ) × In n ns × (x ≡ link_of entries n))

  -- an entry that may be met, and that what is met leads to, is met, or the fuel has run out
  closed : (fuel : ℕ) (before : List ℕ) (at x : ℕ) → 0 < x → x ≤ capacity → test (key_of entries x) ≡ true → (In x before → ⊥)
      → Led at (followed test entries capacity fuel before at) x
      → In x (followed test entries capacity fuel before at) ⊎ (length (followed test entries capacity fuel before at) ≡ fuel)
  unfolding followed Led
  closed zero before at x z l p new led = inr refl
  closed (suc fuel) before zero x z l p new (inl e) = absurd (omega arith)
  closed (suc fuel) before zero x z l p new (inr h) = absurd h.1
  closed (suc fuel) before (suc m) x z l p new led =
      by (leb (suc m) capacity && not (among (suc m) before) && test (key_of entries (suc m))) refl led
      (λ f. closed fuel (suc m ∷ before) (link_of entries (suc m)) x z l p f)
    where
      rest : List ℕ
      rest = followed test entries capacity fuel (suc m ∷ before) (link_of entries (suc m))

      passes : x ≡ suc m → (leb (suc m) capacity && not (among (suc m) before) && test (key_of entries (suc m))) ≡ true
      passes e =
          rw (← e)
          (rw (le-leb x capacity l, tested_not (tells_among x before) new, p))

      led_on : Led (suc m) (suc m ∷ rest) x → (x ≡ suc m → ⊥) → Led (link_of entries (suc m)) rest x
      led_on (inl e) f = absurd (f e)
      led_on (inr (n, inl e, k)) f = inl (k ∙ ap (link_of entries) e)
      led_on (inr (n, inr i, k)) f = inr (n, i, k)

      by : (b : Bool) → (leb (suc m) capacity && not (among (suc m) before) && test (key_of entries (suc m))) ≡ b
          → Led (suc m) (cond b (suc m ∷ rest) []) x
          → ((In x (suc m ∷ before) → ⊥) → Led (link_of entries (suc m)) rest x → In x rest ⊎ (length rest ≡ fuel))
          → In x (cond b (suc m ∷ rest) []) ⊎ (length (cond b (suc m ∷ rest) []) ≡ suc fuel)
      by false e (inl same) more = absurd (true_not_false (sym (passes same) ∙ e))
      by false e (inr h) more = absurd h.1
      by true e h more =
          elim (ℕ_discrete x (suc m)) [
            | yes same ↦ inl (inl same)
            | no f ↦ ⊎_map (λ i. inr i) (λ k. ap suc k) (more (λ i. ⊎_elim f new i) (led_on h f))
          ]

  module _ (before : List ℕ) (at : ℕ) where
    -- the fuel is the capacity: where it has run out, every entry is met
    closed_whole : (x : ℕ) → 0 < x → x ≤ capacity → test (key_of entries x) ≡ true → (In x before → ⊥)
        → Led at (followed test entries capacity capacity before at) x → In x (followed test entries capacity capacity before at)
    closed_whole x z l p new led =
        ⊎_elim (λ i. i)
        (λ e.
        filled (followed test entries capacity capacity before at) (down_from capacity)
        (followed_distinct test entries capacity capacity before at)
        (λ n i. let h = followed_met test entries capacity capacity before at n i in in_down_from capacity n h.some h.fits)
        (omega (arith, length_down_from capacity)) x (in_down_from capacity x z l))
        (closed capacity before at x z l p new led)

    -- the same for one entry after another
    along : (from : ℕ) (ns : List ℕ) → Reached test entries capacity from ns → ((n : ℕ) → In n ns → In n before → ⊥)
        → Led at (followed test entries capacity capacity before at) from
        → (n : ℕ) → In n ns → In n (followed test entries capacity capacity before at)
    unfolding Reached Led
    along from [] r new led n i = elim i [ ]
    along from (m ∷ ns) r new led n i =
        let first =
        closed_whole m r.1 r.2 r.3 (new m (inl refl))
        (subst (Led at (followed test entries capacity capacity before at)) r.0 led) in
        ⊎_elim (λ e. rw e first)
        (λ j. along (link_of entries m) ns r.4 (λ k h. new k (inr h)) (inr (m, first, refl)) n j) i

    -- a list that is reached is met, where none of it was met before
    pub reached_met : (ns : List ℕ) → Reached test entries capacity at ns → ((n : ℕ) → In n ns → In n before → ⊥)
        → (n : ℕ) → In n ns → In n (followed test entries capacity capacity before at)
    unfolding Led
    reached_met ns r new n i = along at ns r new (inl refl) n i
