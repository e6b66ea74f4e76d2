-- The entries met on one chain, and on the chains of a table one after another: each in range, with a key of its bucket, and
-- met once.
-- Assumes nothing.
use Prim.Native.Nat.{ℕ, zero, suc, ◌<◌, ◌≤◌}
use mathlib.Core.Path.{◌≡◌, refl, sym, ap, subst, ◌∙◌}
use mathlib.Core.Logic.{inl, inr, ⊎_elim, ◌⊎◌}
use mathlib.Core.Bool.{Bool, true, false, ◌&&◌, not, cond}
use mathlib.Core.List.{List, [], ◌∷◌}
use native.Mathlib.Decide.{dec_lt}
use native.Mathlib.Omega.{arith}
use lib.ListN.{length, get_or}
use lib.Dec.{leb}
use borrow.Author.Tests.{leb-true, le-leb}
use Rattle.cursor.specs.Member.{In, Distinct, among}
use Rattle.model.specs.Memory.{link_of, key_of, in_bucket}
use Rattle.model.proofs.Tests.{tested_not, told_not}
use Rattle.model.proofs.Linked.{Linked, Passing}
use Rattle.model.proofs.Lists.{in_left, in_right, in_either, tells_among}
use Rattle.model.specs.Repair.{followed, followed_in, met_in}

pub all_three : (a b c : Bool) → (a && not b && c) ≡ true → (a ≡ true) × (b ≡ false) × (c ≡ true)
all_three true false true e = (refl, refl, refl)
all_three true false false e = let z : ◌≡◌ {A = ℕ} 0 1 = cc in absurd (omega arith)
all_three true true c e = let z : ◌≡◌ {A = ℕ} 0 1 = cc in absurd (omega arith)
all_three false b c e = let z : ◌≡◌ {A = ℕ} 0 1 = cc in absurd (omega arith)

-- of an entry met on a chain
pub record Met (test : ℕ → Bool) (entries : List ℕ) (capacity : ℕ) (before : List ℕ) (n : ℕ) : Type 0 where
  pub some : 0 < n
  pub fits : n ≤ capacity
  pub passes : test (key_of entries n) ≡ true
  pub new : In n before → ⊥

module _ (test : ℕ → Bool) (entries : List ℕ) (capacity : ℕ) where
  later : (before : List ℕ) (m n : ℕ) → Met test entries capacity (m ∷ before) n → Met test entries capacity before n
  later before m n h = record { some = h.some; fits = h.fits; passes = h.passes; new = λ i. h.new (inr i) }

  pub followed_met : (fuel : ℕ) (before : List ℕ) (at n : ℕ) → In n (followed test entries capacity fuel before at)
      → Met test entries capacity before n
  unfolding followed
  followed_met zero before at n i = elim i [ ]
  followed_met (suc fuel) before zero n i = elim i [ ]
  followed_met (suc fuel) before (suc m) n i =
      by (leb (suc m) capacity && not (among (suc m) before) && test (key_of entries (suc m))) refl i
      (followed_met fuel (suc m ∷ before) (link_of entries (suc m)) n)
    where
      by : (b : Bool) → (leb (suc m) capacity && not (among (suc m) before) && test (key_of entries (suc m))) ≡ b
          → In n (cond b (suc m ∷ followed test entries capacity fuel (suc m ∷ before) (link_of entries (suc m))) [])
          → (In n (followed test entries capacity fuel (suc m ∷ before) (link_of entries (suc m)))
          → Met test entries capacity (suc m ∷ before) n)
          → Met test entries capacity before n
      by false e j rest = absurd j
      by true e (inr j) rest = later before (suc m) n (rest j)
      by true e (inl same) rest =
          let (a, b, c) = all_three (leb (suc m) capacity) (among (suc m) before) (test (key_of entries (suc m))) e in
          subst (Met test entries capacity before) (sym same)
          (record {
            some = omega arith;
            fits = leb-true (suc m) capacity a;
            passes = c;
            new = told_not (tells_among (suc m) before) b;
          })

  pub followed_distinct : (fuel : ℕ) (before : List ℕ) (at : ℕ) → Distinct (followed test entries capacity fuel before at)
  unfolding followed
  followed_distinct zero before at = tt
  followed_distinct (suc fuel) before zero = tt
  followed_distinct (suc fuel) before (suc m) =
      by (leb (suc m) capacity && not (among (suc m) before) && test (key_of entries (suc m)))
      (followed_distinct fuel (suc m ∷ before) (link_of entries (suc m)))
    where
      by : (b : Bool) → Distinct (followed test entries capacity fuel (suc m ∷ before) (link_of entries (suc m)))
          → Distinct (cond b (suc m ∷ followed test entries capacity fuel (suc m ∷ before) (link_of entries (suc m))) [])
      by false d = tt
      by true d =
          (λ i. (followed_met fuel (suc m ∷ before) (link_of entries (suc m)) (suc m) i).new (inl refl), d)

  -- a linked chain whose keys pass, with no entry met before, is met whole
  pub followed_whole : (fuel : ℕ) (before : List ℕ) (at : ℕ) (ns : List ℕ) → Linked entries capacity at ns
      → Passing test entries ns → ((n : ℕ) → In n ns → In n before → ⊥) → Distinct ns → length ns ≤ fuel
      → followed test entries capacity fuel before at ≡ ns
  unfolding followed Linked
  followed_whole zero before at [] h p a d l = refl
  followed_whole zero before at (n ∷ ns) h p a d l = absurd (omega arith)
  followed_whole (suc fuel) before zero [] h p a d l = refl
  followed_whole (suc fuel) before (suc m) [] h p a d l = absurd (omega arith)
  followed_whole (suc fuel) before zero (n ∷ ns) h p a d l = absurd (omega arith)
  followed_whole (suc fuel) before (suc m) (n ∷ ns) h p a d l =
      let same : suc m ≡ n = h.0 in
      let rest = subst (λ (k : ℕ). Linked entries capacity (link_of entries k) ns) (sym same) h.3 in
      let far = tested_not (tells_among (suc m) before) (a (suc m) (inl same)) in
      rw (le-leb (suc m) capacity (omega arith), far, p (suc m) (inl same))
      (ap (λ (ms : List ℕ). suc m ∷ ms)
      (followed_whole fuel (suc m ∷ before) (link_of entries (suc m)) ns rest (λ k i. p k (inr i)) (apart same) d.1 (omega arith))
      ∙ ap (λ (k : ℕ). k ∷ ns) same)
    where
      apart : suc m ≡ n → (k : ℕ) → In k ns → In k (suc m ∷ before) → ⊥
      apart same k i (inl e) = d.0 (subst (λ (j : ℕ). In j ns) (e ∙ same) i)
      apart same k i (inr j) = a k (inr i) j

-- The chains of a table.
module _ (entries : List ℕ) (capacity : ℕ) (buckets : List ℕ) (size : ℕ) (before : List ℕ) where
  -- met up to a bucket, and in it
  abbrev pub up_to : ℕ → List ℕ
  up_to b = met_in entries capacity buckets size before b

  abbrev pub here : ℕ → List ℕ
  here b = followed_in entries capacity buckets size (met_in entries capacity buckets size before b) b

  pub here_met : (b n : ℕ) → In n (here b) → Met (in_bucket size b) entries capacity (up_to b) n
  unfolding followed_in
  here_met b n i = followed_met (in_bucket size b) entries capacity capacity (up_to b) (get_or buckets b 0) n i

  pub here_distinct : (b : ℕ) → Distinct (here b)
  unfolding followed_in
  here_distinct b = followed_distinct (in_bucket size b) entries capacity capacity (up_to b) (get_or buckets b 0)

  pub before_in : (b n : ℕ) → In n before → In n (up_to b)
  unfolding met_in
  before_in zero n i = i
  before_in (suc b) n i = in_left n (up_to b) (here b) (before_in b n i)

  pub here_in : (a b n : ℕ) → a < b → In n (here a) → In n (up_to b)
  unfolding met_in
  here_in a zero n l i = absurd (omega arith)
  here_in a (suc b) n l i =
      elim (dec_lt a b) [
        | yes k ↦ in_left n (up_to b) (here b) (here_in a b n k i)
        | no k ↦ let e : a ≡ b = omega arith in in_right n (up_to b) (here b) (subst (λ (c : ℕ). In n (here c)) e i)
      ]

  pub of_up_to : (b n : ℕ) → In n (up_to b) → In n before ⊎ ((a : ℕ) × (a < b) × In n (here a))
  unfolding met_in
  of_up_to zero n i = inl i
  of_up_to (suc b) n i = by (in_either n (up_to b) (here b) i) (of_up_to b n)
    where
      by : In n (up_to b) ⊎ In n (here b) → (In n (up_to b) → In n before ⊎ ((a : ℕ) × (a < b) × In n (here a)))
          → In n before ⊎ ((a : ℕ) × (a < suc b) × In n (here a))
      by (inr j) f = inr (b, omega arith, j)
      by (inl j) f = ⊎_elim inl (λ h. let (a, l, k) = h in inr (a, omega arith, k)) (f j)

  -- two buckets share no entry
  pub here_apart : (a b n : ℕ) → In n (here a) → In n (here b) → a < b → ⊥
  here_apart a b n i j l = (here_met b n j).new (here_in a b n l i)
