-- Sums over the buckets of a table, and the chains of a table joined, which are as long as such a sum.
-- Assumes nothing.
use Prim.Native.Nat.{ℕ, zero, suc, ◌+◌, ◌-◌, ◌<◌, ◌≤◌}
use mathlib.Core.Path.{◌≡◌, refl, sym, subst}
use mathlib.Core.Logic.{⊎_elim}
use mathlib.Core.List.{List, [], ◌++◌}
use native.Mathlib.Decide.{ℕ_discrete, dec_lt}
use native.Mathlib.Omega.{arith}
use lib.ListN.{length, length-append}
use Rattle.cursor.specs.Member.{In}
use Rattle.model.specs.Memory.{sum}
use Rattle.model.proofs.Lists.{in_left, in_right, in_either}

-- a number below n + 1 is below n or is n
below_cases : (b n : ℕ) {P : Type 0} → b < suc n → (b < n → P) → (b ≡ n → P) → P
below_cases b n h below last = elim (dec_lt b n) [ yes l ↦ below l | no l ↦ last (omega arith) ]

-- sums of the same terms are equal
pub sum_same : (f g : ℕ → ℕ) (n : ℕ) → ((b : ℕ) → b < n → f b ≡ g b) → sum f n ≡ sum g n
unfolding sum
sum_same f g zero h = refl
sum_same f g (suc n) h = omega (arith, sum_same f g n (λ b l. h b (omega arith)), h n (omega arith))

-- sums of terms that change, each by what is taken and what is given
pub sum_changed : (f g less more : ℕ → ℕ) (n : ℕ) → ((b : ℕ) → g b + less b ≡ f b + more b)
    → sum g n + sum less n ≡ sum f n + sum more n
unfolding sum
sum_changed f g less more zero h = refl
sum_changed f g less more (suc n) h = omega (arith, sum_changed f g less more n h, h n)

-- a term is no more than the sum
pub term_in_sum : (f : ℕ → ℕ) (n b : ℕ) → b < n → f b ≤ sum f n
unfolding sum
term_in_sum f zero b h = absurd (omega arith)
term_in_sum f (suc n) b h =
    below_cases b n h
    (λ l. omega (arith, term_in_sum f n b l))
    (λ e. rw e (omega arith))

-- a sum has its first terms
pub sum_first : (f : ℕ → ℕ) (m n : ℕ) → m ≤ n → sum f m ≤ sum f n
unfolding sum
sum_first f m zero l = let e : m ≡ 0 = omega arith in rw e (omega arith)
sum_first f m (suc n) l =
    elim (dec_lt m (suc n)) [
      | yes k ↦ omega (arith, sum_first f m n (omega arith))
      | no k ↦ let e : m ≡ suc n = omega arith in rw e (omega arith)
    ]

-- terms that are all 0, and all 0 but one that is 1

pub sum_zero : (f : ℕ → ℕ) (n : ℕ) → ((b : ℕ) → b < n → f b ≡ 0) → sum f n ≡ 0
unfolding sum
sum_zero f zero h = refl
sum_zero f (suc n) h = omega (arith, sum_zero f n (λ b l. h b (omega arith)), h n (omega arith))

pub sum_one : (f : ℕ → ℕ) (c n : ℕ) → c < n → f c ≡ 1 → ((b : ℕ) → (b ≡ c → ⊥) → f b ≡ 0) → sum f n ≡ 1
unfolding sum
sum_one f c zero l one other = absurd (omega arith)
sum_one f c (suc n) l one other =
    elim (ℕ_discrete n c) [
      | yes e ↦
          let here : f n ≡ 1 = subst (λ (k : ℕ). f k ≡ 1) (sym e) one in
          omega (arith, here, sum_zero f n (λ b h. other b (omega arith)))
      | no d ↦ omega (arith, sum_one f c n (omega arith) one other, other n d)
    ]

-- terms that are no larger than others, one of them less; and terms that are 0 or 1, and 0 at first

pub sum_atmost : (f g : ℕ → ℕ) (n : ℕ) → ((b : ℕ) → f b ≤ g b) → sum f n ≤ sum g n
unfolding sum
sum_atmost f g zero h = omega arith
sum_atmost f g (suc n) h = omega (arith, sum_atmost f g n h, h n)

pub sum_less : (f g : ℕ → ℕ) (c n : ℕ) → c < n → ((b : ℕ) → f b ≤ g b) → f c < g c → sum f n < sum g n
unfolding sum
sum_less f g c zero l h less = absurd (omega arith)
sum_less f g c (suc n) l h less =
    elim (dec_lt c n) [
      | yes k ↦ omega (arith, sum_less f g c n k h less, h n)
      | no k ↦
          let here : f n < g n = subst (λ (b : ℕ). f b < g b) (omega arith) less in
          omega (arith, sum_atmost f g n h, here)
    ]

pub sum_few : (f : ℕ → ℕ) (a n : ℕ) → ((b : ℕ) → f b ≤ 1) → ((b : ℕ) → b < a → f b ≡ 0) → sum f n ≤ n - a
unfolding sum
sum_few f a zero most None_first = omega arith
sum_few f a (suc n) most None_first =
    elim (dec_lt n a) [
      | yes l ↦ omega (arith, sum_few f a n most None_first, None_first n l)
      | no l ↦ omega (arith, sum_few f a n most None_first, most n)
    ]

-- the lists f 0, f 1, .., f (n - 1) joined
unfoldable pub gathered : (ℕ → List ℕ) → ℕ → List ℕ
gathered f zero = []
gathered f (suc n) = gathered f n ++ f n

-- joined lists are as long as all of them together
pub length_gathered : (f : ℕ → List ℕ) (n : ℕ) → length (gathered f n) ≡ sum (λ b. length (f b)) n
unfolding gathered sum
length_gathered f zero = refl
length_gathered f (suc n) = omega (arith, length-append (gathered f n) (f n), length_gathered f n)

-- a member of one of them is a member of the joined list
pub in_gathered : (f : ℕ → List ℕ) (n b x : ℕ) → b < n → In x (f b) → In x (gathered f n)
unfolding gathered
in_gathered f zero b x h i = absurd (omega arith)
in_gathered f (suc n) b x h i =
    below_cases b n h
    (λ l. in_left x (gathered f n) (f n) (in_gathered f n b x l i))
    (λ e. in_right x (gathered f n) (f n) (rw e at i))

-- and a member of the joined list is one of theirs
pub of_gathered : (f : ℕ → List ℕ) (n x : ℕ) → In x (gathered f n) → (b : ℕ) × (b < n) × In x (f b)
unfolding gathered
of_gathered f zero x i = elim i [ ]
of_gathered f (suc n) x i =
    ⊎_elim (λ j. let (b, l, k) = of_gathered f n x j in (b, omega arith, k)) (λ j. (n, omega arith, j))
    (in_either x (gathered f n) (f n) i)
