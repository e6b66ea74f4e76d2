-- The digits of a number: those of its tenth, then the last.
-- Assumes nothing.
use Prim.Native.Nat.{ℕ, zero, suc, ◌+◌, ◌/◌, ◌%◌, ◌^◌, ◌<◌, ◌≤◌}
use mathlib.Core.Path.{◌≡◌, refl, sym, ap, ◌∙◌}
use mathlib.Core.Bool.{Bool, true, false, cond}
use mathlib.Core.List.{List, [], ◌∷◌, ◌++◌}
use native.Mathlib.Nat.{pow-suc}
use native.Mathlib.Omega.{arith}
use lib.ListN.{length, length-append}
use lib.Dec.{leb, ltb}
use borrow.Author.Tests.{lt-ltb, le-ltb, leb-true, leb-false, le-leb}
use Rattle.script.specs.Numbers.{digits, decimal, most_digits}

-- a limit that is large enough may be larger by one
enough : (m n : ℕ) → n < 10 ^ suc m → digits (suc (suc m)) n ≡ digits (suc m) n
unfolding digits
enough zero n h = rw (lt-ltb n 10 h)
enough (suc m) n h =
    ap (λ (l : List ℕ). cond (ltb n 10) ((48 + n) ∷ []) (l ++ (48 + n % 10) ∷ []))
    (enough m (n / 10) (omega (arith, pow-suc 10 (suc m))))

pub decimal_one : (n : ℕ) → n < 10 → decimal n ≡ (48 + n) ∷ []
unfolding decimal most_digits digits
decimal_one n h = rw (lt-ltb n 10 h)

parted : (m n : ℕ) → 10 ≤ n → digits (suc m) n ≡ digits m (n / 10) ++ (48 + n % 10) ∷ []
unfolding digits
parted m n h = rw (le-ltb n 10 h)

pub decimal_more : (n : ℕ) → 10 ≤ n → n < 2 ^ 32 → decimal n ≡ decimal (n / 10) ++ (48 + n % 10) ∷ []
unfolding decimal most_digits
decimal_more n h f =
    parted 9 n h ∙ ap (λ (l : List ℕ). l ++ (48 + n % 10) ∷ []) (sym (enough 8 (n / 10) (omega arith)))

remainder : (n : ℕ) → n < 10 → n % 10 ≡ n
remainder n h = omega arith

-- those before the last, if there are any
unfoldable pub before_last : ℕ → List ℕ
before_last n = cond (leb 10 n) (decimal (n / 10)) []

pub before_last_more : (n : ℕ) → 10 ≤ n → before_last n ≡ decimal (n / 10)
unfolding before_last
before_last_more n h = rw (le-leb 10 n h)

pub decimal_ends : (n : ℕ) → n < 2 ^ 32 → decimal n ≡ before_last n ++ (48 + n % 10) ∷ []
unfolding before_last
decimal_ends n f = at (leb 10 n) refl
  where
    at : (t : Bool) → leb 10 n ≡ t → decimal n ≡ cond t (decimal (n / 10)) [] ++ (48 + n % 10) ∷ []
    at true e = decimal_more n (leb-true 10 n e) f
    at false e = decimal_one n (leb-false 10 n e) ∙ ap (λ (d : ℕ). (48 + d) ∷ []) (sym (remainder n (leb-false 10 n e)))

-- never more than ten
digits_few : (m n : ℕ) → length (digits m n) ≤ m
unfolding digits
digits_few zero n = omega arith
digits_few (suc m) n = at (ltb n 10) (digits_few m (n / 10))
  where
    at : (t : Bool) → length (digits m (n / 10)) ≤ m
        → length (cond t ((48 + n) ∷ []) (digits m (n / 10) ++ (48 + n % 10) ∷ [])) ≤ suc m
    at true h = omega arith
    at false h = omega (arith, length-append (digits m (n / 10)) ((48 + n % 10) ∷ []))

pub decimal_few : (n : ℕ) → length (decimal n) ≤ 10
unfolding decimal most_digits
decimal_few n = digits_few 10 n
