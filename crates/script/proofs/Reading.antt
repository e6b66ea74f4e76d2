-- Reading a number, one digit a turn.
-- Assumes nothing.
use Prim.Native.Nat.{ℕ, ◌+◌, ◌*◌, ◌-◌, ◌^◌, ◌<◌, ◌≤◌}
use mathlib.Core.Path.{◌≡◌, sym, ap, ◌∙◌}
use mathlib.Core.Bool.{Bool, true, false, ◌&&◌, cond, and-false}
use mathlib.Core.List.{List, ◌∷◌}
use native.Mathlib.Nat.{pow-suc}
use native.Mathlib.Numerals.{add-one}
use native.Mathlib.Omega.{arith}
use lib.ListN.{length, get_or, drop, drop_of_length-le}
use lib.Seq.{drop-cons}
use mathlib.Core.Logic.{◌⊎◌, inl, inr}
use lib.Dec.{leb, eqb}
use borrow.Author.Tests.{lt-leb, le-leb}
use Rattle.std.proofs.lemmas.Bool.Decides.{nat_tests}
use Rattle.std.proofs.Common.{Option, Some, None, Result, Ok, Err}
use Rattle.std.specs.Char.{is_ascii_digit}
use Rattle.std.specs.Result.{OkIff, result_ok}
use Rattle.script.specs.Numbers.{number, is_digit, all_digits, value_after, most_digits, largest_number}

-- so many bytes were digits, and the value so far and the bytes from here are the whole word's
pub record Reading (word : List ℕ) (value i : ℕ) : Type 0 where
  pub any : 1 ≤ length word
  pub few : length word ≤ 10
  pub within : i ≤ length word
  pub bound : value < 10 ^ i
  pub whole : value_after value (drop i word) ≡ value_after 0 word
  pub digits : all_digits (drop i word) ≡ all_digits word

-- the definition by its four tests

judged : Bool → Bool → Bool → Bool → ℕ → Option ℕ
judged a b c d v = cond (a && b && c && d) (Some v) None

short_out : (a c d : Bool) (v : ℕ) → None ≡ judged a false c d v
unfolding judged
short_out a c d v = rw and-false

digit_out : (a b d : Bool) (v : ℕ) → None ≡ judged a b false d v
unfolding judged
digit_out a b d v = rw and-false

large_out : (a b c : Bool) (v : ℕ) → None ≡ judged a b c false v
unfolding judged
large_out a b c v = rw and-false

digit_high : (b : ℕ) → is_ascii_digit b ≡ true → b ≤ 57
digit_high b e = grind (arith, nat_tests)

module _ (word : List ℕ) where
  -- no digit, or more than ten
  pub reading_out : (empty : Bool) → empty ≡ eqb (length word) 0 → (empty ≡ true) ⊎ ((empty ≡ false) × (10 < length word))
      → None ≡ number word
  unfolding number most_digits judged
  reading_out empty k (inl e) = grind (arith, nat_tests)
  reading_out empty k (inr h) = rw (lt-leb (length word) 10 h.1) (short_out (leb 1 (length word)) _ _ _)

  module _ (value i : ℕ) (h : Reading word value i) where
    module _ (more : i < length word) (digit : Bool) (k : digit ≡ is_ascii_digit (get_or word i 0)) where
      here : drop i word ≡ get_or word i 0 ∷ drop (i + 1) word
      here = rw (add-one i) (drop-cons word i 0 more)

      same : digit ≡ is_digit (get_or word i 0)
      unfolding is_digit
      same = k

      pub reading_stop : digit ≡ false → None ≡ number word
      unfolding number most_digits judged all_digits
      reading_stop e =
          let d : all_digits word ≡ false
          = sym h.digits ∙ ap all_digits here ∙ ap (λ (x : Bool). x && all_digits (drop (i + 1) word)) (sym same ∙ e) in
          rw d (digit_out (leb 1 (length word)) (leb (length word) 10) (leb (value_after 0 word) largest_number) (value_after 0 word))

      pub reading_next : (d : ℕ) → d ≡ get_or word i 0 - 48 → digit ≡ true → Reading word (value * 10 + d) (i + 1)
      unfolding all_digits value_after
      reading_next d p e =
          record {
            any = h.any;
            few = h.few;
            within = omega arith;
            bound = rw (add-one i) (omega (arith, pow-suc 10 i, h.bound, digit_high (get_or word i 0) (sym k ∙ e)));
            whole = rw p (ap (value_after value) (sym here) ∙ h.whole);
            digits =
                ap (λ (x : Bool). x && all_digits (drop (i + 1) word)) (sym e ∙ same)
                ∙ ap all_digits (sym here) ∙ h.digits;
          }

    module _ (done : length word ≤ i) where
      all : all_digits word ≡ true
      unfolding all_digits
      all = sym h.digits ∙ ap all_digits (drop_of_length-le word done)

      read : number word ≡ cond (leb value largest_number) (Some value) None
      unfolding number most_digits value_after
      read =
          let v : value_after 0 word ≡ value = sym h.whole ∙ ap (value_after value) (drop_of_length-le word done) in
          rw (v, le-leb 1 (length word) h.any, le-leb (length word) 10 h.few, all)

      pub reading_done : {E : Type 0} (r : Result ℕ E) (o : Option ℕ) → OkIff r (value < 2 ^ 32) value → o ≡ result_ok r
          → o ≡ number word
      unfolding largest_number
      reading_done (Ok v) o k e = rw (read, le-leb value 4294967295 (omega arith)) (e ∙ ap Some k.1)
      reading_done (Err _) o k e = rw (read, lt-leb value 4294967295 (omega arith)) e
