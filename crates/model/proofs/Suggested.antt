-- The suggested size: the smallest power of two that is not below the number asked for, from the least suggestion up to the
-- largest size.
-- Assumes nothing.
use Prim.Native.Nat.{ℕ, zero, suc, ◌+◌, ◌*◌, ◌^◌, ◌≤◌, ◌<◌, max}
use mathlib.Core.Path.{◌≡◌, refl, sym, ap, subst, ◌∙◌}
use mathlib.Core.Bool.{Bool, true, false, ◌&&◌, ◌||◌, cond}
use mathlib.Core.Logic.{◌⊎◌, inl, inr}
use native.Mathlib.Nat.{le-max_left, le-max_right}
use native.Mathlib.Decide.{dec_lt}
use native.Mathlib.Omega.{arith}
use lib.Dec.{leb, ltb, lit≤}
use lib.Pow.{pow_mono}
use borrow.Author.Tests.{leb-true, leb-false, ltb-true, ne_eqb}
use Rattle.model.specs.Limits.{largest_exponent, power_up_to, legal_size, least_suggestion, force_ratio}
use Rattle.model.specs.Calls.{acceptable, power_from, size_for, suggested, crowded, growth_due}
use Rattle.model.proofs.Power.{of_power}
use Rattle.model.proofs.Tests.{true_not_false}

-- a power of two from 2^from to 2^to: not below n, or the last of them; and all those before it are below n
pub record Smallest (from to n size : ℕ) : Type 0 where
  pub exponent : ℕ
  pub power : size ≡ 2 ^ exponent
  pub at_least : from ≤ exponent
  pub at_most : exponent ≤ to
  pub enough : (n ≤ size) ⊎ (exponent ≡ to)
  pub none_smaller : (b : ℕ) → from ≤ b → b < exponent → 2 ^ b < n

smallest : (b left n : ℕ) → Smallest b (b + left) n (power_from b left n)
unfolding power_from
smallest b zero n =
    record {
      exponent = b;
      power = refl;
      at_least = omega arith;
      at_most = omega arith;
      enough = inr (omega arith);
      none_smaller = λ d l k. absurd (omega arith);
    }
smallest b (suc left) n = by (leb n (2 ^ b)) refl (smallest (suc b) left n)
  where
    by : (t : Bool) → leb n (2 ^ b) ≡ t → Smallest (suc b) (suc b + left) n (power_from (suc b) left n)
        → Smallest b (b + suc left) n (cond t (2 ^ b) (power_from (suc b) left n))
    by true e rest =
        record {
          exponent = b;
          power = refl;
          at_least = omega arith;
          at_most = omega arith;
          enough = inl (leb-true n (2 ^ b) e);
          none_smaller = λ d l k. absurd (omega arith);
        }
    by false e rest =
        let below = leb-false n (2 ^ b) e in
        record {
          exponent = rest.exponent;
          power = rest.power;
          at_least = omega (arith, rest.at_least);
          at_most = omega (arith, rest.at_most);
          enough = elim rest.enough [ inl h ↦ inl h | inr h ↦ inr (omega (arith, h)) ];
          none_smaller =
              λ d l k.
              elim (dec_lt b d) [
                | yes h ↦ rest.none_smaller d h k
                | no h ↦ subst (λ (c : ℕ). 2 ^ c < n) (omega arith) below
              ];
        }

-- for a number above the largest size, that size
capped : (e n : ℕ) → 2 ^ e < n → power_from 0 e n ≡ 2 ^ e
capped e n h =
    let s = smallest 0 e n in
    let in_range : s.exponent ≤ e = omega (arith, s.at_most) in
    elim s.enough [
      | inl l ↦ absurd (omega (arith, s.power, pow_mono in_range))
      | inr last ↦ s.power ∙ ap (λ b. 2 ^ b) (omega (arith, last))
    ]

-- ---- growing, for twice the keys; shrinking, for the keys; and neither for less than the least suggestion

abbrev pub SmallestFor : ℕ → ℕ → Type 0
SmallestFor n size = Smallest 0 (0 + largest_exponent) (max least_suggestion n) size

pub growing_smallest : (keys : ℕ) → SmallestFor (keys * 2) (suggested true keys)
unfolding suggested size_for
growing_smallest keys = smallest 0 largest_exponent (max least_suggestion (keys * 2))

pub shrinking_smallest : (keys : ℕ) → SmallestFor keys (suggested false keys)
unfolding suggested size_for
shrinking_smallest keys = smallest 0 largest_exponent (max least_suggestion keys)

-- growing, for more keys than half the largest size
pub growing_capped : (keys : ℕ) → 2 ^ largest_exponent < keys * 2 → suggested true keys ≡ 2 ^ largest_exponent
unfolding suggested size_for
growing_capped keys h =
    capped largest_exponent (max least_suggestion (keys * 2)) (omega (arith, le-max_right least_suggestion (keys * 2)))

-- Where growth is due by the keys, the suggestion is above the size, unless it is the largest one.
pub crowded_above : (allowed : Bool) (size keys : ℕ) → 0 < size → crowded allowed size keys ≡ true
    → (size < suggested true keys) ⊎ (suggested true keys ≡ 2 ^ largest_exponent)
unfolding crowded force_ratio
crowded_above allowed size keys some due =
    let s = growing_smallest keys in
    let full = enough allowed (leb size keys) (ltb (size * force_ratio) keys) refl refl due in
    elim s.enough [
      | inl h ↦ inl (omega (arith, full, h, le-max_right least_suggestion (keys * 2)))
      | inr last ↦ inr (s.power ∙ ap (λ b. 2 ^ b) (omega (arith, last)))
    ]
  where
    enough : (a t u : Bool) → leb size keys ≡ t → ltb (size * force_ratio) keys ≡ u → ((a && t) || u) ≡ true → size ≤ keys
    enough a true u e f g = leb-true size keys e
    enough a false true e f g = omega (arith, ltb-true (size * force_ratio) keys f)
    enough true false false e f g = absurd (true_not_false (sym g))
    enough false false false e f g = absurd (true_not_false (sym g))

-- whatever the keys, a size that a resize takes, ..
any_smallest : (growing : Bool) (keys : ℕ) → (n : ℕ) × SmallestFor n (suggested growing keys)
any_smallest true keys = (keys * 2, growing_smallest keys)
any_smallest false keys = (keys, shrinking_smallest keys)

pub suggested_legal : (growing : Bool) (keys : ℕ) → legal_size (suggested growing keys) ≡ true
unfolding legal_size
suggested_legal growing keys =
    let (n, s) = any_smallest growing keys in
    subst (λ (size : ℕ). power_up_to largest_exponent size ≡ true) (sym s.power)
    (of_power largest_exponent s.exponent (omega (arith, s.at_most)))

-- .. so that growth that is due begins exactly if the other buffer is long enough, ..
pub growth_accepted : (allowed : Bool) (size keys other : ℕ) → growth_due allowed size keys ≡ true
    → acceptable size other (suggested true keys) ≡ leb (suggested true keys) other
unfolding growth_due acceptable
growth_accepted allowed size keys other due =
    let above = ltb-true size (suggested true keys) (behind (crowded allowed size keys) due) in
    rw (suggested_legal true keys, ne_eqb (suggested true keys) size (λ e. omega arith))
  where
    behind : (t : Bool) → (t && ltb size (suggested true keys)) ≡ true → ltb size (suggested true keys) ≡ true
    behind true e = e
    behind false e = absurd (true_not_false (sym e))

-- .. and no smaller one than the least
least_fits : least_suggestion ≤ 2 ^ (0 + largest_exponent)
unfolding least_suggestion largest_exponent
least_fits = lit≤ tt

pub suggested_least : (growing : Bool) (keys : ℕ) → least_suggestion ≤ suggested growing keys
suggested_least growing keys =
    let (n, s) = any_smallest growing keys in
    elim s.enough [
      | inl h ↦ omega (arith, h, le-max_left least_suggestion n)
      | inr last ↦ subst (λ (size : ℕ). least_suggestion ≤ size) (sym (s.power ∙ ap (λ b. 2 ^ b) last)) least_fits
    ]
