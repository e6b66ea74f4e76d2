-- What a step meets, from the buckets that it looks at.
-- Assumes nothing.
use Prim.Native.Nat.{ℕ, zero, suc, ◌+◌, ◌-◌, ◌≤◌, ◌<◌}
use mathlib.Core.Path.{◌≡◌, refl, sym, ◌∙◌}
use mathlib.Core.List.{List}
use native.Mathlib.Omega.{arith}
use lib.ListN.{get_or, take, drop}
use borrow.Author.Tests.{eq-eqb, ne_eqb}
use Rattle.std.proofs.lemmas.List.{get_or-take, get_or-drop}
use Rattle.model.specs.declared.Ahead.{Ahead}
use Rattle.model.specs.Calls.{ahead}

-- ---- from one bucket on

module _ (buckets : List ℕ) where
  end_here : (b left passes : ℕ) → left ≡ 0 → ahead buckets b left passes ≡ Ahead.End
  unfolding ahead
  end_here b left passes e = rw e

  empty_here : (b left passes : ℕ) → 0 < left → passes ≡ 0 → ahead buckets b left passes ≡ Ahead.Empty b
  unfolding ahead
  empty_here b zero passes h e = absurd (omega arith)
  empty_here b (suc left) passes h e = rw e

  filled_here : (b left passes : ℕ) → 0 < left → 0 < passes → (get_or buckets b 0 ≡ 0 → ⊥)
      → ahead buckets b left passes ≡ Ahead.Filled b
  unfolding ahead
  filled_here b zero passes h p f = absurd (omega arith)
  filled_here b (suc left) zero h p f = absurd (omega arith)
  filled_here b (suc left) (suc passes) h p f = rw (ne_eqb (get_or buckets b 0) 0 f)

  -- behind so many empty buckets
  behind : (n b left passes : ℕ) → n ≤ left → n ≤ passes → ((k : ℕ) → k < n → get_or buckets (b + k) 0 ≡ 0)
      → ahead buckets (b + n) (left - n) (passes - n) ≡ ahead buckets b left passes
  unfolding ahead
  behind zero b left passes l p empty =
      let same : b + 0 ≡ b = omega arith in
      let left_same : left - 0 ≡ left = omega arith in
      let passes_same : passes - 0 ≡ passes = omega arith in
      rw (same, left_same, passes_same) refl
  behind (suc n) b zero passes l p empty = absurd (omega arith)
  behind (suc n) b (suc left) zero l p empty = absurd (omega arith)
  behind (suc n) b (suc left) (suc passes) l p empty =
      let place : b + suc n ≡ suc b + n = omega arith in
      let left_same : suc left - suc n ≡ left - n = omega arith in
      let passes_same : suc passes - suc n ≡ passes - n = omega arith in
      let here : b + 0 ≡ b = omega arith in
      rw (place, left_same, passes_same, eq-eqb (get_or buckets b 0) 0 (rw here at (empty 0 (omega arith))))
      (behind n (suc b) left passes (omega arith) (omega arith)
      (λ k h. let same : suc b + k ≡ b + suc k = omega arith in rw same (empty (suc k) (omega arith))))

-- ---- the buckets that are looked at, up to an end: as many as may be passed, if the table has so many

module _ (buckets : List ℕ) (from size visits end : ℕ) (some_left : end ≤ size) (some_passes : end ≤ from + visits) where
  abbrev pub seen : ℕ → ℕ
  seen k = get_or (take (end - from) (drop from buckets)) k 0

  at_bucket : (k : ℕ) → k < end - from → seen k ≡ get_or buckets (from + k) 0
  at_bucket k l = get_or-take (end - from) (drop from buckets) k 0 l ∙ get_or-drop from buckets k 0

  pub first_filled : (i : ℕ) → i < end - from → ((k : ℕ) → k < i → seen k ≡ 0) → (seen i ≡ 0 → ⊥)
      → Ahead.Filled (from + i) ≡ ahead buckets from (size - from) visits
  first_filled i l empty filled =
      sym
      (filled_here buckets (from + i) (size - from - i) (visits - i) (omega arith) (omega arith) (λ e. filled (at_bucket i l ∙ e)))
      ∙ behind buckets i from (size - from) visits (omega arith) (omega arith)
      (λ k h. sym (at_bucket k (omega arith)) ∙ empty k h)

  module _ (after : from ≤ end) (empty : (k : ℕ) → k < end - from → seen k ≡ 0) where
    passed : ahead buckets end (size - end) (from + visits - end) ≡ ahead buckets from (size - from) visits
    passed =
        let same : from + (end - from) ≡ end = omega arith in
        let left : size - from - (end - from) ≡ size - end = omega arith in
        let passes : visits - (end - from) ≡ from + visits - end = omega arith in
        rw (same, left, passes) at
        (behind buckets (end - from) from (size - from) visits (omega arith) (omega arith)
        (λ k h. sym (at_bucket k h) ∙ empty k h))

    pub all_passed : end ≡ from + visits → end < size → Ahead.Empty end ≡ ahead buckets from (size - from) visits
    all_passed p l = sym (empty_here buckets end (size - end) (from + visits - end) (omega arith) (omega arith)) ∙ passed

    pub end_reached : size ≤ end → Ahead.End ≡ ahead buckets from (size - from) visits
    end_reached l = sym (end_here buckets end (size - end) (from + visits - end) (omega arith)) ∙ passed
