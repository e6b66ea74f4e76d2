-- What a step meets, said of the buckets: which one is filled, and which are empty.
-- Assumes nothing.
use Prim.Native.Nat.{ℕ, zero, suc, ◌+◌, ◌<◌, ◌≤◌}
use mathlib.Core.Path.{◌≡◌, refl, subst}
use mathlib.Core.Logic.{◌≢◌}
use mathlib.Core.Bool.{Bool, true, false, cond}
use mathlib.Core.List.{List}
use native.Mathlib.Decide.{dec_lt}
use native.Mathlib.Omega.{arith}
use lib.ListN.{get_or}
use lib.Dec.{eqb}
use borrow.Author.Tests.{eqb-true, eqb-false}
use Rattle.model.specs.declared.Ahead.{Ahead}
use Rattle.model.specs.Calls.{ahead}

-- What comes from bucket b on, up to an end, of which a step passes at most so many empty ones.

unfoldable pub AllEmpty : List ℕ → ℕ → ℕ → Type 0
AllEmpty buckets b end = (c : ℕ) → b ≤ c → c < end → get_or buckets c 0 ≡ 0

unfoldable pub Comes : List ℕ → ℕ → ℕ → ℕ → Ahead → Type 0
Comes buckets b end passes (Ahead.Filled f) =
    (b ≤ f) × (f < end) × (f < b + passes) × (get_or buckets f 0 ≢ 0) × AllEmpty buckets b f
Comes buckets b end passes (Ahead.Empty f) = (f ≡ b + passes) × (f < end) × AllEmpty buckets b f
Comes buckets b end passes Ahead.End = (end ≤ b + passes) × AllEmpty buckets b end

module _ (buckets : List ℕ) where
  -- no bucket at all
  none_empty : (b end : ℕ) → end ≤ b → AllEmpty buckets b end
  unfolding AllEmpty
  none_empty b end l c from below = absurd (omega arith)

  -- one bucket more in front, which is empty
  one_more : (b end : ℕ) → get_or buckets b 0 ≡ 0 → AllEmpty buckets (suc b) end → AllEmpty buckets b end
  unfolding AllEmpty
  one_more b end z h c from below =
      elim (dec_lt b c) [ yes l ↦ h c l below | no l ↦ subst (λ (i : ℕ). get_or buckets i 0 ≡ 0) (omega arith) z ]

  comes_behind : (b end passes : ℕ) (r : Ahead) → get_or buckets b 0 ≡ 0 → Comes buckets (suc b) end passes r
      → Comes buckets b end (suc passes) r
  unfolding Comes
  comes_behind b end passes (Ahead.Filled f) z (from, below, reach, some_there, before) =
      (omega arith, below, omega arith, some_there, one_more b f z before)
  comes_behind b end passes (Ahead.Empty f) z (is, below, before) = (omega arith, below, one_more b f z before)
  comes_behind b end passes Ahead.End z (reach, before) = (omega arith, one_more b end z before)

  pub ahead_comes : (b left passes end : ℕ) → b + left ≡ end → Comes buckets b end passes (ahead buckets b left passes)
  unfolding Comes ahead
  ahead_comes b zero passes end e = (omega arith, none_empty b end (omega arith))
  ahead_comes b (suc left) zero end e = (omega arith, omega arith, none_empty b b (omega arith))
  ahead_comes b (suc left) (suc passes) end e =
      pick (eqb (get_or buckets b 0) 0) refl (ahead_comes (suc b) left passes end (omega arith))
    where
      pick : (t : Bool) → eqb (get_or buckets b 0) 0 ≡ t → Comes buckets (suc b) end passes (ahead buckets (suc b) left passes)
          → Comes buckets b end (suc passes) (cond t (ahead buckets (suc b) left passes) (Ahead.Filled b))
      pick true z h =
          comes_behind b end passes (ahead buckets (suc b) left passes) (eqb-true (get_or buckets b 0) 0 z) h
      pick false z h =
          (omega arith, omega arith, omega arith, eqb-false (get_or buckets b 0) 0 z, none_empty b b (omega arith))

  -- a filled bucket lies in the table
  pub filled_below : (b left passes f : ℕ) → ahead buckets b left passes ≡ Ahead.Filled f → f < b + left
  unfolding Comes
  filled_below b left passes f e =
      let comes : Comes buckets b (b + left) passes (Ahead.Filled f) =
      subst (Comes buckets b (b + left) passes) e (ahead_comes b left passes (b + left) refl) in
      comes.1
