-- The free list to its end, one entry a turn.
-- Assumes nothing.
use Rattle.std.proofs.Common.{◌≡◌, ℕ, zero, suc, ◌+◌, ◌-◌, ◌<◌, ◌≤◌, false, ◌||◌, eqb, ltb, List, [], ◌∷◌, refl, sym, ap, ◌∙◌, arith, Ok, Err, Some, None}
use Rattle.std.proofs.lemmas.Bool.{lt-ltb, le-ltb, ne_eqb}
use Rattle.std.specs.Prelude as Prelude
use native.Mathlib.Numerals.{sub-one}
use lib.Dec.{eqb-suc-suc, eqb-suc-zero}
use mathlib.Core.Logic.{inl, inr, ◌⊎◌}
use mathlib.Core.Option.{Option, none, some, map}
use Rattle.model.specs.declared.Error.{Error}
use Rattle.model.specs.Memory.{link_of, chain, any_key, last_or}
use Rattle.model.proofs.Chains.{chain_end, chain_bad, chain_good}
use Rattle.verify.specs.Checked.{last_of, end_from}

-- the end from here is the end from the head
pub record Ending (entries : List ℕ) (capacity count head at i : ℕ) (last : Prelude.Option ℕ) : Type 0 where
  pub same : end_from last (count - i) (chain any_key entries capacity (count - i) at) ≡ end_from None count (chain any_key entries capacity count head)

one_more : (last : Prelude.Option ℕ) (left at : ℕ) (o : Option (List ℕ)) → 0 < left
    → end_from (Some at) (left - 1) o ≡ end_from last left (map (λ ns. at ∷ ns) o)
unfolding end_from last_of last_or
one_more last zero at o l = absurd (omega arith)
one_more last (suc left) at none l = refl
one_more last (suc left) at (some []) l = rw (sub-one, eqb-suc-suc)
one_more last (suc left) at (some (n ∷ ns)) l = rw (sub-one, eqb-suc-suc)

module _ (entries : List ℕ) (capacity count head : ℕ) where
  pub ending_start : Ending entries capacity count head head 0 None
  ending_start = record { same = ap (λ (k : ℕ). end_from None k (chain any_key entries capacity k head)) (omega arith) }

  module _ (at i : ℕ) (last : Prelude.Option ℕ) (h : Ending entries capacity count head at i last) where
    -- the list ends early, or a number is out of range
    pub ending_out : (at ≡ 0) ⊎ ((at ≡ 0 → ⊥) × (capacity < at)) → i < count
        → Err Error.Damaged ≡ end_from None count (chain any_key entries capacity count head)
    unfolding end_from
    ending_out t l = by (count - i) (omega arith) t ∙ h.same
      where
        by : (k : ℕ) → 0 < k → (at ≡ 0) ⊎ ((at ≡ 0 → ⊥) × (capacity < at)) → Err Error.Damaged ≡ end_from last k (chain any_key entries capacity k at)
        by zero p t = absurd (omega arith)
        by (suc k) p (inl z) = rw (chain_end any_key entries capacity (suc k) at z, ne_eqb 0 (suc k) (λ e. omega arith))
        by (suc k) p (inr (f, m)) =
            rw (chain_bad any_key entries capacity (suc k) at f (rw (eqb-suc-zero k) (lt-ltb capacity at m)))

    pub ending_next : (next : ℕ) → (at ≡ 0 → ⊥) → at ≤ capacity → i < count → next ≡ link_of entries at
        → Ending entries capacity count head next (i + 1) (Some at)
    unfolding any_key
    ending_next next f m l e = record { same = rw (e, fewer) (one ∙ h.same) }
      where
        fewer : count - (i + 1) ≡ count - i - 1
        fewer = omega arith

        in_reach : (k : ℕ) → 0 < k → (eqb k 0 || ltb capacity at) ≡ false
        in_reach zero p = absurd (omega arith)
        in_reach (suc k) p = rw (eqb-suc-zero k) (le-ltb capacity at m)

        one : end_from (Some at) (count - i - 1) (chain any_key entries capacity (count - i - 1) (link_of entries at))
            ≡ end_from last (count - i) (chain any_key entries capacity (count - i) at)
        one =
            one_more last (count - i) at (chain any_key entries capacity (count - i - 1) (link_of entries at)) (omega arith)
            ∙ ap (end_from last (count - i)) (sym (chain_good any_key entries capacity (count - i) at f (in_reach (count - i) (omega arith)) refl))

    none_left : count ≤ i → count - i ≡ 0
    none_left l = omega arith

    pub ending_full : count ≤ i → at ≡ 0 → Ok last ≡ end_from None count (chain any_key entries capacity count head)
    unfolding end_from last_of
    ending_full l e = rw (none_left l, chain_end any_key entries capacity 0 at e) at h.same

    pub ending_long : count ≤ i → (at ≡ 0 → ⊥)
        → Err Error.Damaged ≡ end_from None count (chain any_key entries capacity count head)
    unfolding end_from
    ending_long l f = rw (none_left l, chain_bad any_key entries capacity 0 at f refl) at h.same
