-- Counting a chain's entries, one a turn.
-- Assumes nothing.
use Rattle.std.proofs.Common.{◌≡◌, ℕ, ◌+◌, List, ◌∷◌, refl, ap, ◌∙◌, arith, Result, Ok, Err}
use Rattle.std.specs.Result.{IsErrAnd}
use Rattle.std.proofs.lemmas.Result.{err_from_is_err_and}
use mathlib.Core.Option.{Option, none, some, map}
use Rattle.model.specs.declared.Error.{Error}
use Rattle.memory.specs.declared.chain.Chain.{Chain}
use Rattle.memory.specs.Chains.{rest, AtEnd, Passed}
use Rattle.memory.specs.Length.{length_of}

-- a chain's length, with that many entries met before it
pub grown : ℕ → Result ℕ Error → Result ℕ Error
grown met (Err x) = Err x
grown met (Ok n) = Ok (met + n)

-- the entries met and what is left of the chain are the whole chain, and the budget is not spent
pub record Counting (budget count : ℕ) (c : Chain) (whole : Option (List ℕ)) : Type 0 where
  pub within : count + c.budget ≡ budget
  pub same : grown count (length_of (rest c)) ≡ length_of whole

grown_none : (l : Result ℕ Error) → grown 0 l ≡ l
unfolding grown
grown_none (Err x) = refl
grown_none (Ok n) = ap Ok (omega arith)

grown_one : (m n : ℕ) (o : Option (List ℕ)) → grown (m + 1) (length_of o) ≡ grown m (length_of (map (λ ns. n ∷ ns) o))
unfolding grown length_of
grown_one m n none = refl
grown_one m n (some ns) = ap Ok (omega arith)

pub counting_start : (c : Chain) → Counting c.budget 0 c (rest c)
counting_start c = record { within = omega arith; same = grown_none _ }

module _ (budget count : ℕ) (c : Chain) (whole : Option (List ℕ)) (h : Counting budget count c whole) where
  pub counting_out : (x : Error) (r : Result ℕ Error) → (x ≡ Error.Damaged) × (rest c ≡ none) → IsErrAnd r (λ e. e ≡ x)
      → r ≡ length_of whole
  unfolding grown length_of
  counting_out x r d g = let p = err_from_is_err_and r g in rw (p.1, p.2, d.0) (rw d.1 at h.same)

  pub counting_next : (n : ℕ) (d : Chain) → Passed c n d → Counting budget (count + 1) d whole
  counting_next n d p =
      let w = h.within in
      let f = p.fewer in
      record {
        within = omega arith;
        same = grown_one count n (rest d) ∙ (rw p.ahead at h.same);
      }

  pub counting_end : AtEnd c → Ok count ≡ length_of whole
  unfolding grown length_of
  counting_end e = ap Ok (omega arith) ∙ (rw e.nothing at h.same)
