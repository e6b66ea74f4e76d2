-- Reading what is left of a chain, one entry a turn.
-- Assumes nothing.
use Rattle.std.proofs.Common.{◌≡◌, ℕ, List, [], ◌∷◌, ap, ◌∙◌, Result, MatchResult}
use mathlib.Core.Option.{Option, none, some, map}
use Rattle.std.specs.Result.{IsErrAnd}
use Rattle.std.proofs.lemmas.Result.{err_from_is_err_and}
use Rattle.model.specs.declared.Error.{Error}
use Rattle.memory.specs.declared.chain.Chain.{Chain}
use Rattle.memory.specs.Chains.{rest, AtEnd, Passed}

-- the whole is as sound as what is left of it
pub record Reading (c : Chain) (whole : Option (List ℕ)) : Type 0 where
  pub damaged : rest c ≡ none → whole ≡ none
  pub sound : (ns : List ℕ) → rest c ≡ some ns → (ms : List ℕ) × (whole ≡ some ms)

pub reading_start : (c : Chain) → Reading c (rest c)
reading_start c = record { damaged = λ e. e; sound = λ ns e. (ns, e) }

module _ (c : Chain) (whole : Option (List ℕ)) (h : Reading c whole) where
  pub reading_next : (n : ℕ) (d : Chain) → Passed c n d → Reading d whole
  reading_next n d p =
      record {
        damaged = λ e. h.damaged (p.ahead ∙ ap (map (λ ns. n ∷ ns)) e);
        sound = λ ns e. h.sound (n ∷ ns) (p.ahead ∙ ap (map (λ ns. n ∷ ns)) e);
      }

  pub reading_out : (x : Error) (r : Result Unit Error) → (x ≡ Error.Damaged) × (rest c ≡ none) → IsErrAnd r (λ e. e ≡ x)
      → MatchResult r (λ _. (ns : List ℕ) × (whole ≡ some ns)) (λ e. (e ≡ Error.Damaged) × (whole ≡ none))
  reading_out x r d g = let p = err_from_is_err_and r g in rw p.1 (p.2 ∙ d.0, h.damaged d.1)

  pub reading_end : AtEnd c → (ns : List ℕ) × (whole ≡ some ns)
  reading_end e = h.sound [] e.nothing
