-- From what the two calls answer to the numbers.
-- Assumes nothing.
use Rattle.std.proofs.Common.{◌≡◌, ℕ, Bool, true, false, List, Result, Ok, Err, MatchResult}
use Rattle.std.specs.Result.{result_unwrap_or}
use mir.Val.{bool_byte}
use Rattle.model.specs.declared.State.{State}
use Rattle.model.specs.declared.Error.{Error}
use Rattle.model.specs.Answers.{reply, error_number, verify_reply, state_reply}
use Rattle.model.specs.Calls.{After}
use Rattle.model.specs.Verify.{verify}
use Rattle.model.specs.Repair.{repair}
use Rattle.repair_main.specs.Answered.{in_numbers, behind, answered}

-- a call's number
HasNumber : {A : Type 0} → Result A Error → ℕ → Type 0
HasNumber a n = MatchResult a (λ _. n ≡ 0) (λ e. n ≡ error_number e)

module _ (s t : State) (flag : Bool) (verified undamaged repaired : ℕ) where
  numbers : (v : Result Bool Error) (r : Result State Error) → HasNumber v verified → flag ≡ result_unwrap_or v false
      → undamaged ≡ bool_byte flag → HasNumber r repaired → t ≡ result_unwrap_or r s
      → record { verify = verified; undamaged = undamaged; repair = repaired; state = t } ≡ in_numbers s v r
  unfolding HasNumber in_numbers verify_reply state_reply reply
  numbers (Ok true) (Ok u) n f b m e = rw (n, b, f, m, e)
  numbers (Ok false) (Ok u) n f b m e = rw (n, b, f, m, e)
  numbers (Err x) (Ok u) n f b m e = rw (n, b, f, m, e)
  numbers (Ok true) (Err y) n f b m e = rw (n, b, f, m, e)
  numbers (Ok false) (Err y) n f b m e = rw (n, b, f, m, e)
  numbers (Err x) (Err y) n f b m e = rw (n, b, f, m, e)

  pub both : (v : Result Bool Error) (r : Result State Error) (first second entries first₁ second₁ entries₁ : List ℕ)
      → v ≡ verify s first second entries
      → After.after r first₁ second₁ entries₁ ≡ repair s first second entries
      → MatchResult v (λ _. verified ≡ 0) (λ e. verified ≡ error_number e) → flag ≡ result_unwrap_or v false → undamaged ≡ bool_byte flag
      → MatchResult r (λ _. repaired ≡ 0) (λ e. repaired ≡ error_number e) → t ≡ result_unwrap_or r s
      → After.after (record { verify = verified; undamaged = undamaged; repair = repaired; state = t }) first₁ second₁ entries₁
      ≡ answered s first second entries
  unfolding answered behind HasNumber
  both v r first second entries first₁ second₁ entries₁ hv hr n f b m e =
      rw (← hr, ← hv, numbers v r n f b m e)
