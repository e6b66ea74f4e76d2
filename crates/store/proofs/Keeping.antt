-- What a method answers and leaves, once the plain call has answered.
use Rattle.std.proofs.Common.{ℕ, ◌≡◌, List, Result, Ok, Err, ap, refl}
use Rattle.model.specs.declared.State.{State}
use Rattle.model.specs.declared.Error.{Error}
use Rattle.model.specs.declared.Unstarted.{Unstarted}
use Rattle.model.specs.Calls.{After}
use Rattle.model.specs.Sequences.{World, world}
use Rattle.store.specs.Stores.{left, kept, stepped, started}

module _ (s : State) (first second entries : List ℕ) where
  pub kept_ok : (r : Result State Error) (meant : After (Result State Error)) (t : State) → After.after r first second entries ≡ meant → r ≡ Ok t
      → (Ok tt, world t first second entries) ≡ kept s meant
  unfolding kept
  kept_ok r meant t e k = rw (← e, k) refl

  pub kept_err : (r : Result State Error) (meant : After (Result State Error)) (error : Error) → After.after r first second entries ≡ meant → r ≡ Err error
      → (Err error, world s first second entries) ≡ kept s meant
  unfolding kept
  kept_err r meant error e k = rw (← e, k) refl

  pub left_as : {A : Type 0} (r : A) (meant : After A) → After.after r first second entries ≡ meant
      → (r, world s first second entries) ≡ left s meant
  unfolding left
  left_as r meant e = rw (← e) refl

  pub stepped_ok : (r : Result (ℕ × State) Error) (meant : After (Result (ℕ × State) Error)) (n : ℕ) (t : State) → After.after r first second entries ≡ meant
      → r ≡ Ok (n, t) → (Ok n, world t first second entries) ≡ stepped s meant
  unfolding stepped
  stepped_ok r meant n t e k = rw (← e, k) refl

  pub stepped_err : (r : Result (ℕ × State) Error) (meant : After (Result (ℕ × State) Error)) (error : Error) → After.after r first second entries ≡ meant
      → r ≡ Err error → (Err error, world s first second entries) ≡ stepped s meant
  unfolding stepped
  stepped_err r meant error e k = rw (← e, k) refl

  pub started_ok : (r : Result State Unstarted) (meant : After (Result State Unstarted)) (t : State) → After.after r first second entries ≡ meant → r ≡ Ok t
      → (Ok tt, world t first second entries) ≡ started s meant
  unfolding started
  started_ok r meant t e k = rw (← e, k) refl

  pub started_err : (r : Result State Unstarted) (meant : After (Result State Unstarted)) (u : Unstarted) → After.after r first second entries ≡ meant → r ≡ Err u
      → (Err u.error, world s first second entries) ≡ started s meant
  unfolding started
  started_err r meant u e k = rw (← e, k) refl

  pub noted_ok : (r meant : Result State Error) (t : State) → r ≡ meant → r ≡ Ok t
      → (Ok tt, world t first second entries) ≡ kept s (After.after meant first second entries)
  noted_ok r meant t e k = kept_ok r (After.after meant first second entries) t (ap (λ a. After.after a first second entries) e) k

  pub noted_err : (r meant : Result State Error) (error : Error) → r ≡ meant → r ≡ Err error
      → (Err error, world s first second entries) ≡ kept s (After.after meant first second entries)
  noted_err r meant error e k = kept_err r (After.after meant first second entries) error (ap (λ a. After.after a first second entries) e) k
