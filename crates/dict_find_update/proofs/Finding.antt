-- What find answers on a sound state, by the entry found.
-- Assumes nothing.
use Prim.Native.Nat.{ℕ}
use mathlib.Core.Path.{◌≡◌, ap, ◌∙◌}
use mathlib.Core.Bool.{true, cond}
use mathlib.Core.List.{List}
use lib.ListN.{length}
use Rattle.std.specs.Prelude.{Result, Ok, Err, Option}
use Rattle.std.specs.Option.{ok_or}
use Rattle.std.specs.Result.{IsErrAnd}
use Rattle.std.proofs.lemmas.Result.{err_from_is_err_and}
use Rattle.model.specs.declared.State.{State}
use Rattle.model.specs.declared.Error.{Error}
use Rattle.model.specs.Memory.{value_of}
use Rattle.model.specs.Calls.{lookup, found, find}
use Rattle.memory.specs.Lent.{sound_lent}
use Rattle.memory.proofs.Orientation.{reading_oriented}
use Rattle.search.specs.Found.{found_of}
use Rattle.search.proofs.Held.{held_damaged, held_absent, held_at}

module _ (s : State) (first second current other entries : List ℕ) (key : ℕ)
    (c : current ≡ cond s.second_is_current second first) (o : other ≡ cond s.second_is_current first second)
    (h : sound_lent (length first) (length second) (length entries) s ≡ true) where
  answered : (r : Result ℕ Error) → r ≡ found entries (lookup s current other entries key)
      → r ≡ find s first second entries key
  unfolding find
  answered r e = reading_oriented s first second current other c o entries h _ _ r e

  pub find_damaged : (r : Result ℕ Error) (x : Error) → Err x ≡ found_of (lookup s current other entries key)
      → IsErrAnd r (λ e. e ≡ x) → r ≡ find s first second entries key
  unfolding found
  find_damaged r x e g = let p = err_from_is_err_and r g in answered r (rw (p.1, p.2) (held_damaged _ _ _ x e))

  module _ (found_in : Option ℕ) (e : Ok found_in ≡ found_of (lookup s current other entries key)) where
    pub find_absent : (r : Result ℕ Error) (x : Error) → Err x ≡ ok_or found_in Error.Absent
        → IsErrAnd r (λ e. e ≡ x) → r ≡ find s first second entries key
    unfolding found
    find_absent r x a g = let p = err_from_is_err_and r g in answered r (rw (p.1, p.2) (held_absent _ _ _ found_in x e a))

    pub find_held : (n value : ℕ) → Ok n ≡ ok_or found_in Error.Absent → value ≡ value_of entries n
        → Ok value ≡ find s first second entries key
    unfolding found
    find_held n value a v = answered _ (ap Ok v ∙ held_at _ _ _ found_in n e a)
