-- What a chain's count says of what was read.
-- Assumes nothing.
use Rattle.std.proofs.Common.{◌≡◌, ℕ, List, length, refl, arith, Result, Ok, Err}
use mathlib.Core.Option.{Option, none, some}
use Rattle.model.specs.Memory.{listed}
use Rattle.memory.specs.Length.{length_of}
use Rattle.model.specs.declared.Error.{Error}

-- a count: the chain is sound, and has that many entries
pub counted : (r : Result ℕ Error) (n : ℕ) (o : Option (List ℕ)) → r ≡ Ok n → r ≡ length_of o
    → (o ≡ some (listed o)) × (length (listed o) ≡ n)
unfolding listed length_of
counted r n none s e = let z : ◌≡◌ {A = ℕ} 0 1 = cc in absurd (omega arith)
counted r n (some ns) s e = (refl, cc)

-- no count: it is not sound, and that is damage
pub uncounted : (r : Result ℕ Error) (x : Error) (o : Option (List ℕ)) → r ≡ Err x → r ≡ length_of o
    → (o ≡ none) × (x ≡ Error.Damaged)
unfolding length_of
uncounted r x none s e = (refl, cc)
uncounted r x (some ns) s e = let z : ◌≡◌ {A = ℕ} 0 1 = cc in absurd (omega arith)
