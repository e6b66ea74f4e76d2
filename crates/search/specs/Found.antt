-- The entry that a lookup found, without the way to it: damage where a chain is not sound, no entry where none has the key.
use Rattle.std.specs.Prelude.{ℕ, ◌*◌, ◌≤◌, ◌<◌, ◌≡◌, Bool, false, eqb, Option, None, Some, Result, Ok, Err}
use Rattle.std.specs.Option.{option_or}
use Rattle.model.specs.declared.Error.{Error}
use Rattle.model.specs.declared.Lookup.{Lookup}

abbrev pub Found : Type 0
Found = Result (Option ℕ) Error

unfoldable pub found_of : Lookup → Found
found_of Lookup.Damaged = Err Error.Damaged
found_of Lookup.Absent = Ok None
found_of (Lookup.At t before n) = Ok (Some n)

-- whether it is that entry
unfoldable pub found_is : Found → ℕ → Bool
found_is (Err e) n = false
found_is (Ok None) n = false
found_is (Ok (Some m)) n = eqb m n

-- both chains must be sound, and the old table's comes first
unfoldable pub both_found : Found → Found → Found
both_found (Err e) new = Err e
both_found (Ok old) (Err e) = Err e
both_found (Ok old) (Ok new) = Ok (option_or old new)

-- the entry, if one was found, is one of a buffer of that length
pub record Inside (found : Found) (entries : ℕ) : Type 0 where
  pub some : (n : ℕ) → found ≡ Ok (Some n) → 0 < n
  pub fits : (n : ℕ) → found ≡ Ok (Some n) → n * 3 ≤ entries
