-- Whether a key is held once a rehash step was taken, and the entry buffer that the step leaves.
use Rattle.std.specs.Prelude.{ℕ, Bool, true, false, List, Result, Ok, Err}
use Rattle.model.specs.declared.Lookup.{Lookup}
use Rattle.model.specs.Calls.{After, back}
use Rattle.search.specs.Tables.{lookup_lent}
use Rattle.model.specs.declared.Error.{Error}
use Rattle.model.specs.declared.State.{State}

-- what a lookup answers, without the entry: whether the key is held, where no chain is damaged
unfoldable pub presence : Lookup → Result Bool Error
presence Lookup.Damaged = Err Error.Damaged
presence Lookup.Absent = Ok false
presence (Lookup.At t before n) = Ok true

-- that of the lookup in what a step leaves; a step that is refused met damage
unfoldable pub presence_after : ℕ → After (Result (ℕ × State) Error) → Result Bool Error
presence_after key (After.after (Err e) x y z) = Err Error.Damaged
presence_after key (After.after (Ok (count, t)) x y z) = presence (lookup_lent t x y z key)

-- the same of a step on the current and the other bucket buffer, by the flag of the state before it
unfoldable pub presence_then : ℕ → Bool → After (Result (ℕ × State) Error) → Result Bool Error
presence_then key second a = presence_after key (back second a)

unfoldable pub entries_after : After (Result (ℕ × State) Error) → List ℕ
entries_after (After.after a x y z) = z
