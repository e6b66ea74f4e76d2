-- A store that is wrong only where no start leads.
use Rattle.std.specs.Prelude.{Bool, true, false, length, replicate, eqb}
use Rattle.model.specs.Calls.{no_state}
use Rattle.model.specs.Sequences.{World, Call, Outcome}
use Rattle.wrong_stores.specs.OneCall.{but_allow, if_done, handing_back, leaving}

-- a state of zeros, and every number of the memory 0
unfoldable pub emptied : Outcome → Outcome
emptied o =
    handing_back no_state (leaving o.first (replicate (length o.second) 0) (replicate (length o.entries) 0) o)

unfoldable pub emptied_if : Bool → Outcome → Outcome
emptied_if true o = if_done (emptied o) o
emptied_if false o = o

-- The permission, answered 0, empties the store, if the first bucket buffer has no numbers: the table is in the second one then,
-- and a start needs the first.
unfoldable pub loses : World → Call → Outcome
loses = but_allow (λ allowed w o. emptied_if (eqb (length w.first) 0) o)
