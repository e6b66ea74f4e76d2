-- For the contracts of the code that is lent a list: the calls that it is, and the room that it has for the numbers of a list.
-- Nothing here is part of the promise.
use Rattle.std.specs.Prelude.{ℕ, ◌*◌, ◌/◌, List}
use Rattle.model.specs.Sequences.{Call}
use Rattle.lent_bytes.specs.Exports.{most_entry_bytes}
use Rattle.export_runs.specs.Numbers.{room_for}

pub data Listing : Type 0 where
  scan : (cursor : ℕ) → Listing
  iterate : (place : ℕ) → Listing

abbrev pub list_call : Listing → List ℕ → Call
list_call (Listing.scan cursor) list = Call.scan cursor list
list_call (Listing.iterate place) list = Call.iterate place list

-- two numbers for each entry of the longest entry buffer, where an entry is three: no call hands out more
unfoldable pub list_room : ℕ
list_room = room_for most_entry_bytes / 3 * 2
