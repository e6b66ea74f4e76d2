-- Wrong stores by a start.
use Rattle.std.specs.Prelude.{true, false, [], ◌∷◌}
use Rattle.model.specs.Memory.{set_link, size_of, used_of}
use Rattle.model.specs.Calls.{cleared, retabled}
use Rattle.model.specs.Sequences.{World, Call, Outcome, perform}
use Rattle.wrong_stores.specs.OneCall.{but_init, if_done, answering, handing_back, leaving}

-- one entry, however many are asked for
unfoldable pub one_entry : World → Call → Outcome
one_entry = but_init (λ capacity size w o. if_done (perform w (Call.init 1 size)) o)

-- one bucket, however many are asked for: an empty store that claims another size
unfoldable pub one_bucket : World → Call → Outcome
one_bucket = but_init (λ capacity size w o. if_done (perform w (Call.init capacity 1)) o)

-- the table in the second buffer
unfoldable pub starts_in_second : World → Call → Outcome
starts_in_second =
    but_init
    (λ capacity size w o.
    let s = o.reply.state in
    if_done
    (handing_back (retabled s true (size_of s) (used_of s) false 0)
    (leaving w.first (cleared size w.second) o.entries o))
    o)

-- a start that leaves the second buffer shorter than it was lent
unfoldable pub starts_short : World → Call → Outcome
starts_short = but_init (λ capacity size w o. if_done (leaving o.first [] o.entries o) o)

-- a free list that comes from its last entry back to the first
unfoldable pub starts_looping : World → Call → Outcome
starts_looping =
    but_init (λ capacity size w o. if_done (leaving o.first o.second (set_link o.entries capacity 1) o) o)

-- a start that says its capacity
unfoldable pub starts_saying : World → Call → Outcome
starts_saying = but_init (λ capacity size w o. answering (capacity ∷ []) o)
