-- Wrong stores by a refusal: they refuse what they ought to answer, answer what they ought to refuse, or do not leave all
-- as it was.
use Rattle.std.specs.Prelude.{ℕ, suc, ◌*◌, ◌&&◌, cond, List, [], ◌∷◌, length, get_or, replicate, leb, ltb, eqb, Err}
use Rattle.std.proofs.Math.Option.{Option}
use Rattle.model.specs.declared.Error.{Error}
use Rattle.model.specs.Limits.{largest_capacity}
use Rattle.model.specs.Memory.{keys_held, set_value}
use Rattle.model.specs.Answers.{reply, value_reply, state_reply, step_reply}
use Rattle.model.specs.Calls.{no_state}
use Rattle.model.specs.Walk.{AfterScan, tables_of, group, group_places, chains_at, at_most, scanned}
use Rattle.model.specs.Sequences.{World, Call, Outcome, kept, kept_scan, perform}
use Rattle.refinement.specs.Worlds.{current, other}
use Rattle.wrong_stores.specs.OneCall.{Change, but, but_init, but_find, but_update, but_resize, but_step, but_scan, if_done, if_refused, if_damaged, answering, handing_back, listing, leaving}
use Rattle.model.specs.declared.ScanError.{ScanError}

-- refuses every call
unfoldable pub refuses_all : World → Call → Outcome
refuses_all w c = kept w (reply 1 [] w.state) []

-- a start takes no capacity and no size above 4,096: it answers as to a capacity of 0
unfoldable pub refuses_large : World → Call → Outcome
refuses_large = but_init (λ capacity size w o. cond (leb capacity 4096 && leb size 4096) o (perform w (Call.init 0 size)))

-- a start answers to a capacity above the largest as to the largest
unfoldable pub takes_larger : World → Call → Outcome
takes_larger = but_init (λ capacity size w o. cond (leb capacity largest_capacity) o (perform w (Call.init largest_capacity size)))

-- refuses every resize
unfoldable pub refuses_resizes : World → Call → Outcome
refuses_resizes = but_resize (λ size w o. if_done (kept w (state_reply w.state (Err Error.BadSize)) []) o)

-- refuses every step
unfoldable pub refuses_steps : World → Call → Outcome
refuses_steps = but_step (λ w o. if_done (kept w (step_reply w.state (Err Error.Damaged)) []) o)

-- takes a chain that is not sound for one without the key
unfoldable pub overlooks_damage : World → Call → Outcome
overlooks_damage =
    but_find (λ key w o. if_damaged (kept w (value_reply w.state (Err Error.Absent)) []) o)

-- a refusal hands back a state of zeros
unfoldable pub loses_state : World → Call → Outcome
loses_state = but (λ c w o. if_refused (handing_back no_state o) o)

-- a refused change has written its value to entry 1
unfoldable pub writes_first : World → Call → Outcome
writes_first = but_update (λ key value w o. if_refused (leaving o.first o.second (set_value o.entries 1 value) o) o)

-- Walk calls.

-- refuses every one as damaged
unfoldable pub as_damaged : List ℕ → Change
as_damaged lent w o = kept_scan w (AfterScan.after (Err (ScanError.Refused Error.Damaged)) lent)

unfoldable pub refuses_walks : World → Call → Outcome
refuses_walks = but_scan (λ cursor. as_damaged)

-- always short, with the right number of keys
unfoldable pub as_short : List ℕ → Change
as_short lent w o = if_done (kept_scan w (AfterScan.after (Err (ScanError.Short (get_or o.reply.values 1 0))) lent)) o

unfoldable pub always_short : World → Call → Outcome
always_short = but_scan (λ cursor. as_short)

-- damaged where the group has as many entries as there are keys held, and some are held
unfoldable pub sum_below_keys : World → Call → Outcome
sum_below_keys =
    but_scan
    (λ cursor lent w o.
    cond (ltb 0 (keys_held w.state) && eqb (get_or o.reply.values 1 0) (keys_held w.state)) (as_damaged lent w o) o)

-- What a call that ours refuses as damaged would be with another limit on the entries of its group, or with none.

unfoldable pub read_again : (World → Option (List ℕ) → Option (List ℕ)) → World → ℕ → List ℕ → Outcome
read_again limited w cursor lent =
    let s = w.state in
    let ns = chains_at s (current w) (other w) w.entries (group_places (tables_of s) cursor) in
    kept_scan w (scanned w.entries lent (group (tables_of s) cursor).answered (limited w ns))

-- short before it has compared the entries of the group with the keys held
unfoldable pub sum_after_short : World → Call → Outcome
sum_after_short =
    but_scan
    (λ cursor lent w o.
    let again = read_again (λ w ns. ns) w cursor lent in
    cond (eqb o.reply.number 2 && eqb again.reply.number 9) again o)

-- as many entries in a group as the capacity
unfoldable pub sum_by_capacity : World → Call → Outcome
sum_by_capacity =
    but_scan (λ cursor lent w o. if_damaged (read_again (λ w ns. at_most w.state.capacity ns) w cursor lent) o)

-- short unless the list has two numbers for every key held
unfoldable pub room_for_all : World → Call → Outcome
room_for_all =
    but_scan
    (λ cursor lent w o.
    cond (leb (keys_held w.state * 2) (length lent)) o (as_short lent w o))

-- makes up the number of keys that comes with 9
unfoldable pub miscounting : Change
miscounting w o = cond (eqb o.reply.number 9) (answering (0 ∷ suc (get_or o.reply.values 1 0) ∷ []) o) o

unfoldable pub short_miscounts : World → Call → Outcome
short_miscounts = but_scan (λ cursor lent. miscounting)

-- says a number of keys with any other refusal
unfoldable pub counts_refused : World → Call → Outcome
counts_refused =
    but_scan (λ cursor lent w o. cond (eqb o.reply.number 9) o (if_refused (answering (0 ∷ 1 ∷ []) o) o))

-- writes the list and refuses
unfoldable pub scribbling : Change
scribbling w o = if_refused (listing (replicate (length o.lent) 0) o) o

unfoldable pub writes_refused : World → Call → Outcome
writes_refused = but_scan (λ cursor lent. scribbling)
