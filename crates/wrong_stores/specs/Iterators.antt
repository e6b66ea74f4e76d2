-- Wrong stores by the begin or the end of an iterator, and by the safe iterators that hold up a rehash.
use Rattle.std.specs.Prelude.{ℕ, suc, ◌&&◌, cond, [], ◌∷◌, ltb, eqb}
use Rattle.model.specs.declared.State.{State}
use Rattle.model.specs.Limits.{most_safe_iterators}
use Rattle.model.specs.Answers.{reply}
use Rattle.model.specs.Calls.{noted, paused}
use Rattle.model.specs.Iterators.{fingerprint_of}
use Rattle.model.specs.Cases.{with_safe}
use Rattle.model.specs.Sequences.{World, KeyCall, Call, Outcome, kept, perform}
use Rattle.wrong_stores.specs.OneCall.{Change, but_init, but_add, but_delete, but_resize, but_step, but_begin, but_end, but_begin_safe, but_end_safe, if_done, if_refused, answering, handing_back}

-- An iterator.

-- that number, with no values, and nothing changed
unfoldable pub only_number : ℕ → World → Outcome
only_number number w = kept w (reply number [] w.state) []

-- begins with a made-up fingerprint
unfoldable pub prints_zero : World → Call → Outcome
prints_zero = but_begin (λ w o. if_done (answering (0 ∷ []) o) o)

-- a refused begin says the fingerprint too
unfoldable pub prints_refused : World → Call → Outcome
prints_refused = but_begin (λ w o. if_refused (answering (fingerprint_of w.state ∷ []) o) o)

-- says of no store that it changed, or of every one
unfoldable pub never_changed : World → Call → Outcome
never_changed = but_end (λ fingerprint w o. cond (eqb o.reply.number 15) (only_number 0 w) o)

unfoldable pub always_changed : World → Call → Outcome
always_changed = but_end (λ fingerprint w o. if_done (only_number 15 w) o)

-- .. or, before it is known to be sound, of one that did
unfoldable pub changed_first : World → Call → Outcome
changed_first =
    but_end (λ fingerprint w o. cond (eqb fingerprint (fingerprint_of w.state)) o (if_refused (only_number 15 w) o))

-- A safe iterator.

-- the state with another number of them
unfoldable pub with_iterators : ℕ → State → State
with_iterators iterators s = noted s s.resize_allowed iterators

-- its begin, or its end, changes nothing
unfoldable pub counts_none : World → Call → Outcome
counts_none = but_begin_safe (λ w o. if_done (handing_back w.state o) o)

unfoldable pub keeps_counted : World → Call → Outcome
keeps_counted = but_end_safe (λ w o. if_done (handing_back w.state o) o)

-- begins one fewer than there can be, or one more
unfoldable pub begins_fewer : World → Call → Outcome
begins_fewer =
    but_begin_safe
    (λ w o. cond (ltb (suc w.state.safe_iterators) most_safe_iterators) o (if_done (only_number 17 w) o))

unfoldable pub begins_beyond : World → Call → Outcome
begins_beyond =
    but_begin_safe
    (λ w o.
    let s = w.state in
    cond (eqb o.reply.number 17) (kept w (reply 0 [] (with_iterators (suc s.safe_iterators) s)) []) o)

-- ends one where none has begun
unfoldable pub ends_none : World → Call → Outcome
ends_none = but_end_safe (λ w o. cond (eqb o.reply.number 16) (only_number 0 w) o)

-- a start with as many as there were, or with one
unfoldable pub starts_counting : (World → ℕ) → World → Call → Outcome
starts_counting iterators =
    but_init (λ capacity size w o. if_done (handing_back (with_iterators (iterators w) o.reply.state) o) o)

unfoldable pub starts_as_before : World → Call → Outcome
starts_as_before = starts_counting (λ w. w.state.safe_iterators)

unfoldable pub starts_with_one : World → Call → Outcome
starts_with_one = starts_counting (λ w. 1)

-- What safe iterators hold up.

-- a call as ours does it with none of them, but that there are as many after it
unfoldable pub unpaused : Call → Change
unpaused c w o =
    let s = w.state in
    let p = perform (with_safe 0 w) c in
    cond (eqb o.reply.number 1) o (handing_back (with_iterators s.safe_iterators p.reply.state) p)

-- a step moves, ..
unfoldable pub steps_paused : World → Call → Outcome
steps_paused = but_step (unpaused Call.rehash_step)

-- .. or is refused as damaged first; ..
unfoldable pub damaged_first : World → Call → Outcome
damaged_first =
    but_step
    (λ w o. let p = unpaused Call.rehash_step w o in cond (eqb p.reply.number 2) p o)

-- .. it is held up with nothing to move; ..
unfoldable pub paused_at_rest : World → Call → Outcome
paused_at_rest =
    but_step
    (λ w o.
    cond (paused w.state && eqb o.reply.number 8) (kept w (reply 18 (0 ∷ 0 ∷ []) w.state) []) o)

-- .. an add, or a delete, takes its step; ..
unfoldable pub adds_paused : World → Call → Outcome
adds_paused = but_add (λ key value. unpaused (Call.on key (KeyCall.add value)))

unfoldable pub deletes_paused : World → Call → Outcome
deletes_paused = but_delete (λ key. unpaused (Call.on key KeyCall.delete))

-- .. and a resize is refused
unfoldable pub refuses_paused : World → Call → Outcome
refuses_paused = but_resize (λ size w o. cond (paused w.state) (if_done (only_number 18 w) o) o)
