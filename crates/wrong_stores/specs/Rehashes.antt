-- Wrong stores by a resize or a step.
use Rattle.std.specs.Prelude.{ℕ, zero, suc, ◌+◌, max, true, false, [], ◌∷◌, length, get_or, take, eqb}
use Rattle.cursor.specs.Member.{keep}
use Rattle.model.specs.declared.State.{State}
use Rattle.model.specs.declared.Table.{Table}
use Rattle.model.specs.declared.Ahead.{Ahead}
use Rattle.model.specs.Keys.{bucket_of}
use Rattle.model.specs.Memory.{key_of, size_of, used_of}
use Rattle.model.specs.Answers.{reply}
use Rattle.model.specs.Calls.{retabled, ahead_of}
use Rattle.model.specs.Sequences.{World, Call, Outcome, kept, perform, carry}
use Rattle.refinement.specs.Worlds.{current}
use Rattle.wrong_stores.specs.Walks.{entries_of}
use Rattle.wrong_stores.specs.OneCall.{but_resize, but_step, if_done, answering, replying, handing_back, leaving}

-- cuts the second bucket buffer to the size given
unfoldable pub cuts_buffer : World → Call → Outcome
cuts_buffer = but_resize (λ size w o. if_done (leaving o.first (take size o.second) o.entries o) o)

-- a step that does nothing, and answers 0 moved, and that the rehash goes on
unfoldable pub steps_nowhere : World → Call → Outcome
steps_nowhere = but_step (λ w o. if_done (kept w (reply 0 (0 ∷ 1 ∷ []) w.state) []) o)

-- a made-up count: one more than were moved
unfoldable pub counts_one_more : World → Call → Outcome
counts_one_more =
    but_step (λ w o. if_done (answering ((get_or o.reply.values 0 0 + 1) ∷ get_or o.reply.values 1 0 ∷ []) o) o)

-- the state with another next bucket
unfoldable pub going_on : ℕ → State → State
going_on next s = retabled s s.second_is_current (size_of s) (used_of s) s.rehashing next

-- the step that ends the rehash keeps the next bucket
unfoldable pub keeps_index : World → Call → Outcome
keeps_index =
    but_step
    (λ w o.
    let s = o.reply.state in
    if_done (handing_back (going_on (max w.state.rehash_index s.rehash_index) s) o) o)

-- a step passes as many empty buckets more as ours may, behind where ours stops
unfoldable pub behind_empty : State → Ahead → ℕ
behind_empty s (Ahead.Filled b) = b
behind_empty s (Ahead.Empty b) = b
behind_empty s Ahead.End = s.old_size

unfoldable pub steps_ahead : World → Call → Outcome
steps_ahead =
    but_step
    (λ w o.
    let s = o.reply.state in
    elim s.rehashing [
      | true ↦ if_done (handing_back (going_on (behind_empty s (ahead_of s (current (carry w o)))) s) o) o
      | false ↦ o
    ])

-- After a step's outcome, further steps until the rehash is over, at most so many; the count is that of all.
unfoldable pub more_steps : ℕ → ℕ → World → Outcome → Outcome
more_steps zero moved w o = answering (moved ∷ 1 ∷ []) o
more_steps (suc more) moved w o =
    elim o.reply.state.rehashing [
      | false ↦ answering (moved ∷ 0 ∷ []) o
      | true ↦ let again = perform (carry w o) Call.rehash_step in
          more_steps more (moved + get_or again.reply.values 0 0) (carry w o) again
    ]

-- a step that moves every bucket at once
unfoldable pub moves_all : World → Call → Outcome
moves_all = but_step (λ w o. if_done (more_steps w.state.old_size (get_or o.reply.values 0 0) w o) o)

-- The lying step moves the next filled bucket too, if keys are left then, but says and counts on as if one bucket had moved;
-- the step after it says that it moves the other one, and moves nothing. (So it goes where those two are neighbours.)

-- the memory of the one outcome, with the answer of the other
unfoldable pub saying : Outcome → Outcome → Outcome
saying said done =
    replying
    (reply said.reply.number said.reply.values
    (going_on said.reply.state.rehash_index done.reply.state))
    done

-- how many entries of the new table have a key that called for the next bucket of the old one
unfoldable pub moved_before : World → ℕ
moved_before w =
    let s = w.state in
    length (keep (λ n. eqb (bucket_of (key_of w.entries n) s.old_size) s.rehash_index) (entries_of w Table.New))

unfoldable pub one_more : World → Outcome → Outcome
one_more w o =
    let again = perform (carry w o) Call.rehash_step in
    elim again.reply.state.rehashing [ true ↦ saying o again | false ↦ o ]

unfoldable pub moves_quietly : World → Call → Outcome
moves_quietly =
    but_step
    (λ w o.
    if_done
    (elim (moved_before w) [
      | zero ↦ one_more w o
      | suc n ↦ kept w (reply 0 (suc n ∷ 1 ∷ []) (going_on (suc w.state.rehash_index) w.state)) []
    ])
    o)
