-- Wrong stores by the rules of a step: how many empty buckets it passes, and when the rehash ends.
use Rattle.std.specs.Prelude.{ℕ, zero, suc, ◌+◌, ◌-◌, true, false, cond, not, List, [], ◌∷◌, get_or, eqb, ltb}
use Rattle.model.specs.declared.State.{State}
use Rattle.model.specs.declared.Ahead.{Ahead}
use Rattle.model.specs.Limits.{empty_visits}
use Rattle.model.specs.Answers.{reply, step_reply}
use Rattle.model.specs.Calls.{old_new, state_of, back, ahead, advanced, finished, moved_from, ahead_of}
use Rattle.model.specs.Sequences.{World, Call, Outcome, kept, left}
use Rattle.refinement.specs.Worlds.{current, other}
use Rattle.wrong_stores.specs.OneCall.{but_step, if_done, if_damaged, answering, handing_back}

-- A step that goes by what another look ahead says, where ours is answered and the old table holds keys.
unfoldable pub looking : (State → List ℕ → Ahead) → World → Call → Outcome
looking look =
    but_step
    (λ w o.
    let s = w.state in
    if_done
    (cond (eqb s.old_used 0) o
    (left (step_reply s)
    (back s.second_is_current (moved_from s (current w) (other w) w.entries (look s (current w))))))
    o)

-- it passes at most so many empty buckets
unfoldable pub passing : ℕ → World → Call → Outcome
passing visits =
    looking (λ s buckets. ahead buckets s.rehash_index (s.old_size - s.rehash_index) visits)

unfoldable pub passes_eleven : World → Call → Outcome
passes_eleven = passing 11

unfoldable pub passes_nine : World → Call → Outcome
passes_nine = passing 9

unfoldable pub passes_one : World → Call → Outcome
passes_one = passing 1

-- it passes as many buckets as ours may, filled or not, if there is one behind them
unfoldable pub passes_filled : World → Call → Outcome
passes_filled =
    looking
    (λ s buckets.
    let next = s.rehash_index + empty_visits in cond (ltb next s.old_size) (Ahead.Empty next) (ahead_of s buckets))

-- where the table's end comes first, it passes the empty buckets before it, if they are as many as ours may pass
unfoldable pub passes_to_end : World → Call → Outcome
passes_to_end =
    but_step
    (λ w o.
    let s = w.state in
    let next = s.rehash_index + empty_visits in
    elim (ahead_of s (current w)) [
      | Ahead.Filled b ↦ o
      | Ahead.Empty b ↦ o
      | Ahead.End ↦
          cond (eqb next s.old_size)
          (if_damaged
          (left (step_reply s) (back s.second_is_current (moved_from s (current w) (other w) w.entries (Ahead.Empty next))))
          o)
          o
    ])

-- A step that ends the rehash at another time.

-- where ours has ended it, it goes on, with every bucket passed
unfoldable pub goes_on : World → Outcome → Outcome
goes_on w o =
    let s = w.state in
    let count = get_or o.reply.values 0 0 in
    elim o.reply.state.rehashing [
      | true ↦ o
      | false ↦ answering (count ∷ 1 ∷ []) (handing_back (advanced s count s.old_size) o)
    ]

-- the step that moves the last keys goes on, and the next one ends the rehash
unfoldable pub ends_late : World → Call → Outcome
ends_late = but_step (λ w o. if_done (elim (get_or o.reply.values 0 0) [ zero ↦ o | suc n ↦ goes_on w o ]) o)

-- no step ends it
unfoldable pub never_done : World → Call → Outcome
never_done = but_step (λ w o. if_done (goes_on w o) o)

-- every step ends it, with keys left in the old table or not
unfoldable pub ends_at_once : World → Call → Outcome
ends_at_once =
    but_step
    (λ w o.
    elim o.reply.state.rehashing [
      | true ↦ if_done (answering (get_or o.reply.values 0 0 ∷ 0 ∷ []) (handing_back (finished o.reply.state) o)) o
      | false ↦ o
    ])

-- Every call is answered 0, leaves a rehash from one bucket to two, and turns the flag. To go by the state alone, no rehash ever
-- ends, and none is the one that was before the call.
unfoldable pub turning : World → Call → Outcome
turning w c =
    kept w (reply 0 (0 ∷ 1 ∷ []) (state_of (not w.state.second_is_current) (old_new 1 2) (old_new 0 0) true 0 0 1 true 0)) []
