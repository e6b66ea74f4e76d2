-- Wrong stores by the growth that follows an add: none, at another number of keys, to another size, where it is forbidden,
-- behind another call, or not behind a step that ends a rehash; by a table that shrinks; and by the permission.
use Rattle.std.specs.Prelude.{ℕ, ◌*◌, ◌-◌, ◌/◌, Bool, true, false, ◌&&◌, ◌||◌, not, cond, [], leb, ltb, eqb}
use Rattle.model.specs.declared.State.{State}
use Rattle.model.specs.Limits.{largest_exponent, force_ratio}
use Rattle.model.specs.Memory.{keys_held}
use Rattle.model.specs.Answers.{reply}
use Rattle.model.specs.Calls.{noted, paused, power_from, suggested, crowded, growth_due}
use Rattle.model.specs.Sequences.{World, KeyCall, Call, Outcome, kept, perform, carry}
use Rattle.refinement.proofs.HiddenSteps.{before_growth}
use Rattle.wrong_stores.specs.OneCall.{but_init, but_add, but_delete, but_step, but_allow, if_done, replying, handing_back, leaving}

-- a call answered 0, and then a resize to that size, if it comes then and is accepted
unfoldable pub then_resized : (State → Bool) → (State → ℕ) → World → Outcome → Outcome
then_resized comes size w o =
    let v = carry w o in
    let r = perform v (Call.resize (size v.state)) in
    cond (eqb o.reply.number 0 && comes v.state && eqb r.reply.number 0)
    (handing_back r.reply.state (leaving r.first r.second r.entries o))
    o

-- the size for its keys, and whether there are too many of them
unfoldable pub wanted : State → ℕ
wanted s = suggested true (keys_held s)

unfoldable pub full : State → Bool
full s = crowded s.resize_allowed s.old_size (keys_held s)

-- an add, with growth by another rule, or to another size
unfoldable pub growing : (State → Bool) → (State → ℕ) → World → Call → Outcome
growing comes size = but_add (λ key value w o. then_resized comes size w (before_growth w key (KeyCall.add value)))

unfoldable pub never_grows : World → Call → Outcome
never_grows = growing (λ s. false) wanted

-- by the size alone, allowed or not
unfoldable pub grows_forbidden : World → Call → Outcome
grows_forbidden = growing (λ s. leb s.old_size (keys_held s)) wanted

-- only where it is allowed
unfoldable pub never_forced : World → Call → Outcome
never_forced = growing (λ s. s.resize_allowed && leb s.old_size (keys_held s)) wanted

-- one key late where it is allowed; where it is not, one key early, or with so many keys whatever the size
unfoldable pub grows_late : World → Call → Outcome
grows_late =
    growing
    (λ s. (s.resize_allowed && ltb s.old_size (keys_held s)) || ltb (s.old_size * force_ratio) (keys_held s))
    wanted

unfoldable pub forced_early : World → Call → Outcome
forced_early =
    growing
    (λ s. (s.resize_allowed && leb s.old_size (keys_held s)) || leb (s.old_size * force_ratio) (keys_held s))
    wanted

unfoldable pub forced_by_keys : World → Call → Outcome
forced_by_keys =
    growing (λ s. (s.resize_allowed && leb s.old_size (keys_held s)) || ltb force_ratio (keys_held s)) wanted

-- to the size for the keys before the add; to the least power of two that is not below twice the keys, be it 2; to half the
-- size where that fits and the size does not
unfoldable pub grows_for_before : World → Call → Outcome
grows_for_before = growing full (λ s. suggested true (keys_held s - 1))

unfoldable pub grows_to_two : World → Call → Outcome
grows_to_two = growing full (λ s. power_from 0 largest_exponent (keys_held s * 2))

unfoldable pub grows_halfway : World → Call → Outcome
grows_halfway = but_add (λ key value. then_resized full (λ s. wanted s / 2))

-- only where no rehash was under way before the add
unfoldable pub grows_from_rest : World → Call → Outcome
grows_from_rest =
    but_add (λ key value w o. cond w.state.rehashing (before_growth w key (KeyCall.add value)) o)

-- only where no safe iterator has begun
unfoldable pub never_grows_paused : World → Call → Outcome
never_grows_paused =
    but_add (λ key value w o. cond (paused w.state) (before_growth w key (KeyCall.add value)) o)

-- to any other size than the present one, be it smaller
unfoldable pub shrinks : World → Call → Outcome
shrinks = growing (λ s. s.resize_allowed) wanted

-- .. and with a delete
unfoldable pub deletes_shrinking : World → Call → Outcome
deletes_shrinking = but_delete (λ key. then_resized (λ s. s.resize_allowed) (λ s. suggested false (keys_held s)))

-- growth behind a delete
unfoldable pub deletes_growing : World → Call → Outcome
deletes_growing = but_delete (λ key. then_resized full wanted)

-- .. behind a step that ends a rehash, and with the permission itself
unfoldable pub steps_growing : World → Call → Outcome
steps_growing = but_step (then_resized full wanted)

unfoldable pub allows_growing : World → Call → Outcome
allows_growing = but_allow (λ allowed. then_resized full wanted)

-- an add refused, with 6, where the other buffer is too short to grow into
unfoldable pub refuses_cramped : World → Call → Outcome
refuses_cramped =
    but_add
    (λ key value w o.
    let s = o.reply.state in
    let short = not s.rehashing && growth_due s.resize_allowed s.old_size (keys_held s) in
    cond (eqb o.reply.number 0 && short) (kept w (reply 6 [] w.state) []) o)

-- The permission: off at a start; never set; set again when a rehash ends; refused during a rehash; set in a state that is
-- not sound.

unfoldable pub permitted : State → Bool → State
permitted s allowed = noted s allowed s.safe_iterators

unfoldable pub starts_forbidding : World → Call → Outcome
starts_forbidding = but_init (λ capacity size w o. if_done (handing_back (permitted o.reply.state false) o) o)

unfoldable pub keeps_permission : World → Call → Outcome
keeps_permission = but_allow (λ allowed w o. handing_back w.state o)

unfoldable pub allows_again : World → Call → Outcome
allows_again =
    but_step
    (λ w o. let s = o.reply.state in if_done (handing_back (cond s.rehashing s (permitted s true)) o) o)

unfoldable pub refuses_permission : World → Call → Outcome
refuses_permission = but_allow (λ allowed w o. cond w.state.rehashing (replying (reply 7 [] w.state) o) o)

unfoldable pub allows_any_state : World → Call → Outcome
allows_any_state = but_allow (λ allowed w o. replying (reply 0 [] (permitted w.state allowed)) o)
