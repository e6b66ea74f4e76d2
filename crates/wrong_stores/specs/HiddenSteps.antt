-- Wrong stores by the step that add and delete take first: none, another one, one that stays though the call was refused, or
-- one inside another call.
use Rattle.std.specs.Prelude.{ℕ, suc, cond, eqb}
use Rattle.model.specs.Sequences.{World, world, KeyCall, Call, Outcome, perform, carry}
use Rattle.refinement.proofs.HiddenSteps.{alone}
use Rattle.wrong_stores.specs.OneCall.{Change, but_find, but_update, but_add, but_delete, but_scan, but_iterate, if_done, if_damaged, handing_back, leaving}
use Rattle.wrong_stores.specs.Rehashes.{going_on}

-- an add, or a delete, that takes no step
unfoldable pub adds_unmoved : World → Call → Outcome
adds_unmoved = but_add (λ key value w o. alone w key (KeyCall.add value))

unfoldable pub deletes_unmoved : World → Call → Outcome
deletes_unmoved = but_delete (λ key w o. alone w key KeyCall.delete)

-- an add that takes two
unfoldable pub adds_after_two : World → Call → Outcome
adds_after_two =
    but_add
    (λ key value w o.
    if_done (perform (carry w (perform w Call.rehash_step)) (Call.on key (KeyCall.add value))) o)

-- an add whose step passes one bucket only, be it filled
unfoldable pub adds_passing_one : World → Call → Outcome
adds_passing_one =
    but_add
    (λ key value w o.
    let s = w.state in
    cond s.rehashing
    (alone (world (going_on (suc s.rehash_index) s) w.first w.second w.entries) key (KeyCall.add value))
    o)

-- a call alone, and then the step
unfoldable pub then_steps : (World → Outcome) → Change
then_steps call w o =
    let step = perform (carry w (call w)) Call.rehash_step in
    cond w.state.rehashing (if_done (handing_back step.reply.state (leaving step.first step.second step.entries o)) o) o

unfoldable pub adds_then_steps : World → Call → Outcome
adds_then_steps = but_add (λ key value. then_steps (λ w. alone w key (KeyCall.add value)))

unfoldable pub deletes_then_steps : World → Call → Outcome
deletes_then_steps = but_delete (λ key. then_steps (λ w. alone w key KeyCall.delete))

-- The buffers as a step leaves them, with what the call answers.

unfoldable pub stepped : Change
stepped w o = let step = perform w Call.rehash_step in leaving step.first step.second step.entries o

-- they stay so, though an add, or a delete, was refused with that number
unfoldable pub add_step_stays : ℕ → World → Call → Outcome
add_step_stays number = but_add (λ key value w o. cond (eqb o.reply.number number) (stepped w o) o)

unfoldable pub delete_step_stays : ℕ → World → Call → Outcome
delete_step_stays number = but_delete (λ key w o. cond (eqb o.reply.number number) (stepped w o) o)

-- .. and with the state after it: a find, a change, a walk call, or one that iterates, that takes a step
unfoldable pub also_steps : Change
also_steps w o =
    cond w.state.rehashing (handing_back (perform w Call.rehash_step).reply.state (stepped w o)) o

unfoldable pub finds_stepping : World → Call → Outcome
finds_stepping = but_find (λ key w o. if_done (also_steps w o) o)

unfoldable pub updates_stepping : World → Call → Outcome
updates_stepping = but_update (λ key value w o. if_done (also_steps w o) o)

unfoldable pub walks_stepping : World → Call → Outcome
walks_stepping = but_scan (λ cursor lent w o. if_done (also_steps w o) o)

unfoldable pub iterates_stepping : World → Call → Outcome
iterates_stepping = but_iterate (λ place lent w o. if_done (also_steps w o) o)

-- an add that is damaged only where its chains are so before the step
unfoldable pub looks_before : World → Call → Outcome
looks_before = but_add (λ key value w o. if_damaged (alone w key (KeyCall.add value)) o)
