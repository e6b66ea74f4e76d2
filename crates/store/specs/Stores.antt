-- A store as its methods take it, and what each answers and leaves, by the plain call.
use Rattle.std.specs.Prelude.{ℕ, ◌≡◌, List, Result, Ok, Err}
use Rattle.model.specs.declared.State.{State}
use Rattle.model.specs.declared.Error.{Error}
use Rattle.model.specs.declared.Unstarted.{Unstarted}
use Rattle.model.specs.Calls.{After}
use Rattle.model.specs.Sequences.{World, world}
use Rattle.store.specs.declared.Store.{Store}

-- the state and the lent buffers
abbrev pub world_of : Store → World
world_of s = world s.state s.first.now s.second.now s.entries.now

-- the memory that was lent stays so: each buffer is the same one
abbrev pub SameBuffers : Store → Store → Type 0
SameBuffers before after =
    (after.first.ghost_name ≡ before.first.ghost_name) × (after.second.ghost_name ≡ before.second.ghost_name)
    × (after.entries.ghost_name ≡ before.entries.ghost_name)

-- a plain call, given them
abbrev pub on : {A : Type 0} → Store → (State → List ℕ → List ℕ → List ℕ → A) → A
on s call = call s.state s.first.now s.second.now s.entries.now

-- a call that answers no state leaves that of the store
unfoldable pub left : {A : Type 0} → State → After A → A × World
left s (After.after answer first second entries) = (answer, world s first second entries)

-- one that answers a state leaves that, and one that refuses the store's
unfoldable pub kept : State → After (Result State Error) → Result (Unit {0}) Error × World
kept s (After.after (Ok t) first second entries) = (Ok tt, world t first second entries)
kept s (After.after (Err e) first second entries) = (Err e, world s first second entries)

unfoldable pub stepped : State → After (Result (ℕ × State) Error) → Result ℕ Error × World
stepped s (After.after (Ok (moved, t)) first second entries) = (Ok moved, world t first second entries)
stepped s (After.after (Err e) first second entries) = (Err e, world s first second entries)

unfoldable pub started : State → After (Result State Unstarted) → Result (Unit {0}) Error × World
started s (After.after (Ok t) first second entries) = (Ok tt, world t first second entries)
started s (After.after (Err refused) first second entries) = (Err refused.error, world s first second entries)

-- one that only sets a field of the state
abbrev pub noted : Store → Result State Error → Result (Unit {0}) Error × World
noted s answer = kept s.state (After.after answer s.first.now s.second.now s.entries.now)
