-- A new store from its parts.
-- Assumes nothing.
use Prim.Native.Nat.{ℕ, ◌*◌}
use mathlib.Core.Path.{◌≡◌, ap}
use mathlib.Core.Bool.{Bool, true, false, ◌&&◌}
use mathlib.Core.List.{List, ◌++◌}
use lib.ListN.{length, drop}
use lib.Dec.{leb}
use Rattle.model.specs.declared.State.{State}
use Rattle.model.specs.declared.Error.{Error}
use Rattle.model.specs.Limits.{legal_capacity, legal_size}
use Rattle.model.specs.Memory.{size_of, used_of}
use Rattle.model.specs.Calls.{After, state_of, old_new, empty_state, noted, cleared, free_entries, no_state, long_enough, init}
use Rattle.std.specs.Prelude.{Ok, Err}

-- the state of zeros, from that of an empty table
pub not_allowed : (s : State) → s ≡ empty_state 0 0 0 → noted s false s.safe_iterators ≡ no_state
unfolding noted empty_state no_state state_of old_new size_of used_of
not_allowed s e = ap (λ (t : State). noted t false t.safe_iterators) e

module _ (first second entries : List ℕ) (capacity size : ℕ) (legal : Bool) (l : legal ≡ legal_size size) where
  pub refused_limits : (t : State) → (legal_capacity capacity && legal) ≡ false → t ≡ no_state
      → After.after (Err (record { error = Error.BadSize; state = t })) first second entries ≡ init first second entries capacity size
  unfolding init
  refused_limits t limits e = rw (e, ← l, limits)

  module _ (limits : (legal_capacity capacity && legal) ≡ true) where
    pub refused_buffers : (t : State) → (leb size (length first) && leb (capacity * 3) (length entries)) ≡ false → t ≡ no_state
        → After.after (Err (record { error = Error.BadState; state = t })) first second entries ≡ init first second entries capacity size
    unfolding init long_enough
    refused_buffers t long e = rw (e, ← l, limits, long)

    pub made_ready : (t : State) (first' entries' : List ℕ)
        → (leb size (length first) && leb (capacity * 3) (length entries)) ≡ true
        → first' ≡ cleared size first → entries' ≡ free_entries 1 capacity ++ drop (capacity * 3) entries
        → t ≡ empty_state size 1 capacity
        → After.after (Ok t) first' second entries' ≡ init first second entries capacity size
    unfolding init long_enough
    made_ready t first' entries' long f n e = rw (f, n, e, ← l, limits, long)
