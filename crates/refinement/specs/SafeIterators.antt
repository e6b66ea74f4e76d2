-- What a safe iterator hands out: for any meaning of the calls, of every careful pass of every sequence (SPECIFICATION, "What
-- a careful pass promises"). Which bucket each of its calls hands out, and which place it answers, is said by demand 3.
use Rattle.std.specs.Prelude.{ℕ, ◌+◌, ◌≤◌, ◌<◌, ◌≡◌, Bool, true, false, ◌&&◌, not, cond, List, [], ◌∷◌, ◌++◌, get_or}
use Rattle.model.specs.Walk.{smaller_of}
use Rattle.model.specs.Iterators.{end_place}
use Rattle.model.specs.Sequences.{World, Call, Outcome, Event, events, keys_of}
use Rattle.refinement.specs.Worlds.{UndamagedAt}
use Rattle.refinement.specs.Demand3.{Lengths, Ideal, Matches, among, predict, Visit, visit, HeldAtEach}
use Rattle.refinement.specs.ExactlyOnce.{times}

-- at a call that is none of the pass's the same is seen, but that it hands out nothing to the pass
unfoldable pub onlooker : ℕ → Ideal → Visit
onlooker place i =
    record { cursor = place; size = smaller_of i.tables; held = keys_of i.plain.pairs; handed = [] }

-- A pass from a place on is some of the calls that iterate: the first is given that place, each further one the place that its
-- last answered call answered. It has come to its end with a call that answers the end place. It has a moment
-- before each call of the sequence, up to its last one if it has come to its end, else up to any call; and at each the number
-- of safe iterators is above zero.
pub data Pass (l : Lengths) : ℕ → Ideal → List Event → List Visit → Bool → Type 0 where
  over : {due : ℕ} {i : Ideal} {es : List Event} → Pass l due i es [] false
  other : {due : ℕ} {i : Ideal} {e : Event} {es : List Event} {moments : List Visit} {ended : Bool}
      → 0 < i.iterators → Pass l due (predict l i e.call).state es moments ended
      → Pass l due i (e ∷ es) (onlooker due i ∷ moments) ended
  onward : {due : ℕ} {i : Ideal} {e : Event} {es : List Event} {moments : List Visit} {ended : Bool} (lent : List ℕ)
      → 0 < i.iterators → e.call ≡ Call.iterate due lent → e.number ≡ 0
      → Pass l (get_or e.values 0 0) (predict l i e.call).state es moments ended
      → Pass l due i (e ∷ es) (visit due i e ∷ moments) ended
  last : {due : ℕ} {i : Ideal} {e : Event} {es : List Event} (lent : List ℕ)
      → 0 < i.iterators → e.call ≡ Call.iterate due lent → e.number ≡ 0 → get_or e.values 0 0 ≡ end_place i.tables
      → Pass l due i (e ∷ es) (visit due i e ∷ []) true

-- how often the key comes to be held: at the first moment, or where it was not at the moment before
unfoldable pub stays : ℕ → Bool → List Visit → ℕ
stays key before [] = 0
stays key before (v ∷ vs) = cond (among key v.held && not before) 1 0 + stays key (among key v.held) vs

pub record PassHolds (moments : List Visit) (ended : Bool) : Type 0 where
  -- by the end each key held at each moment has been handed out exactly once
  pub exactly_once : ended ≡ true → (key : ℕ) → HeldAtEach key moments → times key moments ≡ 1
  -- from any moment on any key is handed out at most once for each time that it is held or comes to be held: not twice,
  -- unless it was deleted and added again in between
  pub no_doubles : (before rest : List Visit) → moments ≡ before ++ rest → (key : ℕ) → times key rest ≤ stays key false rest

-- Of every pass from place 0 on, in any calls from any undamaged store on. (`Pass` itself asks for a safe iterator at each
-- moment.)
pub record SafeIterators (does : World → Call → Outcome) : Type 0 where
  pub passes : (l : Lengths) (w : World) (i : Ideal) → UndamagedAt w → Matches l w i → (calls : List Call)
      → (moments : List Visit) (ended : Bool) → Pass l 0 i (events does w calls) moments ended → PassHolds moments ended
