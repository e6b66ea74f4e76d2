-- How soon a rehash ends: for any meaning of the calls, of every rehash of every sequence, from any moment of it on
-- (SPECIFICATION, "How soon a move ends"). That a step is answered, which keys it moves and that none is lost is said by
-- demands 1 and 3.
use Rattle.std.specs.Prelude.{ℕ, suc, ◌+◌, ◌-◌, ◌/◌, ◌<◌, max, ◌≡◌, ◌⊎◌, Bool, true, false, ◌&&◌, cond, List, [], ◌∷◌, ◌++◌, eqb}
use Rattle.model.specs.declared.Table.{Table}
use Rattle.model.specs.Limits.{empty_visits}
use Rattle.model.specs.Memory.{Place, sum}
use Rattle.model.specs.Walk.{Tables}
use Rattle.model.specs.Sequences.{World, Call, Outcome, carry, run}
use Rattle.refinement.specs.Worlds.{UndamagedAt, takes_step}
use Rattle.refinement.specs.Demand1.{head_of, EmptyFrom, FirstFilled}
use Rattle.refinement.specs.Demand3.{Lengths, Ideal, predict, replay, Matches}

-- The ideal tells a rehash: it has two tables while one is under way. With its end the other buffer becomes the current one,
-- which tells it from the next rehash, even if that begins with the same call. Where it is over for the ideal, and the state
-- still says that one is under way, it counts as under way, and its steps go on counting.
unfoldable pub OngoingBy : Tables → (turned : Bool) → World → Ideal → Type 0
OngoingBy (Tables.two old new) turned w i = i.turned ≡ turned
OngoingBy (Tables.one size) turned w i = w.state.rehashing ≡ true

unfoldable pub Ongoing : (turned : Bool) → World → Ideal → Type 0
Ongoing turned w i = OngoingBy i.tables turned w i

-- it is under way, and still so after each of some calls: none has ended it, and none has started the store anew
unfoldable pub UnderWay : (World → Call → Outcome) → Lengths → (turned : Bool) → World → Ideal → List Call → Type 0
UnderWay does l turned w i [] = Ongoing turned w i
UnderWay does l turned w i (c ∷ cs) =
    Ongoing turned w i × UnderWay does l turned (carry w (does w c)) (predict l i c).state cs

-- Its answered steps, while it is under way: the calls answered 0 that have to take a step, whether the store takes it or not.
-- These are step calls and, while there is no safe iterator, adds and deletes.

unfoldable pub steps_in : (iterators : ℕ) → Call → Bool
steps_in iterators Call.rehash_step = true
steps_in iterators (Call.on key c) = takes_step c && eqb iterators 0
steps_in iterators (Call.init capacity size) = false
steps_in iterators (Call.resize size) = false
steps_in iterators (Call.scan cursor lent) = false
steps_in iterators (Call.iterate place lent) = false
steps_in iterators (Call.read c) = false
steps_in iterators (Call.note c) = false

unfoldable pub answered_step : Ideal → Call → (number : ℕ) → Bool
answered_step i c number = steps_in i.iterators c && eqb number 0

unfoldable pub answered_steps : (World → Call → Outcome) → Lengths → World → Ideal → List Call → ℕ
answered_steps does l w i [] = 0
answered_steps does l w i (c ∷ cs) =
    cond (answered_step i c (does w c).reply.number) 1 0
    + answered_steps does l (carry w (does w c)) (predict l i c).state cs

-- how many buckets of the old table are filled
unfoldable pub filled_buckets : World → ℕ
filled_buckets w = sum (λ b. cond (eqb (head_of w (Place.bucket Table.Old b)) 0) 0 1) w.state.old_size

-- one step for each filled bucket of a table, and one for every so many of the others as a step passes; but one at least
unfoldable pub most_steps : ℕ → ℕ → ℕ
most_steps size filled = max 1 (filled + (size - filled) / empty_visits)

-- From w to v: the next bucket is behind as many empty ones as a step passes; or behind the first filled one, which was
-- filled at the first moment too.
unfoldable pub Advances : World → World → World → Type 0
Advances first w v =
    (EmptyFrom w (w.state.rehash_index + empty_visits)
    × (v.state.rehash_index ≡ w.state.rehash_index + empty_visits))
    ⊎ ((b : ℕ)
    × FirstFilled w b
    × (¬ (head_of first (Place.bucket Table.Old b) ≡ 0))
    × (v.state.rehash_index ≡ suc b))

-- Counted from any moment of a rehash (its beginning is one), over some calls.
pub record RehashEnds (does : World → Call → Outcome) (l : Lengths) (w : World) (i : Ideal) (calls : List Call) : Type 0 where
  -- while it is under way, fewer steps were answered than the old table has buckets: the last of so many ends it, if none
  -- before does
  pub within_size : UnderWay does l i.turned w i calls → answered_steps does l w i calls < w.state.old_size
  -- .. and fewer than the most steps, by the buckets that are filled at that moment
  pub within_filled : UnderWay does l i.turned w i calls
      → answered_steps does l w i calls < most_steps w.state.old_size (filled_buckets w)
  -- each answered step advances so: no bucket of the old table is filled anew
  pub each_step : (c : Call) → UnderWay does l i.turned w i (calls ++ c ∷ [])
      → answered_step (replay l i calls) c (does (run does w calls) c).reply.number ≡ true
      → Advances w (run does w calls) (run does w (calls ++ c ∷ []))

-- Any undamaged store with two tables is such a moment; of one with one table nothing is said.
pub record RehashesEnd (does : World → Call → Outcome) : Type 0 where
  pub rehashes : (l : Lengths) (w : World) (i : Ideal) → UndamagedAt w → Matches l w i → (calls : List Call)
      → RehashEnds does l w i calls
