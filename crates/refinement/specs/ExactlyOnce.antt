-- How often a walk hands out a key, and which of the keys that come meanwhile it must hand out: for any meaning of the
-- calls, of every walk of every sequence (SPECIFICATION, "How often a walk hands out a key").
use Rattle.std.specs.Prelude.{ℕ, ◌+◌, ◌*◌, ◌^◌, ◌≤◌, min, ◌≡◌, Bool, true, cond, List, [], ◌∷◌, ◌++◌, length, ltb, eqb}
use Rattle.cursor.specs.Member.{In, Distinct, keep}
use Rattle.cursor.specs.Reverse.{rev}
use Rattle.model.specs.Sequences.{World, Call, Outcome, events}
use Rattle.refinement.specs.Worlds.{UndamagedAt}
use Rattle.refinement.specs.Demand3.{Lengths, Ideal, Matches, Visit, Walk, largest, HeldAtEach, keys_handed}

-- how often the key is handed out, within a call and across calls
unfoldable pub times : ℕ → List Visit → ℕ
times key visits = length (keep (λ k. eqb k key) (keys_handed visits))

-- at each visit the smaller live table is at least as large as at the visit before
unfoldable pub NotShrinking : List Visit → Type 0
NotShrinking [] = Unit {0}
NotShrinking (v ∷ []) = Unit {0}
NotShrinking (v ∷ w ∷ vs) = (v.size ≤ w.size) × NotShrinking (w ∷ vs)

-- at how many visits it is smaller than at the visit before
unfoldable pub shrinks : List Visit → ℕ
shrinks [] = 0
shrinks (v ∷ []) = 0
shrinks (v ∷ w ∷ vs) = cond (ltb w.size v.size) 1 0 + shrinks (w ∷ vs)

-- the least size that it had at any visit
unfoldable pub least : List Visit → ℕ
least [] = 0
least (v ∷ []) = v.size
least (v ∷ w ∷ vs) = min v.size (least (w ∷ vs))

pub record HandOuts (visits : List Visit) (ended : Bool) : Type 0 where
  -- while the smaller live table does not shrink from visit to visit, no key at all is handed out twice, ..
  pub at_most_once : NotShrinking visits → Distinct (keys_handed visits)
  -- .. and by the end each key held at each visit exactly once
  pub exactly_once : NotShrinking visits → ended ≡ true → (key : ℕ) → HeldAtEach key visits → times key visits ≡ 1
  -- in any walk a key is handed out at most once more than the number of visits that shrink; ..
  pub doubles : (key : ℕ) → times key visits ≤ 1 + shrinks visits
  -- .. and at most once more than the halvings that lead from the largest size to the least, or below
  pub halvings : (n : ℕ) → largest visits ≤ 2 ^ n * least visits → (key : ℕ) → times key visits ≤ 1 + n
  -- a key held from one of the visits on to the end, whose reversal is not before that of the cursor given then, is handed
  -- out from that visit on
  pub later : ended ≡ true → (before : List Visit) (v : Visit) (after : List Visit) → visits ≡ before ++ v ∷ after
      → (key : ℕ) → HeldAtEach key (v ∷ after) → rev v.cursor ≤ rev key → In key (keys_handed (v ∷ after))

-- from any undamaged store on, whatever the calls
pub record ExactlyOnce (does : World → Call → Outcome) : Type 0 where
  pub walks : (l : Lengths) (w : World) (i : Ideal) → UndamagedAt w → Matches l w i → (calls : List Call)
      → (visits : List Visit) (ended : Bool) → Walk l 0 i (events does w calls) visits ended → HandOuts visits ended
