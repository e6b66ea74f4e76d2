-- Demand 2: on any undamaged store find, change, add and delete answer as the plain map, and an answered walk call hands
-- out exactly the keys of its group, in order, with the published next cursor; and an answered call that iterates exactly
-- those of the first filled bucket from its place on, with the place behind it. It is what demand 3 says of one call, and
-- follows from it for every store (`demand3_answers`, proofs/Demand2), but needs no ideal. That every undamaged store holds a
-- map is `undamaged_holds` (proofs/Contents), that no group of it has a key twice `group_distinct` (proofs/GroupEntries).
use Rattle.std.specs.Prelude.{ℕ, zero, suc, ◌*◌, ◌≡◌, List, [], ◌∷◌, ◌++◌, length, drop}
use Rattle.std.proofs.Math.Option.{Option, none, some}
use Rattle.model.specs.Memory.{keys_held, listed, entries_at}
use Rattle.model.specs.Answers.{Reply, reply}
use Rattle.model.specs.Walk.{Tables, tables_of, group, group_places, chains_at, pairs}
use Rattle.model.specs.Iterators.{bucket_at, end_place, first_place, filled}
use Rattle.model.specs.Sequences.{World, KeyCall, Call, Outcome, kept, carry, PlainMap, map_does}
use Rattle.refinement.specs.Worlds.{current, other, UndamagedAt, Holds}

-- the call answers as the map does, and leaves an undamaged store that holds the map's pairs
pub record AnswersAs (does : World → Call → Outcome) (w : World) (c : Call) (r : Reply PlainMap) : Type 0 where
  pub number : (does w c).reply.number ≡ r.number
  pub values : (does w c).reply.values ≡ r.values
  pub undamaged : UndamagedAt (carry w (does w c))
  pub holds : Holds (carry w (does w c)) r.state

-- the entries of a walk call's group
unfoldable pub group_entries : World → ℕ → List ℕ
group_entries w cursor =
    listed (chains_at w.state (current w) (other w) w.entries (group_places (tables_of w.state) cursor))

-- the published next cursor; with no keys held, 0
unfoldable pub next_cursor : ℕ → ℕ → ℕ
next_cursor zero published = 0
next_cursor (suc keys) published = published

-- the buffers and the state are left; the next cursor or place and the number of some entries are answered, and their pairs
-- are at the front of the lent list
unfoldable pub handing : World → List ℕ → ℕ → List ℕ → Outcome
handing w lent next ns =
    kept w (reply 0 (next ∷ length ns ∷ []) w.state) (pairs w.entries ns ++ drop (length ns * 2) lent)

-- an answered walk call hands out the entries of its group
unfoldable pub HandsOut : (World → Call → Outcome) → World → ℕ → List ℕ → Type 0
HandsOut does w cursor lent =
    does w (Call.scan cursor lent)
    ≡ handing w lent (next_cursor (keys_held w.state) (group (tables_of w.state) cursor).answered) (group_entries w cursor)

-- the first filled bucket from a place on, if there is one; the place behind it, or else the end; its entries, or none

unfoldable pub first_filled : World → ℕ → Option ℕ
first_filled w place = first_place (filled w.state (current w) (other w)) (tables_of w.state) place

unfoldable pub place_behind : Tables → Option ℕ → ℕ
place_behind tables none = end_place tables
place_behind tables (some n) = suc n

unfoldable pub bucket_entries : World → Option ℕ → List ℕ
bucket_entries w none = []
bucket_entries w (some n) = entries_at w.state (current w) (other w) w.entries (bucket_at (tables_of w.state) n)

-- an answered call that iterates hands out these
unfoldable pub IteratesOut : (World → Call → Outcome) → World → ℕ → List ℕ → Type 0
IteratesOut does w place lent =
    does w (Call.iterate place lent)
    ≡ handing w lent (place_behind (tables_of w.state) (first_filled w place)) (bucket_entries w (first_filled w place))

pub record Demand2 (does : World → Call → Outcome) : Type 0 where
  pub as_the_map : (w : World) (m : PlainMap) → UndamagedAt w → Holds w m → (key : ℕ) (c : KeyCall)
      → AnswersAs does w (Call.on key c) (map_does m key c)
  pub hands_out : (w : World) → UndamagedAt w → (cursor : ℕ) (lent : List ℕ)
      → (does w (Call.scan cursor lent)).reply.number ≡ 0 → HandsOut does w cursor lent
  pub iterates_out : (w : World) → UndamagedAt w → (place : ℕ) (lent : List ℕ)
      → (does w (Call.iterate place lent)).reply.number ≡ 0 → IteratesOut does w place lent
