-- SPECIFICATION, "The walk": what one walk call answers and hands out. The next cursor and the group are those of cursor.
use Rattle.std.specs.Prelude.{ℕ, ◌*◌, min, Bool, true, false, cond, List, [], ◌∷◌, ◌++◌, map, length, drop, leb, ltb, eqb, Result, Ok, Err}
use Rattle.std.proofs.Math.Option.{Option, none, some}
use Rattle.cursor.specs.Group.{Group, one_table, two_tables}
use Rattle.model.specs.declared.State.{State}
use Rattle.model.specs.declared.Table.{Table}
use Rattle.model.specs.declared.Error.{Error}
use Rattle.model.specs.Memory.{key_of, value_of, keys_held, Place, chain_at}
use Rattle.model.specs.Calls.{reading}
use Rattle.model.specs.declared.ScanError.{ScanError}

-- The live tables, by their sizes.

pub data Tables : Type 0 where
  one : (size : ℕ) → Tables
  two : (old new : ℕ) → Tables

unfoldable pub tables_by : Bool → ℕ → ℕ → Tables
tables_by false old new = Tables.one old
tables_by true old new = Tables.two old new

unfoldable pub tables_of : State → Tables
tables_of s = tables_by s.rehashing s.old_size s.new_size

-- the size of the smaller one; one live table counts as the smaller
unfoldable pub smaller_of : Tables → ℕ
smaller_of (Tables.one size) = size
smaller_of (Tables.two old new) = min old new

-- The group of a cursor, and its buckets: the smaller table's, then those of the larger.

unfoldable pub group : Tables → ℕ → Group
group (Tables.one size) cursor = one_table size cursor
group (Tables.two old new) cursor = cond (ltb old new) (two_tables old new cursor) (two_tables new old cursor)

unfoldable pub small_first : Table → Table → Group → List Place
small_first small large g = Place.bucket small g.small ∷ map (λ b. Place.bucket large b) g.large

unfoldable pub group_places : Tables → ℕ → List Place
group_places (Tables.one size) cursor = small_first Table.Old Table.New (one_table size cursor)
group_places (Tables.two old new) cursor =
    cond (ltb old new)
    (small_first Table.Old Table.New (two_tables old new cursor))
    (small_first Table.New Table.Old (two_tables new old cursor))

-- one chain after another: none where either is not sound
unfoldable pub joined : Option (List ℕ) → Option (List ℕ) → Option (List ℕ)
joined none more = none
joined (some ns) none = none
joined (some ns) (some ms) = some (ns ++ ms)

-- the entries of some places
unfoldable pub chains_at : State → List ℕ → List ℕ → List ℕ → List Place → Option (List ℕ)
chains_at s current other entries [] = some []
chains_at s current other entries (p ∷ ps) =
    joined (chain_at s current other entries p) (chains_at s current other entries ps)

-- so many entries at most: none where there are more
unfoldable pub at_most : ℕ → Option (List ℕ) → Option (List ℕ)
at_most most none = none
at_most most (some ns) = cond (leb (length ns) most) (some ns) none

-- What a walk call answers, and the lent list after it. The three buffers stay.
pub data AfterScan : Type 0 where
  after : Result (ℕ × ℕ) ScanError → List ℕ → AfterScan

-- keys and values as pairs
unfoldable pub pairs : List ℕ → List ℕ → List ℕ
pairs entries [] = []
pairs entries (n ∷ ns) = key_of entries n ∷ value_of entries n ∷ pairs entries ns

-- the pairs at the front of the lent list, if it has two numbers for each
unfoldable pub scanned : List ℕ → List ℕ → ℕ → Option (List ℕ) → AfterScan
scanned entries lent next none = AfterScan.after (Err (ScanError.Refused Error.Damaged)) lent
scanned entries lent next (some ns) =
    cond (leb (length ns * 2) (length lent))
    (AfterScan.after (Ok (next, (length ns))) (pairs entries ns ++ drop (length ns * 2) lent))
    (AfterScan.after (Err (ScanError.Short (length ns))) lent)

-- with no keys held no chain is read; those of a group together may have as many entries as keys are held
unfoldable pub scan : State → List ℕ → List ℕ → List ℕ → List ℕ → ℕ → AfterScan
scan s first second entries lent cursor =
    reading s first second entries (AfterScan.after (Err (ScanError.Refused Error.BadState)) lent)
    (λ current other.
    cond (eqb (keys_held s) 0)
    (AfterScan.after (Ok (0, 0)) lent)
    (scanned entries lent (group (tables_of s) cursor).answered
    (at_most (keys_held s) (chains_at s current other entries (group_places (tables_of s) cursor)))))
