-- What an iterator looks for in a table.
use Rattle.std.specs.Prelude.{ℕ, Bool, not, List, get_or, eqb}
use Rattle.std.proofs.Math.Option.{Option}
use Rattle.model.specs.Walk.{Tables}
use Rattle.model.specs.Iterators.{first_place}

-- whether bucket b has an entry
unfoldable pub filled_in : List ℕ → ℕ → Bool
filled_in buckets b = not (eqb (get_or buckets b 0) 0)

-- the first filled bucket of a table of that size, from one on
unfoldable pub first_filled : List ℕ → ℕ → ℕ → Option ℕ
first_filled buckets from size = first_place (filled_in buckets) (Tables.one size) from
