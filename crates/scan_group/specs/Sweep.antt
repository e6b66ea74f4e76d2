-- The larger table's buckets of a group, as far as they are left.
use Rattle.std.specs.Prelude.{ℕ, List, [], Option, None, Some}
use Rattle.cursor.specs.Group.{two_tables}

-- from a cursor on, or none behind the last
unfoldable pub buckets_left : ℕ → ℕ → Option ℕ → List ℕ
buckets_left small large None = []
buckets_left small large (Some at) = (two_tables small large at).large
