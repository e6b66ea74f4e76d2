-- The buckets that one walk call hands out, and the cursor that it answers (SPECIFICATION, "The walk": group).
use Rattle.std.specs.Prelude.{ℕ, zero, suc, ◌/◌, ◌%◌, Bool, true, false, List, [], ◌∷◌, nat_lt}
use Rattle.cursor.specs.Next.{next}

-- the smaller table's bucket, the larger one's buckets in order, and the cursor answered
pub record Group : Type 0 where
  pub small : ℕ
  pub large : List ℕ
  pub answered : ℕ

-- one live table: it counts as the smaller
unfoldable pub one_table : ℕ → ℕ → Group
one_table size cursor = record { small = cursor % size; large = []; answered = next size cursor }

-- buckets of the larger table, and the cursor behind them
pub record Sweep : Type 0 where
  pub buckets : List ℕ
  pub cursor : ℕ

-- whether the cursor's bits between the two sizes are all zero
unfoldable pub between_zero : ℕ → ℕ → ℕ → Bool
between_zero small large cursor = nat_lt (cursor % large) small

-- The larger table's bucket of the cursor, then the same for each next cursor of the larger size, until the cursor's
-- bits between the two sizes are all zero. The first number bounds the buckets.
unfoldable pub sweep : ℕ → ℕ → ℕ → ℕ → Sweep
sweep zero small large cursor = record { buckets = []; cursor = cursor }
sweep (suc n) small large cursor =
    elim (between_zero small large (next large cursor)) [
      | true ↦ record { buckets = cursor % large ∷ []; cursor = next large cursor }
      | false ↦ let rest = sweep n small large (next large cursor) in
          record { buckets = cursor % large ∷ rest.buckets; cursor = rest.cursor }
    ]

-- two live tables, of a smaller and a larger size: no call meets more than large / small of the larger one's buckets
unfoldable pub two_tables : ℕ → ℕ → ℕ → Group
two_tables small large cursor =
    let swept = sweep (large / small) small large cursor in
    record { small = cursor % small; large = swept.buckets; answered = swept.cursor }
