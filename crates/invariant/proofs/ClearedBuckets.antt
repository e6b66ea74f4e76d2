-- A cleared bucket buffer: as long as before, and its first buckets empty.
-- Assumes nothing.
use Prim.Native.Nat.{ℕ, ◌<◌, ◌≤◌}
use mathlib.Core.Path.{◌≡◌, ◌∙◌}
use mathlib.Core.List.{List}
use native.Mathlib.Omega.{arith}
use lib.ListN.{length, get_or, drop, replicate, length-append, length-drop, length-replicate, get_or-replicate, get_or-append}
use Rattle.model.specs.Calls.{cleared}

-- clearing keeps the length
pub length_cleared : (size : ℕ) (buckets : List ℕ) → size ≤ length buckets → length (cleared size buckets) ≡ length buckets
unfolding cleared
length_cleared size buckets h =
    omega (
      arith,
      length-append (replicate size 0) (drop size buckets),
      length-replicate {A = ℕ} size 0,
      length-drop size buckets,
    )

-- a cleared bucket is empty
pub cleared_empty : (size b : ℕ) (buckets : List ℕ) → b < size → get_or (cleared size buckets) b 0 ≡ 0
unfolding cleared
cleared_empty size b buckets h =
    get_or-append (replicate size 0) (drop size buckets) 0 b (omega (arith, length-replicate {A = ℕ} size 0))
    ∙ get_or-replicate size b 0 0 h
