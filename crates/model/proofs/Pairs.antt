-- The pairs of a walk call: two numbers for each entry.
-- Assumes nothing.
use Prim.Native.Nat.{ℕ, ◌*◌}
use mathlib.Core.Path.{◌≡◌, refl}
use mathlib.Core.List.{List, [], ◌∷◌}
use native.Mathlib.Omega.{arith}
use lib.ListN.{length}
use Rattle.model.specs.Walk.{pairs}

pub length_pairs : (entries ns : List ℕ) → length (pairs entries ns) ≡ length ns * 2
unfolding pairs
length_pairs entries [] = refl
length_pairs entries (n ∷ ns) = omega (arith, length_pairs entries ns)
