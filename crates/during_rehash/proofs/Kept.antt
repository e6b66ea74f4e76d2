-- What an add keeps: a smaller number of entries is readable too, and the counts of the state that a step leaves are in range.
-- Assumes nothing.
use Prim.Native.Nat.{ℕ, ◌≤◌}
use mathlib.Core.Path.{◌≡◌, sym, subst}
use mathlib.Core.Bool.{Bool, true, false, cond}
use native.Mathlib.Omega.{arith}
use lib.Dec.{eqb}
use Rattle.model.specs.declared.State.{State}
use Rattle.model.specs.Calls.{state_of, old_new, retabled, advanced, finished, settled}
use Rattle.model.proofs.Soundness.{Counted}
use Rattle.search.specs.Tables.{Readable}

-- The first free entry.

pub entry_readable : (size buckets capacity entries n : ℕ) → Readable size buckets capacity entries → n ≤ capacity
    → Readable size buckets n entries
entry_readable size buckets capacity entries n h l =
    record { size_legal = h.size_legal; buckets_fit = h.buckets_fit; entries_fit = omega arith }

-- the state's counts then

pub counts_then : (s : State) (count next : ℕ) (t : State) → Counted s → count ≤ s.old_used
    → t ≡ settled (advanced s count next) → Counted t
unfolding settled finished advanced retabled state_of old_new
counts_then s count next t h l e = subst Counted (sym e) (by (eqb (advanced s count next).old_used 0))
  where
    by : (b : Bool) → Counted (cond b (finished (advanced s count next)) (advanced s count next))
    by true = record { held_fit = omega (arith, h.held_fit); capacity_limit = h.capacity_limit }
    by false = record { held_fit = omega (arith, h.held_fit); capacity_limit = h.capacity_limit }
