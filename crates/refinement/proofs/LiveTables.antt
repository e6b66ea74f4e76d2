-- The sizes of the live tables. It gives `Legal`, which the tables of a sound state are (`tables_legal`).
-- Assumes nothing.
use Prim.Native.Nat.{ℕ, ◌<◌}
use mathlib.Core.Path.{◌≡◌, refl, sym}
use mathlib.Core.Bool.{Bool, true, false}
use mathlib.Core.List.{List}
use Rattle.cursor.specs.Member.{In, Distinct}
use Rattle.model.specs.declared.State.{State}
use Rattle.model.specs.declared.Table.{Table}
use Rattle.model.specs.Limits.{legal_size}
use Rattle.model.specs.Memory.{Place, size_of}
use Rattle.model.specs.Calls.{old_new}
use Rattle.model.specs.Walk.{Tables, tables_by, tables_of}
use Rattle.model.proofs.Soundness.{Sound}
use Rattle.refinement.specs.Demand3.{live_sizes}

-- legal sizes, which differ
unfoldable pub Legal : Tables → Type 0
Legal (Tables.one size) = legal_size size ≡ true
Legal (Tables.two old new) = (legal_size old ≡ true) × (legal_size new ≡ true) × (old ≡ new → ⊥)

-- places that are buckets of tables of such sizes, none twice
pub record Buckets (size : Table → ℕ) (ps : List Place) : Type 0 where
  pub each : (p : Place) → In p ps → (t : Table) × (b : ℕ) × (p ≡ Place.bucket t b) × (b < size t)
  pub once : Distinct ps

-- Of a sound state.
module _ (s : State) (current other entries : ℕ) (h : Sound s current other entries) where
  pub tables_legal : Legal (tables_of s)
  unfolding tables_of tables_by Legal
  tables_legal = by s.rehashing refl
    where
      by : (f : Bool) → s.rehashing ≡ f → Legal (tables_by f s.old_size s.new_size)
      by false e = h.old_legal
      by true e = (h.old_legal, (h.rehashing e).new_legal, (h.rehashing e).sizes_differ)

  pub tables_sizes : (t : Table) → live_sizes (tables_of s) t ≡ size_of s t
  unfolding tables_of tables_by live_sizes old_new size_of
  tables_sizes = by s.rehashing refl
    where
      by : (f : Bool) → s.rehashing ≡ f → (t : Table)
          → live_sizes (tables_by f s.old_size s.new_size) t ≡ size_of s t
      by false e Table.Old = refl
      by false e Table.New = sym (h.resting e).no_size
      by true e Table.Old = refl
      by true e Table.New = refl
