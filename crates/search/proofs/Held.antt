-- What find and update make of the entry found, and that it is one of the buffer's.
-- Assumes nothing.
use Prim.Native.Nat.{ℕ, ◌*◌, ◌≤◌, ◌<◌}
use mathlib.Core.Path.{◌≡◌, refl, sym, ◌∙◌}
use mathlib.Core.List.{List}
use native.Mathlib.Omega.{arith}
use lib.ListN.{length}
use Rattle.model.specs.declared.State.{State}
use Rattle.model.specs.declared.Table.{Table}
use Rattle.model.specs.declared.Error.{Error}
use Rattle.model.specs.declared.Lookup.{Lookup}
use Rattle.model.specs.Calls.{lookup, held}
use Rattle.model.proofs.Soundness.{Sound}
use Rattle.model.proofs.Lookups.{found_some, found_fits}
use Rattle.search.specs.Found.{Found, found_of, Inside}
use Rattle.std.specs.Prelude.{Option, Some, None, Ok, Err}
use Rattle.std.specs.Option.{ok_or}

-- They ask for no more than the entry's number.

held_as : {A : Type 0} → (Error → A) → (ℕ → A) → Found → A
held_as refused call (Err e) = refused e
held_as refused call (Ok None) = refused Error.Absent
held_as refused call (Ok (Some n)) = call n

module _ {A : Type 0} (refused : Error → A) (call : ℕ → A) where
  as_held : (l : Lookup) → held_as refused call (found_of l) ≡ held refused (λ t before n. call n) l
  unfolding held_as found_of held
  as_held Lookup.Damaged = refl
  as_held Lookup.Absent = refl
  as_held (Lookup.At t before n) = refl

  module _ (l : Lookup) where
    by_entry : (r : Found) → r ≡ found_of l → held_as refused call r ≡ held refused (λ t before n. call n) l
    by_entry r e = rw e (as_held l)

    pub held_damaged : (x : Error) → Err x ≡ found_of l → refused x ≡ held refused (λ t before n. call n) l
    unfolding held_as
    held_damaged x e = by_entry (Err x) e

    pub held_absent : (found : Option ℕ) (x : Error) → Ok found ≡ found_of l → Err x ≡ ok_or found Error.Absent
        → refused x ≡ held refused (λ t before n. call n) l
    unfolding held_as
    held_absent None x e a = let same : x ≡ Error.Absent = cc in rw same (by_entry (Ok None) e)
    held_absent (Some n) x e a = let z : ◌≡◌ {A = ℕ} 0 1 = cc in absurd (omega arith)

    pub held_at : (found : Option ℕ) (n : ℕ) → Ok found ≡ found_of l → Ok n ≡ ok_or found Error.Absent
        → call n ≡ held refused (λ t before n. call n) l
    unfolding held_as
    held_at None n e a = let z : ◌≡◌ {A = ℕ} 0 1 = cc in absurd (omega arith)
    held_at (Some m) n e a = let same : n ≡ m = cc in rw same (by_entry (Ok (Some m)) e)

-- The entry is one of the buffer's.

at_lookup : (l : Lookup) (n : ℕ) → Ok (Some n) ≡ found_of l → (t : Table) × (before : ℕ) × (l ≡ Lookup.At t before n)
unfolding found_of
at_lookup Lookup.Damaged n e = let z : ◌≡◌ {A = ℕ} 0 1 = cc in absurd (omega arith)
at_lookup Lookup.Absent n e = let z : ◌≡◌ {A = ℕ} 0 1 = cc in absurd (omega arith)
at_lookup (Lookup.At t before m) n e = (t, before, cc)

module _ (s : State) (entries : List ℕ) (key : ℕ) where
  in_buffer : (n : ℕ) (current other : List ℕ) → Ok (Some n) ≡ found_of (lookup s current other entries key)
      → Sound s (length current) (length other) (length entries) → (0 < n) × (n * 3 ≤ length entries)
  in_buffer n current other e h =
      let (t, before, a) = at_lookup (lookup s current other entries key) n e in (
        found_some s current other entries key (lookup s current other entries key) t before n refl a,
        found_fits s current other entries key (lookup s current other entries key) t before n refl a h,
      )

  pub found_inside : (current other : List ℕ) (r : Found) → r ≡ found_of (lookup s current other entries key)
      → Sound s (length current) (length other) (length entries) → Inside r (length entries)
  found_inside current other r l h =
      record {
        some = λ n a. (in_buffer n current other (sym a ∙ l) h).0;
        fits = λ n a. (in_buffer n current other (sym a ∙ l) h).1;
      }
