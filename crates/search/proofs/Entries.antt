-- A key's entry in one table, in both, and in the lent buffers.
-- Assumes nothing.
use Prim.Native.Nat.{ℕ}
use mathlib.Core.Path.{◌≡◌, refl, ap, ap₂, ◌∙◌}
use mathlib.Core.Bool.{true, false}
use mathlib.Core.List.{List}
use Rattle.model.specs.declared.State.{State}
use Rattle.model.specs.declared.Table.{Table}
use Rattle.model.specs.declared.Lookup.{Lookup}
use Rattle.model.specs.Keys.{bucket_of}
use Rattle.model.specs.Calls.{searched, both, lookup}
use Rattle.memory.specs.Length.{bucket_chain}
use Rattle.search.specs.Tables.{searched_in}
use Rattle.std.specs.Prelude.{Option, Ok, Err}
use Rattle.std.specs.Option.{option_or}
use Rattle.std.specs.Result.{IsErrAnd}
use Rattle.std.proofs.lemmas.Result.{err_from_is_err_and}
use Rattle.model.specs.declared.Error.{Error}
use Rattle.search.specs.Found.{Found, found_of, both_found}
use Rattle.search.proofs.Lookups.{looked_in, lookup_resting, lookup_rehashing}

pub entry_in_one : (entries : List ℕ) (capacity used : ℕ) (buckets : List ℕ) (size key b : ℕ) (r : Found)
    → b ≡ bucket_of key size
    → ((t : Table) → r ≡ found_of (searched entries key t 0 (bucket_chain size entries capacity used buckets b)))
    → (t : Table) → r ≡ found_of (searched_in entries capacity used buckets size key t)
entry_in_one entries capacity used buckets size key b r e h t =
    h t ∙ ap found_of (looked_in entries capacity used buckets size key b t _ e refl)

both_of : (a b : Lookup) → both_found (found_of a) (found_of b) ≡ found_of (both a b)
unfolding both_found found_of both
both_of Lookup.Damaged b = refl
both_of Lookup.Absent Lookup.Damaged = refl
both_of Lookup.Absent Lookup.Absent = refl
both_of Lookup.Absent (Lookup.At t n m) = refl
both_of (Lookup.At t m n) Lookup.Damaged = refl
both_of (Lookup.At t m n) Lookup.Absent = refl
both_of (Lookup.At t m n) (Lookup.At t' m' n') = refl

-- each way out of a search of both
module _ (entries : List ℕ) (capacity key old_used new_used old_size new_size : ℕ) (old new : List ℕ) where
  abbrev pub both_searched : Lookup
  both_searched =
      both
      (searched_in entries capacity old_used old old_size key Table.Old)
      (searched_in entries capacity new_used new new_size key Table.New)

  pub old_damaged : (r : Found) (x : Error)
      → ((t : Table) → Err x ≡ found_of (searched_in entries capacity old_used old old_size key t))
      → IsErrAnd r (λ e. e ≡ x) → r ≡ found_of both_searched
  unfolding both_found
  old_damaged r x f g =
      let p = err_from_is_err_and r g in
      rw (p.1, p.2)
      (ap (λ (y : Found). both_found y (found_of (searched_in entries capacity new_used new new_size key Table.New))) (f Table.Old)
      ∙ both_of _ _)

  module _ (o : Option ℕ) (f : (t : Table) → Ok o ≡ found_of (searched_in entries capacity old_used old old_size key t)) where
    pub new_damaged : (r : Found) (x : Error)
        → ((t : Table) → Err x ≡ found_of (searched_in entries capacity new_used new new_size key t))
        → IsErrAnd r (λ e. e ≡ x) → r ≡ found_of both_searched
    unfolding both_found
    new_damaged r x h g =
        let p = err_from_is_err_and r g in rw (p.1, p.2) (ap₂ both_found (f Table.Old) (h Table.New) ∙ both_of _ _)

    pub both_read : (p q : Option ℕ)
        → ((t : Table) → Ok p ≡ found_of (searched_in entries capacity new_used new new_size key t))
        → q ≡ option_or o p → Ok q ≡ found_of both_searched
    unfolding both_found
    both_read p q h e = rw e (ap₂ both_found (f Table.Old) (h Table.New) ∙ both_of _ _)

-- The only table, or both, are the lookup, and the entry is one of the buffer's.

module _ (s : State) (current other entries : List ℕ) (key : ℕ) (r : Found) where
  pub found_resting : s.rehashing ≡ false
      → ((t : Table) → r ≡ found_of (searched_in entries s.capacity s.old_used current s.old_size key t))
      → r ≡ found_of (lookup s current other entries key)
  found_resting e h = h Table.Old ∙ ap found_of (lookup_resting s current other entries key e)

  pub found_rehashing : s.rehashing ≡ true
      → r
      ≡ found_of
      (both
      (searched_in entries s.capacity s.old_used current s.old_size key Table.Old)
      (searched_in entries s.capacity s.new_used other s.new_size key Table.New))
      → r ≡ found_of (lookup s current other entries key)
  found_rehashing e h = h ∙ ap found_of (lookup_rehashing s current other entries key e)
