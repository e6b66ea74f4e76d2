-- The check from its parts: what a sound state says of the tables, the free list by its last entry, and the whole.
-- Assumes nothing.
use Prim.Native.Nat.{ℕ, suc, ◌+◌, ◌-◌, ◌≤◌, ◌<◌}
use mathlib.Core.Path.{◌≡◌, refl, sym, ap, subst, ◌∙◌}
use mathlib.Core.Bool.{Bool, true, false, ◌&&◌, not, cond}
use mathlib.Core.List.{List, [], ◌∷◌}
use mathlib.Core.Option.{Option, none, some}
use native.Mathlib.Omega.{arith}
use lib.ListN.{length}
use lib.Dec.{eqb}
use Rattle.model.specs.declared.State.{State}
use Rattle.model.specs.declared.Table.{Table}
use Rattle.model.specs.Memory.{chain, any_key, size_of, used_of, buckets_of, keys_held, link_of, Place, belongs, head_at, budget_at, chain_at, entries_at, last_or}
use Rattle.model.proofs.Soundness.{Sound, table_legal, table_fits, index_within}
use Rattle.model.proofs.Linked.{Linked, read_sound}
use Rattle.model.specs.Verify.{table_verified, all_empty, finds_itself, counted, last_fails, free_verified, verified, verify}
use Rattle.verify.specs.Checked.{Tabled, Searchable, table_checked, last_of, end_from}
use Rattle.model.specs.declared.Error.{Error}
use Rattle.search.proofs.Readable as Readable
use Rattle.memory.specs.Lent.{sound_lent}
use Rattle.memory.proofs.Orientation.{reading_sound, read_first, read_second}
use Rattle.std.specs.Prelude as Prelude
use Rattle.std.proofs.Common.{Result, Ok, Err, Some, None}
use Rattle.model.specs.Calls.{old_new}

module _ (s : State) (current other entries : ℕ) (h : Sound s current other entries) where
  tabled : (t : Table) → Tabled (size_of s t) (old_new current other t) s.capacity entries
  tabled t =
      record {
        size_legal = table_legal s current other entries h t;
        buckets_fit = table_fits s current other entries h t;
        entries_fit = h.entries_fit;
      }

  pub old_tabled : Tabled s.old_size current s.capacity entries
  unfolding size_of old_new
  old_tabled = tabled Table.Old

  pub new_tabled : Tabled s.new_size other s.capacity entries
  unfolding size_of old_new
  new_tabled = tabled Table.New

  pub searchable : Searchable s current other entries
  searchable =
      record {
        old_readable = Readable.old_readable s current other entries h;
        new_readable = Readable.new_readable s current other entries h;
      }

  pub index_inside : s.rehash_index ≤ current
  index_inside = omega (arith, index_within s current other entries h, h.old_fits)

-- the last entry of a linked list is in range
linked_last : (entries : List ℕ) (most at n : ℕ) (ns : List ℕ) → Linked entries most at (n ∷ ns)
    → (0 < last_or n ns) × (last_or n ns ≤ most)
unfolding Linked last_or
linked_last entries most at n [] h = (h.1, h.2)
linked_last entries most at n (m ∷ ns) h = linked_last entries most (link_of entries n) m ns h.3

-- the free list, by what its end says
module _ (test : ℕ → Bool) (entries : List ℕ) (capacity count head : ℕ) where
  Ends : Option (List ℕ) → Result (Prelude.Option ℕ) Error → Type 0
  Ends o (Err e) = false ≡ free_verified test count o
  Ends o (Ok None) = true ≡ free_verified test count o
  Ends o (Ok (Some last)) = (0 < last) × (last ≤ capacity) × (not (test last) ≡ free_verified test count o)

  ends : (o : Option (List ℕ)) → chain any_key entries capacity count head ≡ o → Ends o (end_from None count o)
  unfolding Ends end_from last_of free_verified last_fails
  ends none c = refl
  ends (some []) c = by (eqb 0 count) refl
    where
      by : (t : Bool) → eqb 0 count ≡ t → Ends (some []) (cond t (Ok None) (Err Error.Damaged))
      by true k = rw k
      by false k = rw k
  ends (some (n ∷ ns)) c = by (eqb (suc (length ns)) count) refl
    where
      by : (t : Bool) → eqb (suc (length ns)) count ≡ t → Ends (some (n ∷ ns)) (cond t (Ok (Some (last_or n ns))) (Err Error.Damaged))
      by true k =
          let (some_last, last_fits) = linked_last entries capacity head n ns (read_sound any_key entries capacity count head (n ∷ ns) c).0 in
          (some_last, last_fits, rw k)
      by false k = rw k

  told : (r q : Result (Prelude.Option ℕ) Error) → r ≡ end_from None count (chain any_key entries capacity count head) → r ≡ q
      → Ends (chain any_key entries capacity count head) q
  told r q e f =
      subst (Ends (chain any_key entries capacity count head)) (sym e ∙ f) (ends (chain any_key entries capacity count head) refl)

-- a last entry is in range
pub last_entry : (entries : List ℕ) (capacity count head last : ℕ) (r : Result (Prelude.Option ℕ) Error) (o : Prelude.Option ℕ)
    → r ≡ end_from None count (chain any_key entries capacity count head) → r ≡ Ok o → o ≡ Some last → (0 < last) × (last ≤ capacity)
unfolding Ends
last_entry entries capacity count head last r o e f g =
    let (some_last, last_fits, same) = told (λ n. true) entries capacity count head r (Ok (Some last)) e (f ∙ ap Ok g) in (some_last, last_fits)

-- as the code has it: the entries that are not held, from the free head
module _ (s : State) (current other entries : List ℕ) (r : Result (Prelude.Option ℕ) Error)
    (e : r
    ≡ end_from None (s.capacity - (s.old_used + s.new_used))
    (chain any_key entries s.capacity (s.capacity - (s.old_used + s.new_used)) s.free_head)) where
  pub free_unsound : (x : Error) → r ≡ Err x
      → false
      ≡ free_verified (finds_itself s current other entries) (s.capacity - keys_held s) (chain_at s current other entries Place.free)
  unfolding Ends chain_at belongs budget_at head_at keys_held
  free_unsound x f = told (finds_itself s current other entries) entries s.capacity _ s.free_head r (Err x) e f

  pub free_none : (o : Prelude.Option ℕ) → r ≡ Ok o → o ≡ None
      → true
      ≡ free_verified (finds_itself s current other entries) (s.capacity - keys_held s) (chain_at s current other entries Place.free)
  unfolding Ends chain_at belongs budget_at head_at keys_held
  free_none o f g = told (finds_itself s current other entries) entries s.capacity _ s.free_head r (Ok None) e (f ∙ ap Ok g)

  pub free_some : (o : Prelude.Option ℕ) (last : ℕ) (itself : Bool) → r ≡ Ok o → o ≡ Some last → itself ≡ finds_itself s current other entries last
      → not itself
      ≡ free_verified (finds_itself s current other entries) (s.capacity - keys_held s) (chain_at s current other entries Place.free)
  unfolding Ends chain_at belongs budget_at head_at keys_held
  free_some o last itself f g i =
      rw i (told (finds_itself s current other entries) entries s.capacity _ s.free_head r (Ok (Some last)) e (f ∙ ap Ok g)).2

-- a table's part over numbers is that of the definition
table_same : (s : State) (current other entries : List ℕ) (t : Table)
    → table_checked entries s.capacity (used_of s t) (buckets_of current other t) (size_of s t) ≡ table_verified s current other entries t
unfolding table_checked table_verified entries_at chain_at belongs budget_at head_at
table_same s current other entries t = refl

-- the check, part by part as the code has it
pub verified_parts : (s : State) (current other entries : List ℕ)
    → verified s current other entries
    ≡ (table_checked entries s.capacity s.old_used current s.old_size
    && table_checked entries s.capacity s.new_used other s.new_size
    && all_empty current s.rehash_index
    && free_verified (finds_itself s current other entries) (s.capacity - keys_held s) (chain_at s current other entries Place.free)
    && eqb (counted (finds_itself s current other entries) s.capacity) (s.old_used + s.new_used))
unfolding verified keys_held used_of buckets_of size_of
verified_parts s current other entries =
    rw (table_same s current other entries Table.Old, table_same s current other entries Table.New)

-- The call, on the lent buffers: the flag says which of them is the current one.
module _ (s : State) (first second entries : List ℕ) (h : sound_lent (length first) (length second) (length entries) s ≡ true) (r : Bool) where
  pub verify_first : s.second_is_current ≡ false → r ≡ verified s first second entries → Ok r ≡ verify s first second entries
  unfolding verify
  verify_first f e = reading_sound s first second entries _ refl _ _ _ h (read_first _ _ first second _ f (ap Ok e))

  pub verify_second : s.second_is_current ≡ true → r ≡ verified s second first entries → Ok r ≡ verify s first second entries
  unfolding verify
  verify_second f e = reading_sound s first second entries _ refl _ _ _ h (read_second _ _ first second _ f (ap Ok e))
