-- What an answered add leaves, whatever the memory: a state whose count of keys and whose size are within the limits, so that
-- growth can be decided by it.
-- Assumes nothing.
use Prim.Native.Nat.{ℕ, ◌+◌}
use mathlib.Core.Path.{◌≡◌, refl, sym, subst}
use mathlib.Core.Bool.{Bool, true, false, cond}
use mathlib.Core.List.{List}
use native.Mathlib.Omega.{arith}
use lib.ListN.{length}
use lib.Dec.{eqb}
use borrow.Author.Tests.{eqb-false}
use Rattle.model.specs.declared.State.{State}
use Rattle.model.specs.declared.Table.{Table}
use Rattle.model.specs.declared.Error.{Error}
use Rattle.model.specs.declared.Lookup.{Lookup}
use Rattle.model.specs.Limits.{legal_size}
use Rattle.model.specs.Memory.{size_of, used_of, keys_held}
use Rattle.model.specs.Calls.{After, sound, oriented, checked, back, writing, changed, state_of, old_new, recounted, lookup, with_count, pushed, target, takeable, added, add_alone, rehash_step, unless_refused, call_after, step_due, step_first, is_added, add_after_step}
use Rattle.model.proofs.Soundness.{Sound, sound_facts, Counted}
use Rattle.std.specs.Prelude.{Result, Ok, Err}

pub record Growable (s : State) : Type 0 where
  pub counted : Counted s
  pub old_legal : legal_size s.old_size ≡ true

-- the state of an answer that is no refusal
unfoldable pub AddLeaves : After (Result State Error) → Type 0
AddLeaves (After.after (Err e) x y z) = Unit {0}
AddLeaves (After.after (Ok t) x y z) = Growable t

module _ (s : State) (current other entries : List ℕ) (key value : ℕ)
    (h : Sound s (length current) (length other) (length entries)) where
  -- one key more, in either table, of a store that is not full
  one_more : (t : State) → t.old_used + t.new_used ≡ s.old_used + s.new_used + 1 → t.capacity ≡ s.capacity
      → t.old_size ≡ s.old_size → eqb (keys_held s) s.capacity ≡ false → Growable t
  unfolding keys_held
  one_more t more capacity size f =
      record {
        counted =
            record {
              held_fit = omega (arith, h.used_fits, eqb-false (s.old_used + s.new_used) s.capacity f);
              capacity_limit = omega (arith, h.capacity_limit);
            };
        old_legal = subst (λ (n : ℕ). legal_size n ≡ true) (sym size) h.old_legal;
      }

  pushed_leaves : eqb (keys_held s) s.capacity ≡ false → (t : Table) → AddLeaves (pushed s current other entries key value t)
  unfolding AddLeaves pushed changed recounted state_of with_count old_new size_of used_of
  pushed_leaves f Table.Old = one_more _ (omega arith) refl refl f
  pushed_leaves f Table.New = one_more _ (omega arith) refl refl f

  added_leaves : (l : Lookup) → AddLeaves (added s current other entries key value l)
  unfolding AddLeaves added
  added_leaves Lookup.Damaged = tt
  added_leaves (Lookup.At t before n) = tt
  added_leaves Lookup.Absent = by (eqb (keys_held s) s.capacity) refl (takeable s entries)
    where
      refusing : Error → After (Result State Error)
      refusing e = After.after (Err e) current other entries

      by : (full : Bool) → eqb (keys_held s) s.capacity ≡ full → (free : Bool)
          → AddLeaves
          (cond full (refusing Error.Full)
          (cond free (pushed s current other entries key value (target s.rehashing)) (refusing Error.Damaged)))
      by true e free = tt
      by false e true = pushed_leaves e (target s.rehashing)
      by false e false = tt

back_leaves : (f : Bool) (a : After (Result State Error)) → AddLeaves a → AddLeaves (back f a)
unfolding AddLeaves back
back_leaves false a h = h
back_leaves true (After.after (Err e) x y z) h = tt
back_leaves true (After.after (Ok t) x y z) h = h

module _ (key value : ℕ) where
  alone_leaves : (s : State) (first second entries : List ℕ) → AddLeaves (add_alone s first second entries key value)
  unfolding AddLeaves add_alone writing oriented checked
  alone_leaves s first second entries = by s.second_is_current
    where
      refusing : List ℕ → List ℕ → After (Result State Error)
      refusing x y = After.after (Err Error.BadState) x y entries

      call : List ℕ → List ℕ → After (Result State Error)
      call x y = added s x y entries key value (lookup s x y entries key)

      tested : (current other : List ℕ) (t : Bool) → sound s current other entries ≡ t
          → AddLeaves (cond t (call current other) (refusing current other))
      tested current other true e = added_leaves s current other entries key value (sound_facts s current other entries e) _
      tested current other false e = tt

      by : (f : Bool) → AddLeaves (back f (oriented f (checked s entries refusing call) first second))
      by false = back_leaves false _ (tested first second _ refl)
      by true = back_leaves true _ (tested second first _ refl)

  pub add_leaves : (s : State) (first second entries : List ℕ) → AddLeaves (add_after_step s first second entries key value)
  unfolding AddLeaves add_after_step step_first call_after unless_refused is_added
  add_leaves s first second entries = by (step_due s)
    where
      kept : (a : After (Result State Error)) → AddLeaves a → AddLeaves (unless_refused is_added first second entries a)
      kept (After.after (Err e) x y z) h = tt
      kept (After.after (Ok t) x y z) h = h

      call : State → List ℕ → List ℕ → List ℕ → After (Result State Error)
      call t x y z = add_alone t x y z key value

      stepped : (a : After (Result (ℕ × State) Error)) → AddLeaves (call_after Err is_added call first second entries a)
      stepped (After.after (Err e) x y z) = tt
      stepped (After.after (Ok (count, t)) x y z) = kept (add_alone t x y z key value) (alone_leaves t x y z)

      by : (f : Bool)
          → AddLeaves
          (cond f (call_after Err is_added call first second entries (rehash_step s first second entries))
          (call s first second entries))
      by true = stepped (rehash_step s first second entries)
      by false = alone_leaves s first second entries
