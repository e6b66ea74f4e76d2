-- An add while safe iterators hold up the step: it is one alone.
-- Assumes nothing.
use Prim.Native.Nat.{ℕ}
use mathlib.Core.Path.{◌≡◌, sym, ap, ◌∙◌}
use mathlib.Core.Bool.{Bool, true}
use mathlib.Core.List.{List}
use lib.ListN.{length, get_or, set}
use Rattle.model.specs.declared.State.{State}
use Rattle.model.specs.declared.Table.{Table}
use Rattle.model.specs.declared.Error.{Error}
use Rattle.model.specs.Keys.{bucket_of}
use Rattle.model.specs.Memory.{set_entry, size_of, buckets_of}
use Rattle.model.specs.Calls.{After, back, both, changed, target, lookup, added, add_alone, is_added, add_after_step}
use Rattle.model.proofs.Soundness.{Sound}
use Rattle.search.specs.Found.{Found, found_of}
use Rattle.search.specs.Tables.{searched_in}
use Rattle.search.proofs.Lookups.{lookup_rehashing}
use Rattle.dict_rehash.proofs.Due.{none_due_paused}
use Rattle.after_step.specs.Told.{found_presence}
use Rattle.after_step.proofs.StepFirst.{first_alone}
use Rattle.during_rehash.specs.Counts.{one_more}
use Rattle.during_rehash.specs.Free.{next_free}
use Rattle.during_rehash.specs.Moving.{add_moving}
use Rattle.during_rehash.proofs.AddingAfter.{twice_back, first, second, lent_writing}
use Rattle.during_rehash.proofs.Pushed.{found_told, damaged_alone, refused_alone, taken_alone}
use Rattle.std.specs.Prelude.{Ok, Err}

module _ (s : State) (current other entries : List ℕ) (key value : ℕ) (h : Sound s (length current) (length other) (length entries))
    (rehashes : s.rehashing ≡ true) (i : s.safe_iterators ≡ 0 → ⊥) where
  there : added s current other entries key value (lookup s current other entries key)
      ≡ add_moving s current other entries key value
  unfolding add_moving add_after_step add_alone
  there =
      let f = s.second_is_current in
      let m = added s current other entries key value (lookup s current other entries key) in
      sym (twice_back f m)
      ∙ ap (back f)
      (first_alone Err is_added (λ t x y z. add_alone t x y z key value) s (first s current other entries)
      (second s current other entries) entries (back f m) (none_due_paused s i)
      (lent_writing s current other entries h (Err Error.BadState)
      (λ c o. added s c o entries key value (lookup s c o entries key))))

  module _ (y : Found)
      (g : y ≡ found_of (both
      (searched_in entries s.capacity s.old_used current s.old_size key Table.Old)
      (searched_in entries s.capacity s.new_used other s.new_size key Table.New))) where
    found : y ≡ found_of (lookup s current other entries key)
    found = g ∙ ap found_of (lookup_rehashing s current other entries key rehashes)

    pub paused_damaged : (error : Error) → Err error ≡ found_presence y
        → After.after (Err error) current other entries ≡ add_moving s current other entries key value
    paused_damaged error e =
        damaged_alone s current other entries key value _ error (found_told (Err error) y _ e found) ∙ there

    module _ (held : Bool) (e : Ok held ≡ found_presence y) where
      pub paused_refused : (error : Error) → Err error ≡ next_free s held entries → (o z : List ℕ) → o ≡ other → z ≡ entries
          → After.after (Err error) current o z ≡ add_moving s current other entries key value
      paused_refused error n o z oe ze =
          rw (oe, ze)
          (refused_alone s current other entries key value held _ (found_told (Ok held) y _ e found) error n ∙ there)

      pub paused_taken : (free : ℕ) → Ok free ≡ next_free s held entries → (o z : List ℕ)
          → o ≡ set other (bucket_of key s.new_size) s.free_head
          → z ≡ set_entry entries s.free_head (get_or other (bucket_of key s.new_size) 0) key value → (t : State)
          → t ≡ one_more s (target s.rehashing) free → After.after (Ok t) current o z ≡ add_moving s current other entries key value
      unfolding changed buckets_of size_of target
      paused_taken free n o z oe ze t te =
          rw (oe, ze, te)
          (taken_alone s current other entries key value held _ (found_told (Ok held) y _ e found) Table.New (ap target rehashes) free n
          ∙ there)
