-- What an add comes to: into the only table, and on the lent buffers with no rehash and during one.
-- Assumes nothing.
use Prim.Native.Nat.{ℕ}
use mathlib.Core.Path.{◌≡◌, refl, sym, ap, ◌∙◌}
use mathlib.Core.Bool.{Bool, true, false}
use mathlib.Core.List.{List}
use lib.ListN.{length, get_or, set}
use Rattle.model.specs.declared.State.{State}
use Rattle.model.specs.declared.Table.{Table}
use Rattle.model.specs.declared.Error.{Error}
use Rattle.model.specs.Keys.{bucket_of}
use Rattle.model.specs.Memory.{set_entry, size_of, buckets_of}
use Rattle.model.specs.Calls.{After, oriented, back, changed, lookup, target, added, add_alone, is_added, add_after_step}
use Rattle.memory.specs.Lent.{sound_lent}
use Rattle.memory.proofs.Orientation.{written_first, written_second, writing_refused, writing_sound}
use Rattle.search.specs.Found.{Found, found_of}
use Rattle.search.specs.Tables.{searched_in}
use Rattle.search.proofs.Lookups.{lookup_resting}
use Rattle.dict_rehash.proofs.Due.{none_due_resting}
use Rattle.after_step.specs.Told.{found_presence}
use Rattle.after_step.proofs.StepFirst.{first_alone, first_unsound}
use Rattle.during_rehash.specs.Counts.{one_more}
use Rattle.during_rehash.specs.Free.{next_free}
use Rattle.during_rehash.specs.Moving.{first_of, second_of, add_moving}
use Rattle.during_rehash.proofs.AddingAfter.{twice_back}
use Rattle.during_rehash.proofs.Pushed.{found_told, damaged_alone, refused_alone, taken_alone}
use Rattle.std.specs.Prelude.{Result, Ok, Err}

-- ---- into the only table

module _ (s : State) (current entries : List ℕ) (key value : ℕ) (rests : s.rehashing ≡ false) (y : Found)
    (g : (t : Table) → y ≡ found_of (searched_in entries s.capacity s.old_used current s.old_size key t)) where
  found : (other : List ℕ) → y ≡ found_of (lookup s current other entries key)
  found other = g Table.Old ∙ ap found_of (lookup_resting s current other entries key rests)

  pub in_damaged : (error : Error) → Err error ≡ found_presence y → (other : List ℕ)
      → After.after (Err error) current other entries
      ≡ added s current other entries key value (lookup s current other entries key)
  in_damaged error e other =
      damaged_alone s current other entries key value _ error (found_told (Err error) y _ e (found other))

  module _ (held : Bool) (e : Ok held ≡ found_presence y) where
    pub in_refused : (error : Error) → Err error ≡ next_free s held entries → (b z : List ℕ) → b ≡ current → z ≡ entries
        → (other : List ℕ)
        → After.after (Err error) b other z
        ≡ added s current other entries key value (lookup s current other entries key)
    in_refused error n b z be ze other =
        rw (be, ze)
        (refused_alone s current other entries key value held _ (found_told (Ok held) y _ e (found other)) error n)

    pub in_taken : (free : ℕ) → Ok free ≡ next_free s held entries → (b z : List ℕ)
        → b ≡ set current (bucket_of key s.old_size) s.free_head
        → z ≡ set_entry entries s.free_head (get_or current (bucket_of key s.old_size) 0) key value → (t : State)
        → t ≡ one_more s (target s.rehashing) free → (other : List ℕ)
        → After.after (Ok t) b other z
        ≡ added s current other entries key value (lookup s current other entries key)
    unfolding changed buckets_of size_of target
    in_taken free n b z be ze t te other =
        rw (be, ze, te)
        (taken_alone s current other entries key value held _ (found_told (Ok held) y _ e (found other)) Table.Old
        (ap target rests) free n)

-- ---- on the lent buffers

module _ (s : State) (first second entries : List ℕ) (key value : ℕ) (a : Result State Error) (x y e : List ℕ) where
  module _ (h : sound_lent (length first) (length second) (length entries) s ≡ true) (rests : s.rehashing ≡ false) where
    alone : (r : After (Result State Error)) → r ≡ add_alone s first second entries key value
        → r ≡ add_after_step s first second entries key value
    unfolding add_after_step
    alone r p =
        first_alone Err is_added (λ t x y z. add_alone t x y z key value) s first second entries r (none_due_resting s rests) p

    pub added_first : s.second_is_current ≡ false
        → After.after a x y e ≡ added s first second entries key value (lookup s first second entries key)
        → After.after a x y e ≡ add_after_step s first second entries key value
    unfolding add_alone
    added_first f p =
        alone _ (writing_sound s first second entries true (sym h) _ _ _ refl (written_first _ _ first second _ x y e f p))

    pub added_second : s.second_is_current ≡ true
        → After.after a x y e ≡ added s second first entries key value (lookup s second first entries key)
        → After.after a y x e ≡ add_after_step s first second entries key value
    unfolding add_alone
    added_second f p =
        alone _ (writing_sound s first second entries true (sym h) _ _ _ refl (written_second _ _ first second _ x y e f p))

  -- during a rehash
  pub moving_first : s.second_is_current ≡ false → After.after a x y e ≡ add_moving s first second entries key value
      → After.after a x y e ≡ add_after_step s first second entries key value
  unfolding add_moving oriented back
  moving_first f p =
      p
      ∙ ap
      (λ (g : Bool). back g (add_after_step s (first_of g first second) (second_of g first second) entries key value)) f

  pub moving_second : s.second_is_current ≡ true → After.after a x y e ≡ add_moving s second first entries key value
      → After.after a y x e ≡ add_after_step s first second entries key value
  unfolding add_moving oriented back
  moving_second f p =
      ap (back true)
      (p
      ∙ ap
      (λ (g : Bool). back g (add_after_step s (first_of g second first) (second_of g second first) entries key value)) f)
      ∙ twice_back true (add_after_step s first second entries key value)

-- ---- a state that is not sound

pub add_unsound : (s : State) (first second entries : List ℕ) (key value : ℕ)
    → sound_lent (length first) (length second) (length entries) s ≡ false
    → After.after (Err Error.BadState) first second entries ≡ add_after_step s first second entries key value
unfolding add_after_step add_alone
add_unsound s first second entries key value f =
    first_unsound Err is_added (λ t x y z. add_alone t x y z key value) s first second entries _ refl f
    (writing_refused s first second entries _ refl _ _ f)
