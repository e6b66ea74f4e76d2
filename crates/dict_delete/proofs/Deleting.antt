-- What a delete comes to: alone, and after a step, by what was told of the key.
-- Assumes nothing.
use Prim.Native.Nat.{ℕ, ◌-◌}
use mathlib.Core.Path.{◌≡◌, refl, sym, ap, subst, ◌∙◌}
use mathlib.Core.Bool.{Bool, true, false}
use mathlib.Core.List.{List}
use native.Mathlib.Omega.{arith}
use lib.ListN.{length}
use Rattle.model.specs.declared.State.{State}
use Rattle.model.specs.declared.Table.{Table}
use Rattle.model.specs.declared.Error.{Error}
use Rattle.model.specs.declared.Lookup.{Lookup}
use Rattle.model.specs.Memory.{used_of}
use Rattle.model.specs.Calls.{After, oriented, back, changed, recounted, with_count, lookup, held, removed, deleted, delete_alone, step_taken, rehash_step, step_due, is_deleted, delete}
use Rattle.memory.specs.Lent.{sound_lent}
use Rattle.memory.proofs.Orientation.{written_first, written_second, writing_refused, writing_sound}
use Rattle.memory.proofs.Tested.{lent_first, lent_second}
use Rattle.search.specs.Tables.{lookup_lent}
use Rattle.after_step.specs.Presence.{presence, presence_after, presence_then}
use Rattle.after_step.proofs.StepFirst.{answer_of, answer_by, is_damaged, is_absent, is_held, damage_after, StepTaken, step_taken_lem, first_alone, first_unsound, first_done, first_refused}
use Rattle.during_rehash.specs.Foretold.{StepDue}
use Rattle.during_rehash.specs.Moving.{first_of, second_of, if_held}
use Rattle.during_rehash.proofs.Preparing.{held_lent}
use Rattle.dict_delete.specs.Step.{step_for}
use Rattle.std.specs.Prelude.{Result, Ok, Err}

-- Alone, on the lent buffers.

module _ (s : State) (first second entries : List ℕ) (key : ℕ) (a : Result State Error) (x y e : List ℕ)
    (h : sound_lent (length first) (length second) (length entries) s ≡ true) where
  pub alone_first : s.second_is_current ≡ false
      → After.after a x y e ≡ deleted s first second entries key (lookup s first second entries key)
      → After.after a x y e ≡ delete_alone s first second entries key
  unfolding delete_alone
  alone_first f p =
      writing_sound s first second entries true (sym h) _ _ _ refl (written_first _ _ first second _ x y e f p)

  pub alone_second : s.second_is_current ≡ true
      → After.after a x y e ≡ deleted s second first entries key (lookup s second first entries key)
      → After.after a y x e ≡ delete_alone s first second entries key
  unfolding delete_alone
  alone_second f p =
      writing_sound s first second entries true (sym h) _ _ _ refl (written_second _ _ first second _ x y e f p)

-- What a delete alone answers, by what the lookup finds.

delete_answer : State → Lookup → Result State Error
delete_answer s l = held Err (λ t before n. Ok (recounted s n (with_count s t (used_of s t - 1)))) l

module _ (s : State) (x y z : List ℕ) (key : ℕ) where
  answered : (c o : List ℕ) (l : Lookup) → answer_of (deleted s c o z key l) ≡ delete_answer s l
  unfolding answer_of deleted held removed changed delete_answer
  answered c o Lookup.Damaged = refl
  answered c o Lookup.Absent = refl
  answered c o (Lookup.At Table.Old before n) = refl
  answered c o (Lookup.At Table.New before n) = refl

  alone_answer : sound_lent (length x) (length y) (length z) s ≡ true
      → answer_of (delete_alone s x y z key) ≡ delete_answer s (lookup_lent s x y z key)
  unfolding delete_alone
  alone_answer h =
      answer_by s x y z key (Err Error.BadState) (λ c o l. deleted s c o z key l) (delete_answer s) answered h

-- what was told of the key says as much

told_damaged : (s : State) (l : Lookup) → Err Error.Damaged ≡ presence l → delete_answer s l ≡ Err Error.Damaged
unfolding delete_answer held
told_damaged s l e = ap (delete_answer s) (is_damaged l e)

told_absent : (s : State) (l : Lookup) → Ok false ≡ presence l → delete_answer s l ≡ Err Error.Absent
unfolding delete_answer held
told_absent s l e = ap (delete_answer s) (is_absent l e)

told_held : (s : State) (l : Lookup) → Ok true ≡ presence l → is_deleted (delete_answer s l) ≡ true
unfolding delete_answer held is_deleted
told_held s l e = ap (λ (k : Lookup). is_deleted (delete_answer s k)) (is_held l e).3

-- a step's answer as a delete's: a refusal is the same
only_state : After (Result (ℕ × State) Error) → After (Result State Error)
only_state (After.after (Err error) x y z) = After.after (Err error) x y z
only_state (After.after (Ok (count, t)) x y z) = After.after (Ok t) x y z

-- The whole call.

module _ (s : State) (first second entries : List ℕ) (key : ℕ) where
  pub delete_unsound : sound_lent (length first) (length second) (length entries) s ≡ false
      → After.after (Err Error.BadState) first second entries ≡ delete s first second entries key
  unfolding delete delete_alone
  delete_unsound f =
      first_unsound Err is_deleted (λ t x y z. delete_alone t x y z key) s first second entries _ refl f
      (writing_refused s first second entries _ refl _ _ f)

  -- no step is due
  pub delete_now : (r : After (Result State Error)) → step_due s ≡ false → r ≡ delete_alone s first second entries key
      → r ≡ delete s first second entries key
  unfolding delete
  delete_now r f h =
      first_alone Err is_deleted (λ t x y z. delete_alone t x y z key) s first second entries r f h

  module _ (h : sound_lent (length first) (length second) (length entries) s ≡ true) (f : step_due s ≡ true) (v : Result Bool Error)
      (k : v ≡ presence_after key (rehash_step s first second entries)) where
    delete_damaged : (x : Error) → v ≡ Err x → After.after (Err x) first second entries ≡ delete s first second entries key
    unfolding delete is_deleted
    delete_damaged x d =
        let damaged = damage_after key (rehash_step s first second entries) x (sym d ∙ k) in
        first_refused Err is_deleted (λ t x y z. delete_alone t x y z key) s first second entries f key v
        (Err x) h k (λ e. ap Err damaged) refl
        (λ t p q z u o e w.
        alone_answer t p q z key u ∙ told_damaged t (lookup_lent t p q z key) (ap Err (sym damaged) ∙ sym d ∙ w) ∙ ap Err (sym damaged))

    delete_absent : v ≡ (Ok false)
        → After.after (Err Error.Absent) first second entries ≡ delete s first second entries key
    unfolding delete is_deleted
    delete_absent d =
        first_refused Err is_deleted (λ t x y z. delete_alone t x y z key) s first second entries f key v
        (Err Error.Absent) h k (λ e. let z : ◌≡◌ {A = ℕ} 0 1 = cc in absurd (omega arith)) refl
        (λ t x y z p o e w. alone_answer t x y z key p ∙ told_absent t (lookup_lent t x y z key) (sym d ∙ w))

  -- by what the step before it answers

  module _ (h : sound_lent (length first) (length second) (length entries) s ≡ true) (f : step_due s ≡ true) (x y z : List ℕ) where
    abbrev told : Result Bool Error
    told = presence_after key (rehash_step s first second entries)

    pub delete_refused : (error : Error) → After.after (Err error) x y z ≡ step_for s first second entries key
        → After.after (Err error) x y z ≡ delete s first second entries key
    unfolding step_for if_held presence_after only_state
    delete_refused error k = by told refl k
      where
        by : (v : Result Bool Error) → v ≡ told
            → After.after (Err error) x y z ≡ if_held v (rehash_step s first second entries) first second entries
            → After.after (Err error) x y z ≡ delete s first second entries key
        by (Err e) g k = ap only_state k ∙ delete_damaged h f (Err e) g e refl
        by (Ok false) g k = ap only_state k ∙ delete_absent h f (Ok false) g refl
        by (Ok true) g k =
            let damaged : Ok true ≡ Err Error.Damaged = g ∙ ap (presence_after key) (sym k) in
            let z : ◌≡◌ {A = ℕ} 0 1 = cc in
            absurd (omega arith)

    module _ (count : ℕ) (t : State) (k : After.after (Ok (count, t)) x y z ≡ step_for s first second entries key) where
      told_and_taken : (Ok true ≡ told) × (After.after (Ok (count, t)) x y z ≡ rehash_step s first second entries)
      unfolding step_for if_held
      told_and_taken = by told refl k
        where
          by : (v : Result Bool Error) → v ≡ told
              → After.after (Ok (count, t)) x y z ≡ if_held v (rehash_step s first second entries) first second entries
              → (Ok true ≡ told) × (After.after (Ok (count, t)) x y z ≡ rehash_step s first second entries)
          by (Err e) g k = let z : ◌≡◌ {A = ℕ} 0 1 = cc in absurd (omega arith)
          by (Ok false) g k = let z : ◌≡◌ {A = ℕ} 0 1 = cc in absurd (omega arith)
          by (Ok true) g k = (g, k)

      then : StepTaken s first second entries key (Ok true) count t x y z
      then =
          step_taken_lem s first second entries key (Ok true)
          record { sound = h; due = f; told = told_and_taken.0 }
          (Ok (count, t)) x y z told_and_taken.1 count t refl

      pub then_sound : sound_lent (length x) (length y) (length z) t ≡ true
      then_sound = then.sound

      pub delete_held : (a : Result State Error) (u v w : List ℕ) → After.after a u v w ≡ delete_alone t x y z key
          → After.after a u v w ≡ delete s first second entries key
      unfolding delete answer_of
      delete_held a u v w g =
          first_done Err is_deleted (λ t x y z. delete_alone t x y z key) s first second entries f count t x y z
          a u v w then.step g
          (ap is_deleted (ap answer_of g ∙ alone_answer t x y z key then.sound)
          ∙ told_held t (lookup_lent t x y z key) then.told)

-- The step before it, from the current and the other buffer to the lent ones.

module _ (s : State) (first second entries : List ℕ)
    (h : sound_lent (length first) (length second) (length entries) s ≡ true) (d : step_due s ≡ true) where
  pub due_first : s.second_is_current ≡ false → StepDue s first second entries
  due_first f = record { sound = lent_first s _ _ _ h f; due = d }

  pub due_second : s.second_is_current ≡ true → StepDue s second first entries
  due_second f = record { sound = lent_second s _ _ _ h f; due = d }

  module _ (key : ℕ) (a : Result (ℕ × State) Error) (x y z : List ℕ) where
    -- on the current and the other buffer
    abbrev step_in : List ℕ → List ℕ → After (Result (ℕ × State) Error)
    step_in current other =
        if_held (presence_then key s.second_is_current (step_taken s current other entries)) (step_taken s current other entries)
        current other entries

    abbrev Comes : (current other : List ℕ) → Bool → Type 0
    Comes current other g =
        back g (step_in current other) ≡ step_for s (first_of g current other) (second_of g current other) entries key

    pub step_first : s.second_is_current ≡ false
        → After.after a x y z
        ≡ if_held (presence_then key s.second_is_current (step_taken s first second entries)) (step_taken s first second entries)
        first second entries
        → After.after a x y z ≡ step_for s first second entries key
    unfolding step_for oriented back
    step_first f p = p ∙ subst (Comes first second) f (held_lent s first second entries key (due_first f))

    pub step_second : s.second_is_current ≡ true
        → After.after a x y z
        ≡ if_held (presence_then key s.second_is_current (step_taken s second first entries)) (step_taken s second first entries)
        second first entries
        → After.after a y x z ≡ step_for s first second entries key
    unfolding step_for oriented back
    step_second f p =
        ap (back true) p ∙ subst (Comes second first) f (held_lent s second first entries key (due_second f))
