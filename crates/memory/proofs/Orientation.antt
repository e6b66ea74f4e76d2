-- From what a body on the current and the other bucket buffer gives to a call on the lent ones, by the state's flag. The
-- definitions of the calls are `reading` and `writing`. A call that orients first has them unfolded, and its body is what
-- `checked` says (Tested); one that tests first, on the lent lengths, uses the second half.
-- Assumes nothing.
use Rattle.std.proofs.Common.{◌≡◌, ℕ, Bool, true, false, cond, List, length, refl, sym, ap, ◌∙◌, Result, Err}
use Rattle.std.specs.Result.{IsErrAnd}
use Rattle.std.proofs.lemmas.Result.{err_from_is_err_and}
use Rattle.model.specs.declared.Error.{Error}
use Rattle.model.specs.declared.State.{State}
use Rattle.model.specs.Memory.{sound_state}
use Rattle.model.specs.Calls.{After, sound, oriented, checked, reading, back, writing}
use Rattle.memory.specs.Lent.{sound_lent}
use Rattle.model.proofs.Soundness.{Sound, tested_sound}

-- Once the flag is known.

-- a body that only reads
module _ {A : Type 0} (flag : Bool) (call : List ℕ → List ℕ → A) (first second : List ℕ) (r : A) where
  pub read_first : flag ≡ false → r ≡ call first second → r ≡ oriented flag call first second
  unfolding oriented
  read_first f e = rw f e

  pub read_second : flag ≡ true → r ≡ call second first → r ≡ oriented flag call first second
  unfolding oriented
  read_second f e = rw f e

-- a body that leaves the buffers changed: they go back to their places
module _ {A : Type 0} (flag : Bool) (call : List ℕ → List ℕ → After A) (first second : List ℕ) (a : A) (x y e : List ℕ) where
  pub written_first : flag ≡ false → After.after a x y e ≡ call first second
      → After.after a x y e ≡ back flag (oriented flag call first second)
  unfolding oriented back
  written_first f h = rw f h

  pub written_second : flag ≡ true → After.after a x y e ≡ call second first
      → After.after a y x e ≡ back flag (oriented flag call first second)
  unfolding oriented back
  written_second f h = rw (f, ← h)

-- what is made of a body's answer may be made of it on the lent buffers
pub oriented_map : {A B : Type 0} (f : A → B) (flag : Bool) (call : List ℕ → List ℕ → A) (first second : List ℕ)
    → oriented flag (λ current other. f (call current other)) first second ≡ f (oriented flag call first second)
unfolding oriented
oriented_map f false call first second = refl
oriented_map f true call first second = refl

-- After the test on the lent lengths.

-- it is the definitions' test
pub lent_oriented : (s : State) (first second entries : List ℕ)
    → sound_lent (length first) (length second) (length entries) s
    ≡ oriented s.second_is_current (λ current other. sound s current other entries) first second
unfolding sound_lent oriented sound
lent_oriented s first second entries = pick s.second_is_current
  where
    pick : (flag : Bool)
        → sound_state (cond flag (length second) (length first)) (cond flag (length first) (length second)) (length entries) s
        ≡ oriented flag (λ current other. sound_state (length current) (length other) (length entries) s) first second
    pick false = refl
    pick true = refl

module _ {A : Type 0} (s : State) (first second entries : List ℕ) (t : Bool)
    (e : t ≡ sound_lent (length first) (length second) (length entries) s) where
  -- the test decides, whatever the flag
  by_test : (refused call : List ℕ → List ℕ → A)
      → cond t (oriented s.second_is_current call first second) (oriented s.second_is_current refused first second)
      ≡ oriented s.second_is_current (checked s entries refused call) first second
  unfolding sound_lent oriented checked sound
  by_test refused call = pick s.second_is_current e
    where
      pick : (flag : Bool)
          → t ≡ sound_state (cond flag (length second) (length first)) (cond flag (length first) (length second)) (length entries) s
          → cond t (oriented flag call first second) (oriented flag refused first second)
          ≡ oriented flag (checked s entries refused call) first second
      pick false e = rw e
      pick true e = rw e

  module _ (refusal : A) (call : List ℕ → List ℕ → A) where
    pub reading_refused : t ≡ false → refusal ≡ reading s first second entries refusal call
    unfolding reading oriented
    reading_refused h = pick s.second_is_current ∙ (rw h at (by_test (λ current other. refusal) call))
      where
        pick : (flag : Bool) → refusal ≡ oriented flag (λ current other. refusal) first second
        pick false = refl
        pick true = refl

    pub reading_sound : (r : A) → t ≡ true → r ≡ oriented s.second_is_current call first second
        → r ≡ reading s first second entries refusal call
    unfolding reading
    reading_sound r h a = a ∙ (rw h at (by_test (λ current other. refusal) call))

module _ {A : Type 0} (s : State) (first second entries : List ℕ) (t : Bool)
    (e : t ≡ sound_lent (length first) (length second) (length entries) s) (refusal : A) (call : List ℕ → List ℕ → After A) where
  pub writing_refused : t ≡ false → After.after refusal first second entries ≡ writing s first second entries refusal call
  unfolding writing oriented back
  writing_refused h =
      pick s.second_is_current
      ∙ ap (back s.second_is_current)
      (rw h at (by_test s first second entries t e (λ current other. After.after refusal current other entries) call))
    where
      pick : (flag : Bool)
          → After.after refusal first second entries
          ≡ back flag (oriented flag (λ current other. After.after refusal current other entries) first second)
      pick false = refl
      pick true = refl

  pub writing_sound : (r : After A) → t ≡ true
      → r ≡ back s.second_is_current (oriented s.second_is_current call first second)
      → r ≡ writing s first second entries refusal call
  unfolding writing
  writing_sound r h a =
      a
      ∙ ap (back s.second_is_current)
      (rw h at (by_test s first second entries t e (λ current other. After.after refusal current other entries) call))

-- The way on from `require_sound(..)?` in a call that writes, once the flag is known: what was the current buffer's is so again.
module _ {A : Type 0} (s : State) (first second entries : List ℕ)
    (h : sound_lent (length first) (length second) (length entries) s ≡ true)
    (refusal : A) (call : List ℕ → List ℕ → After A) (a : A) (x y e : List ℕ) where
  pub writing_first : s.second_is_current ≡ false → After.after a x y e ≡ call first second
      → After.after a x y e ≡ writing s first second entries refusal call
  writing_first f p =
      writing_sound s first second entries _ refl refusal call _ h
      (written_first s.second_is_current call first second a x y e f p)

  pub writing_second : s.second_is_current ≡ true → After.after a x y e ≡ call second first
      → After.after a y x e ≡ writing s first second entries refusal call
  writing_second f p =
      writing_sound s first second entries _ refl refusal call _ h
      (written_second s.second_is_current call first second a x y e f p)

-- The exit of `require_sound(..)?`: what it answers is what the definition answers to a state that is not sound.
module _ {A : Type 0} (s : State) (first second entries : List ℕ) (r : Result A Error) (x : Error)
    (gives : IsErrAnd r (λ e. e ≡ x))
    (h : (x ≡ Error.BadState) × (sound_lent (length first) (length second) (length entries) s ≡ false)) where
  refusal : r ≡ Err Error.BadState
  refusal = let p = err_from_is_err_and r gives in rw (p.1, p.2, h.0)

  pub reading_bad_state : (call : List ℕ → List ℕ → Result A Error)
      → r ≡ reading s first second entries (Err Error.BadState) call
  reading_bad_state call = refusal ∙ reading_refused s first second entries _ refl (Err Error.BadState) call h.1

  pub writing_bad_state : (call : List ℕ → List ℕ → After (Result A Error))
      → After.after r first second entries ≡ writing s first second entries (Err Error.BadState) call
  writing_bad_state call =
      ap (λ (a : Result A Error). After.after a first second entries) refusal
      ∙ writing_refused s first second entries _ refl (Err Error.BadState) call h.1

-- A call that tests and then orients goes on with the current and the other buffer.
module _ (s : State) (first second current other : List ℕ)
    (c : current ≡ cond s.second_is_current second first) (o : other ≡ cond s.second_is_current first second) where
  oriented_by : {A : Type 0} (call : List ℕ → List ℕ → A) → oriented s.second_is_current call first second ≡ call current other
  unfolding oriented
  oriented_by call = rw (c, o) (pick s.second_is_current)
    where
      pick : (flag : Bool) → oriented flag call first second ≡ call (cond flag second first) (cond flag first second)
      pick false = refl
      pick true = refl

  module _ (entries : List ℕ) (h : sound_lent (length first) (length second) (length entries) s ≡ true) where
    pub sound_oriented : Sound s (length current) (length other) (length entries)
    unfolding sound_lent
    sound_oriented = rw (c, o) (by s.second_is_current h)
      where
        by : (flag : Bool)
            → sound_state (cond flag (length second) (length first)) (cond flag (length first) (length second)) (length entries) s ≡ true
            → Sound s (length (cond flag second first)) (length (cond flag first second)) (length entries)
        by false h = tested_sound s _ _ (length entries) true (sym h) refl
        by true h = tested_sound s _ _ (length entries) true (sym h) refl

    pub reading_oriented : {A : Type 0} (refusal : A) (call : List ℕ → List ℕ → A) (r : A) → r ≡ call current other
        → r ≡ reading s first second entries refusal call
    reading_oriented refusal call r e =
        reading_sound s first second entries _ refl refusal call r h (e ∙ sym (oriented_by call))
