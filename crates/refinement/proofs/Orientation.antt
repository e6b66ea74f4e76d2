-- From a call on the current and the other bucket buffer to the world after it.
-- Assumes nothing.
use Prim.Native.Nat.{ℕ}
use mathlib.Core.Path.{◌≡◌, refl, ap, ◌∙◌}
use mathlib.Core.Bool.{Bool, true, false, cond, not}
use mathlib.Core.List.{List, []}
use Rattle.model.specs.declared.State.{State}
use Rattle.model.specs.Answers.{Reply}
use Rattle.model.specs.Calls.{After, sound, oriented, checked, reading, back, writing}
use Rattle.model.specs.Sequences.{World, world, Outcome, kept, left, carry, carried_state}
use Rattle.refinement.specs.Worlds.{current, other}

-- the two buffers back in their places, by the flag
unfoldable pub first_by : Bool → List ℕ → List ℕ → List ℕ
first_by false c o = c
first_by true c o = o

unfoldable pub second_by : Bool → List ℕ → List ℕ → List ℕ
second_by false c o = o
second_by true c o = c

-- a world from its state, its current and other buffer by a flag, and its entries
unfoldable pub world_by : Bool → State → List ℕ → List ℕ → List ℕ → World
world_by flag t c o e = world t (first_by flag c o) (second_by flag c o) e

-- what holds of the current and the other buffer of such a world
module _ (flag : Bool) (t : State) (c o e : List ℕ) (P : List ℕ → List ℕ → Type 0) where
  -- the state's flag is the one by which the buffers lie
  pub as_kept : t.second_is_current ≡ flag → P c o → P (current (world_by flag t c o e)) (other (world_by flag t c o e))
  unfolding current other world_by world oriented first_by second_by
  as_kept h p = rw h (by flag)
    where
      by : (f : Bool)
          → P (oriented f (λ first second. first) (first_by f c o) (second_by f c o))
          (oriented f (λ first second. second) (first_by f c o) (second_by f c o))
      by false = p
      by true = p

  -- it has changed: the buffers change parts
  pub as_turned : t.second_is_current ≡ not flag → P o c → P (current (world_by flag t c o e)) (other (world_by flag t c o e))
  unfolding current other world_by world oriented first_by second_by
  as_turned h p = rw h (by flag)
    where
      by : (f : Bool)
          → P (oriented (not f) (λ first second. first) (first_by f c o) (second_by f c o))
          (oriented (not f) (λ first second. second) (first_by f c o) (second_by f c o))
      by false = p
      by true = p

-- a world by its own current and other buffer
pub world_kept : (w : World)
    → world_by w.state.second_is_current w.state (current w) (other w) w.entries ≡ w
unfolding world_by world current other oriented first_by second_by
world_kept w = by w.state.second_is_current
  where
    by : (f : Bool)
        → world_by f w.state (oriented f (λ first second. first) w.first w.second)
        (oriented f (λ first second. second) w.first w.second) w.entries
        ≡ w
    by false = refl
    by true = refl

-- the test that a call makes of the state that it is given
abbrev pub sound_at : World → Bool
sound_at w = sound w.state (current w) (other w) w.entries

-- what is given the lent buffers by the state's flag is given the current and the other
pub oriented_read : {A : Type 0} (w : World) (call : List ℕ → List ℕ → A)
    → oriented w.state.second_is_current call w.first w.second ≡ call (current w) (other w)
unfolding current other oriented
oriented_read w call = by w.state.second_is_current
  where
    by : (f : Bool)
        → oriented f call w.first w.second
        ≡ call (oriented f (λ first second. first) w.first w.second) (oriented f (λ first second. second) w.first w.second)
    by false = refl
    by true = refl

-- A call that takes a state: refused unless the state is sound, and else its body on the current and the other buffer, ..
pub reads : {A : Type 0} (w : World) (refusal : A) (call : List ℕ → List ℕ → A)
    → reading w.state w.first w.second w.entries refusal call
    ≡ cond (sound_at w) (call (current w) (other w)) refusal
unfolding reading checked
reads w refusal call = oriented_read w (checked w.state w.entries (λ c o. refusal) call)

-- .. whose buffers lie in the lent ones' places after it
unfoldable pub put : {A : Type 0} → World → (A → Reply State) → After A → Outcome
put w reply (After.after a c o e) = kept (world_by w.state.second_is_current w.state c o e) (reply a) []

put_back : {A : Type 0} (w : World) (reply : A → Reply State) (x : After A)
    → left reply (back w.state.second_is_current x) ≡ put w reply x
unfolding left put kept world_by world back first_by second_by
put_back w reply (After.after a c o e) = by w.state.second_is_current
  where
    by : (f : Bool) → left reply (back f (After.after a c o e)) ≡ kept (world_by f w.state c o e) (reply a) []
    by false = refl
    by true = refl

pub writes : {A : Type 0} (w : World) (reply : A → Reply State) (refusal : A) (call : List ℕ → List ℕ → After A)
    → left reply (writing w.state w.first w.second w.entries refusal call)
    ≡ put w reply (cond (sound_at w) (call (current w) (other w)) (After.after refusal (current w) (other w) w.entries))
unfolding writing checked
writes {A} w reply refusal call =
    ap (λ (x : After A). left reply (back w.state.second_is_current x))
    (oriented_read w (checked w.state w.entries (λ c o. After.after refusal c o w.entries) call))
    ∙ put_back w reply _

-- In a sound state.

pub reads_sound : {A : Type 0} (w : World) (refusal : A) (call : List ℕ → List ℕ → A) → sound_at w ≡ true
    → reading w.state w.first w.second w.entries refusal call ≡ call (current w) (other w)
reads_sound w refusal call sound = reads w refusal call ∙ rw sound

-- the outcome of a writing call, and the world carried on after it was answered 0
module _ {A : Type 0} (w : World) (reply : A → Reply State) (refusal : A) (call : List ℕ → List ℕ → After A)
    (sound : sound_at w ≡ true) (a : A) (c o e : List ℕ) (h : call (current w) (other w) ≡ After.after a c o e) where
  outcome : left reply (writing w.state w.first w.second w.entries refusal call)
      ≡ kept (world_by w.state.second_is_current w.state c o e) (reply a) []
  unfolding put
  outcome = writes w reply refusal call ∙ rw (sound, h)

  pub left_reply : (left reply (writing w.state w.first w.second w.entries refusal call)).reply ≡ reply a
  unfolding kept
  left_reply = ap (λ (p : Outcome). p.reply) outcome

  pub left_world : (t : State) → (reply a).number ≡ 0 → (reply a).state ≡ t
      → carry w (left reply (writing w.state w.first w.second w.entries refusal call))
      ≡ world_by w.state.second_is_current t c o e
  unfolding kept carry carried_state world_by world
  left_world t n s = ap (carry w) outcome ∙ rw (n, s)
