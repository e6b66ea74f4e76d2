-- Add and delete as a step and the call alone, and no growth behind it: what the two come to, in any world.
-- Assumes nothing.
use Prim.Native.Nat.{ℕ, suc}
use mathlib.Core.Path.{◌≡◌, refl, sym, ap, subst, ◌∙◌}
use mathlib.Core.Bool.{Bool, true, false, ◌&&◌, cond}
use mathlib.Core.List.{List, []}
use native.Mathlib.Omega.{arith}
use Rattle.model.specs.declared.State.{State}
use Rattle.model.specs.declared.Error.{Error}
use Rattle.model.specs.Answers.{Reply, reply, error_number, state_reply, step_reply}
use Rattle.model.specs.Calls.{After, unless_refused, step_due, step_first, is_added, is_deleted}
use Rattle.model.specs.Calls as calls
use Rattle.model.specs.Sequences.{World, world, KeyCall, Call, Outcome, kept, left, given, perform, carried_state, carry}
use Rattle.model.proofs.StepFirst.{resting_first, stepping_first}
use Rattle.refinement.specs.Worlds.{takes_step}
use Rattle.std.specs.Prelude.{Result, Ok, Err}

-- a call on a key with no step
unfoldable pub alone : World → ℕ → KeyCall → Outcome
alone w key KeyCall.find = perform w (Call.on key KeyCall.find)
alone w key (KeyCall.update value) = perform w (Call.on key (KeyCall.update value))
alone w key (KeyCall.add value) = left (state_reply w.state) (given w calls.add_alone key value)
alone w key KeyCall.delete = left (state_reply w.state) (given w calls.delete_alone key)

-- a call on a key with its step, before any growth
unfoldable pub before_growth : World → ℕ → KeyCall → Outcome
before_growth w key KeyCall.find = perform w (Call.on key KeyCall.find)
before_growth w key (KeyCall.update value) = perform w (Call.on key (KeyCall.update value))
before_growth w key (KeyCall.add value) = left (state_reply w.state) (given w calls.add_after_step key value)
before_growth w key KeyCall.delete = perform w (Call.on key KeyCall.delete)

-- What a call comes to that takes a step first: the step refused, or the call on what it left, with all as it was; or both
-- answered.
pub data Rides (w : World) (step : Outcome) (then : World → Outcome) (o : Outcome) : Type 0 where
  step_refused : (n : ℕ) → step.reply.number ≡ suc n → o ≡ kept w (reply (suc n) [] w.state) [] → Rides w step then o
  call_refused : step.reply.number ≡ 0 → (n : ℕ) → (then (carry w step)).reply.number ≡ suc n
      → o ≡ kept w (reply (suc n) [] w.state) [] → Rides w step then o
  answered : step.reply.number ≡ 0 → (then (carry w step)).reply.number ≡ 0 → o ≡ then (carry w step) → Rides w step then o

-- an error has a number
pub some_number : (e : Error) → (n : ℕ) × (error_number e ≡ suc n)
unfolding error_number
some_number Error.BadState = (0, refl)
some_number Error.Damaged = (1, refl)
some_number Error.Absent = (2, refl)
some_number Error.Present = (3, refl)
some_number Error.Full = (4, refl)
some_number Error.BadSize = (5, refl)
some_number Error.Rehashing = (6, refl)
some_number Error.NotRehashing = (7, refl)
some_number Error.Changed = (14, refl)
some_number Error.NoSafeIterator = (15, refl)
some_number Error.TooManyIterators = (16, refl)
some_number Error.Paused = (17, refl)

-- an answer that refuses gives back the state that it was given, and one that does not gives its own
data Kind {A : Type 0} (done : A → Bool) (replies : State → A → Reply State) (a : A) : Type 0 where
  refusal : done a ≡ false → (n : ℕ) → ((s : State) → replies s a ≡ reply (suc n) [] s) → Kind done replies a
  answer : done a ≡ true → (t : State) → ((s : State) → replies s a ≡ reply 0 [] t) → Kind done replies a

module _ {A : Type 0} (refused : Error → A) (done : A → Bool) (replies : State → A → Reply State)
    (refuses : (s : State) (e : Error) → replies s (refused e) ≡ reply (error_number e) [] s)
    (kind : (a : A) → Kind done replies a) (call : State → List ℕ → List ℕ → List ℕ → After A) (w : World) where
  abbrev then : World → Outcome
  then v = left (replies v.state) (given v call)

  -- once the step is answered
  on_world : (count : ℕ) (t : State) (x y z : List ℕ) (a : After A) → call t x y z ≡ a
      → Rides w (left (step_reply w.state) (After.after (Ok (count, t)) x y z)) then
      (left (replies w.state) (unless_refused done w.first w.second w.entries a))
  unfolding left kept step_reply reply unless_refused carry carried_state world given
  on_world count t x y z (After.after b x' y' z') is = by (kind b)
    where
      outcome : Reply State → List ℕ → List ℕ → List ℕ → Outcome
      outcome r first second entries = record { reply = r; first = first; second = second; entries = entries; lent = [] }

      chosen : (d : Bool) → done b ≡ d
          → left (replies w.state)
          (cond (done b) (After.after b x' y' z') (After.after b w.first w.second w.entries))
          ≡ left (replies w.state) (cond d (After.after b x' y' z') (After.after b w.first w.second w.entries))
      chosen d e =
          ap (λ (f : Bool). left (replies w.state) (cond f (After.after b x' y' z') (After.after b w.first w.second w.entries))) e

      answers : left (replies t) (call t x y z) ≡ outcome (replies t b) x' y' z'
      answers = ap (left (replies t)) is

      by : Kind done replies b
          → Rides w (left (step_reply w.state) (After.after (Ok (count, t)) x y z)) then
          (left (replies w.state) (cond (done b) (After.after b x' y' z') (After.after b w.first w.second w.entries)))
      by (Kind.refusal d n r) =
          Rides.call_refused refl n (ap (λ (o : Outcome). o.reply.number) answers ∙ ap (λ (q : Reply State). q.number) (r t))
          (chosen false d ∙ ap (λ (q : Reply State). outcome q w.first w.second w.entries) (r w.state))
      by (Kind.answer d u r) =
          Rides.answered refl (ap (λ (o : Outcome). o.reply.number) answers ∙ ap (λ (q : Reply State). q.number) (r t))
          (chosen true d
          ∙ ap (λ (q : Reply State). outcome q x' y' z') (r w.state ∙ sym (r t))
          ∙ sym answers)

  rides_by : (a : After (Result (ℕ × State) Error))
      → Rides w (left (step_reply w.state) a) then
      (left (replies w.state) (calls.call_after refused done call w.first w.second w.entries a))
  unfolding left kept step_reply reply calls.call_after
  rides_by (After.after (Err e) x y z) =
      let (n, is) = some_number e in
      Rides.step_refused n is
      (ap (λ (r : Reply State). kept w r []) (refuses w.state e ∙ ap (λ (m : ℕ). reply m [] w.state) is))
  rides_by (After.after (Ok (count, t)) x y z) = on_world count t x y z (call t x y z) refl

  rides : step_due w.state ≡ true
      → Rides w (perform w Call.rehash_step) then (left (replies w.state) (given w (step_first refused done call)))
  unfolding perform given
  rides e =
      subst (λ (a : After A). Rides w (perform w Call.rehash_step) then (left (replies w.state) a))
      (stepping_first refused done call w.state w.first w.second w.entries e) (rides_by (given w calls.rehash_step))

  rests : step_due w.state ≡ false → given w (step_first refused done call) ≡ given w call
  unfolding given
  rests e = sym (resting_first refused done call w.state w.first w.second w.entries e)

-- for add and delete

added_kind : (a : Result State Error) → Kind is_added state_reply a
unfolding is_added state_reply reply
added_kind (Ok t) = Kind.answer refl t (λ s. refl)
added_kind (Err e) =
    let (n, is) = some_number e in Kind.refusal refl n (λ s. ap (λ (m : ℕ). reply m [] s) is)

deleted_kind : (a : Result State Error) → Kind is_deleted state_reply a
unfolding is_deleted state_reply reply
deleted_kind (Ok t) = Kind.answer refl t (λ s. refl)
deleted_kind (Err e) =
    let (n, is) = some_number e in Kind.refusal refl n (λ s. ap (λ (m : ℕ). reply m [] s) is)

module _ (w : World) (key : ℕ) where
  abbrev adds : ℕ → State → List ℕ → List ℕ → List ℕ → After (Result State Error)
  adds value s first second entries = calls.add_alone s first second entries key value

  abbrev deletes : State → List ℕ → List ℕ → List ℕ → After (Result State Error)
  deletes s first second entries = calls.delete_alone s first second entries key

  pub on_rides : (c : KeyCall) → takes_step c ≡ true → step_due w.state ≡ true
      → Rides w (perform w Call.rehash_step) (λ v. alone v key c) (before_growth w key c)
  unfolding takes_step alone before_growth perform given calls.add_after_step calls.delete state_reply reply
  on_rides KeyCall.find t e = let z : ◌≡◌ {A = ℕ} 0 1 = cc in absurd (omega arith)
  on_rides (KeyCall.update value) t e = let z : ◌≡◌ {A = ℕ} 0 1 = cc in absurd (omega arith)
  on_rides (KeyCall.add value) t e =
      rides Err is_added state_reply (λ s error. refl) added_kind (adds value) w e
  on_rides KeyCall.delete t e =
      rides Err is_deleted state_reply (λ s error. refl) deleted_kind deletes w e

  -- and else it is the call alone
  pub on_alone : (c : KeyCall) → (takes_step c && step_due w.state) ≡ false → before_growth w key c ≡ alone w key c
  unfolding takes_step alone before_growth perform given calls.add_after_step calls.delete state_reply reply
  on_alone KeyCall.find e = refl
  on_alone (KeyCall.update value) e = refl
  on_alone (KeyCall.add value) e =
      ap (left (state_reply w.state)) (rests Err is_added state_reply (λ s error. refl) added_kind (adds value) w e)
  on_alone KeyCall.delete e =
      ap (left (state_reply w.state))
      (rests Err is_deleted state_reply (λ s error. refl) deleted_kind deletes w e)
