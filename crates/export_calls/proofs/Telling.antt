-- From what a plain call answers to its answer in numbers, and from that to what the definitions say of the call.
-- Assumes nothing.
use Prim.Native.Nat.{ℕ}
use mathlib.Core.Path.{◌≡◌, refl, sym, ap, ◌∙◌}
use mathlib.Core.Bool.{Bool, true, false, cond}
use mathlib.Core.List.{List, [], ◌∷◌}
use mir.Val.{bool_byte}
use Rattle.model.specs.declared.State.{State}
use Rattle.model.specs.Answers.{Reply, reply, init_reply, state_reply, value_reply, done_reply, step_reply, scan_reply}
use Rattle.lent_bytes.specs.Exports.{results}
use Rattle.model.specs.Calls.{After}
use Rattle.model.specs.Walk.{AfterScan}
use Rattle.model.specs.Sequences.{world, kept, kept_scan, left}
use Rattle.export_calls.specs.declared.answers.Answer.{Answer}
use Rattle.export_calls.specs.Kinds.{answer_of, InNumbers, Told, told}
use Rattle.std.specs.Prelude.{Result, Ok}
use Rattle.model.specs.declared.Error.{Error}
use Rattle.model.specs.declared.ScanError.{ScanError}

-- all that an answer's numbers come of, opened by one name
unfoldable pub numbering : Unit {0}
unfolding reply init_reply state_reply value_reply done_reply step_reply scan_reply results answer_of
numbering = tt

-- an answer that is known, with its numbers
pub known : {A : Type 0} {a b : A} (f : A → Reply State) (r x : Answer) → a ≡ b → r ≡ x → x ≡ answer_of (f b) → InNumbers r f a
known f r x h k e = record { numbers = k ∙ e ∙ ap (λ a. answer_of (f a)) (sym h) }

-- the code has a flag's number by a cast
cast_flag : (on : Bool) → bool_byte on ≡ cond on 1 0
cast_flag true = refl
cast_flag false = refl

-- a step's second value says whether the rehash goes on
pub step_value : (s : State) (moved : ℕ) (t : State)
    → answer_of (reply 0 (moved ∷ bool_byte t.rehashing ∷ []) t) ≡ answer_of (step_reply s (Ok (moved, t)))
unfolding step_reply
step_value s moved t = ap (λ n. answer_of (reply 0 (moved ∷ n ∷ []) t)) (cast_flag t.rehashing)

-- By what a call leaves: the buffers that it may have written, the buffers as they were, or the list.

module _ (r : Answer) (first second entries : List ℕ) where
  pub left_tells : {A : Type 0} {a : A} (f : A → Reply State) (d : After A) → After.after a first second entries ≡ d
      → InNumbers r f a → Told.tells r first second entries [] ≡ told (left f d)
  unfolding told left
  left_tells f d h t = rw t.numbers (ap (λ d. told (left f d)) h)

  kept_tells : {A : Type 0} {a d : A} (s : State) (f : A → Reply State) → InNumbers r f a → a ≡ d
      → Told.tells r first second entries [] ≡ told (kept (world s first second entries) (f d) [])
  unfolding told kept world
  kept_tells s f t h = rw (t.numbers, h) refl

  module _ (s : State) where
    pub value_tells : {a d : Result ℕ Error} → InNumbers r (value_reply s) a → a ≡ d
        → Told.tells r first second entries [] ≡ told (kept (world s first second entries) (value_reply s d) [])
    value_tells = kept_tells s (value_reply s)

    pub done_tells : {a d : Result (Unit {0}) Error} → InNumbers r (done_reply s) a → a ≡ d
        → Told.tells r first second entries [] ≡ told (kept (world s first second entries) (done_reply s d) [])
    done_tells = kept_tells s (done_reply s)

    pub state_tells : {a d : Result State Error} → InNumbers r (state_reply s) a → a ≡ d
        → Told.tells r first second entries [] ≡ told (kept (world s first second entries) (state_reply s d) [])
    state_tells = kept_tells s (state_reply s)

    pub scan_tells : {a : Result (ℕ × ℕ) ScanError} (list : List ℕ) (d : AfterScan) → AfterScan.after a list ≡ d
        → InNumbers r (scan_reply s) a → Told.tells r first second entries list ≡ told (kept_scan (world s first second entries) d)
    unfolding told kept_scan kept world
    scan_tells list d h t = rw t.numbers (ap (λ d. told (kept_scan (world s first second entries) d)) h)
