-- What lines above the program's limit are answered: `N` 6, and `R` what any size that is none is answered, 1, 7 or 6 in this
-- order. They leave the world and the list.
-- Assumes nothing.
use Prim.Native.Nat.{ℕ, ◌≤◌, ◌<◌}
use mathlib.Core.Path.{◌≡◌, refl, sym, ap, ◌∙◌}
use mathlib.Core.Bool.{Bool, true, false, ◌&&◌, cond, and-false}
use mathlib.Core.Logic.{◌⊎◌, inl, inr}
use mathlib.Core.List.{List, []}
use native.Mathlib.Omega.{arith}
use borrow.Author.Tests.{le-leb, lt-leb}
use Rattle.model.specs.Limits.{legal_capacity, legal_size, largest_exponent}
use Rattle.model.specs.declared.Error.{Error}
use Rattle.model.specs.Calls.{After, sound, oriented, checked, writing, back, init, resize, resized, acceptable}
use Rattle.model.specs.Answers.{reply, init_reply, state_reply, error_number}
use Rattle.model.specs.Sequences.{World, world, Call, Outcome, perform, given, left, carry, carried_state}
use Rattle.model.proofs.Power.{legal_pos}
use Rattle.script.specs.declared.line.Command.{Command}
use Rattle.script.specs.Answers.{answer_line}
use Rattle.script.specs.Program.{Ran, program_limit, limited, answered, called, run_command}
use Rattle.std.specs.Prelude.{Err}

-- up to the limit the store is asked for the number itself
pub limited_within : (n : ℕ) → n ≤ program_limit → n ≡ limited n
unfolding limited
limited_within n h = rw (le-leb n program_limit h)

pub limited_beyond : (n : ℕ) → program_limit < n → 0 ≡ limited n
unfolding limited
limited_beyond n h = rw (lt-leb n program_limit h)

-- 0 is neither

no_capacity : legal_capacity 0 ≡ false
unfolding legal_capacity
no_capacity = refl

no_size : legal_size 0 ≡ false
unfolding legal_size
no_size = by (legal_size 0) refl
  where
    by : (t : Bool) → legal_size 0 ≡ t → t ≡ false
    by false e = refl
    by true e = absurd (omega (arith, legal_pos largest_exponent 0 e))

-- a line that is answered with a number, and leaves all there is
unfoldable pub refusing : World → List ℕ → ℕ → Ran
refusing w lent number = record { written = answer_line number []; world = w; lent = lent }

module _ (w : World) (lent : List ℕ) where
  init_refused : (capacity size : ℕ) → (legal_capacity capacity && legal_size size) ≡ false
      → called w lent (Call.init capacity size) ≡ refusing w lent 6
  unfolding called answered refusing perform left init init_reply reply error_number carry carried_state world answer_line
  init_refused capacity size e = rw e

  pub init_beyond : (capacity size : ℕ) → (program_limit < capacity) ⊎ (program_limit < size)
      → run_command w lent (Command.Init capacity size) ≡ refusing w lent 6
  unfolding run_command
  init_beyond capacity size (inl h) =
      init_refused (limited capacity) (limited size) (rw (← limited_beyond capacity h, no_capacity))
  init_beyond capacity size (inr h) =
      init_refused (limited capacity) (limited size) (rw (← limited_beyond size h, no_size, and-false))

  -- 1 if the state is not sound, else 7 during a rehash, else 6

  resize_number_by : (turned rehashing : Bool) → ℕ
  resize_number_by turned rehashing =
      cond (oriented turned (λ current other. sound w.state current other w.entries) w.first w.second)
      (cond rehashing 7 6)
      1

  pub resize_number : ℕ
  resize_number = resize_number_by w.state.second_is_current w.state.rehashing

  -- the size 0, by the state's flags
  resized_by : (turned rehashing : Bool) → Outcome
  resized_by turned rehashing =
      left (state_reply w.state)
      (back turned
      (oriented turned
      (checked w.state w.entries (λ current other. After.after (Err Error.BadState) current other w.entries)
      (λ current other. resized w.state current other w.entries 0 rehashing))
      w.first w.second))

  tested : (turned sound rehashing : Bool)
      → answered w
      (left (state_reply w.state)
      (back turned
      (oriented turned
      (λ current other.
      cond sound (resized w.state current other w.entries 0 rehashing)
      (After.after (Err Error.BadState) current other w.entries))
      w.first w.second)))
      [] lent
      ≡ refusing w lent (cond sound (cond rehashing 7 6) 1)
  unfolding answered refusing left back oriented resized acceptable state_reply reply error_number carry carried_state world answer_line
  tested false false rehashing = refl
  tested true false rehashing = refl
  tested false true true = refl
  tested true true true = refl
  tested false true false = rw no_size
  tested true true false = rw no_size

  resized_none : (turned rehashing : Bool)
      → answered w (resized_by turned rehashing) [] lent ≡ refusing w lent (resize_number_by turned rehashing)
  unfolding resize_number_by resized_by oriented checked
  resized_none false rehashing = tested false (sound w.state w.first w.second w.entries) rehashing
  resized_none true rehashing = tested true (sound w.state w.second w.first w.entries) rehashing

  pub resize_beyond : (size : ℕ) → program_limit < size
      → run_command w lent (Command.Resize size) ≡ refusing w lent resize_number
  unfolding run_command called perform given resize writing resized_by resize_number
  resize_beyond size h =
      ap (λ (n : ℕ). called w lent (Call.resize n)) (sym (limited_beyond size h))
      ∙ resized_none w.state.second_is_current w.state.rehashing
