-- SPECIFICATION, "Answers": the number and the values of each answer. A refusal's values are 0, but for the count that
-- comes with 9, and the state that was given comes back; a start takes none, and refused hands back zeros.
use Rattle.std.specs.Prelude.{ℕ, Bool, cond, List, [], ◌∷◌, Result, Ok, Err}
use Rattle.model.specs.declared.State.{State}
use Rattle.model.specs.declared.Error.{Error}
use Rattle.model.specs.declared.ScanError.{ScanError}
use Rattle.model.specs.declared.Unstarted.{Unstarted}

-- the number, the values in the program's order, and what comes back: the store's state, or that of a map or an ideal
pub record Reply (A : Type 0) : Type 0 where
  pub number : ℕ
  pub values : List ℕ
  pub state : A

unfoldable pub reply : {A : Type 0} → ℕ → List ℕ → A → Reply A
reply number values state = record { number = number; values = values; state = state }

unfoldable pub error_number : Error → ℕ
error_number Error.BadState = 1
error_number Error.Damaged = 2
error_number Error.Absent = 3
error_number Error.Present = 4
error_number Error.Full = 5
error_number Error.BadSize = 6
error_number Error.Rehashing = 7
error_number Error.NotRehashing = 8
error_number Error.Changed = 15
error_number Error.NoSafeIterator = 16
error_number Error.TooManyIterators = 17
error_number Error.Paused = 18

-- Each takes the state that the call was given, where it was given one.

unfoldable pub init_reply : Result State Unstarted → Reply State
init_reply (Ok t) = reply 0 [] t
init_reply (Err refused) = reply (error_number refused.error) [] refused.state

-- of a call that answers the state: add, delete, resize, the permission, a safe iterator's begin and end, and a repair
unfoldable pub state_reply : State → Result State Error → Reply State
state_reply s (Ok t) = reply 0 [] t
state_reply s (Err e) = reply (error_number e) [] s

-- of one that answers a number: find, the suggested size, and an iterator's begin
unfoldable pub value_reply : State → Result ℕ Error → Reply State
value_reply s (Ok value) = reply 0 (value ∷ []) s
value_reply s (Err e) = reply (error_number e) (0 ∷ []) s

-- of one that answers nothing more: update, and an iterator's end
unfoldable pub done_reply : State → Result (Unit {0}) Error → Reply State
done_reply s (Ok done) = reply 0 [] s
done_reply s (Err e) = reply (error_number e) [] s

-- how many entries moved, then 1 while the rehash goes on
unfoldable pub step_reply : State → Result (ℕ × State) Error → Reply State
step_reply s (Ok (moved, t)) = reply 0 (moved ∷ cond t.rehashing 1 0 ∷ []) t
step_reply s (Err e) = reply (error_number e) (0 ∷ 0 ∷ []) s

-- A look answers the live table. A live table has a bucket, so an empty look is a refusal.
unfoldable pub table_reply : State → List ℕ → Reply State
table_reply s [] = reply 1 [] s
table_reply s (head ∷ rest) = reply 0 (head ∷ rest) s

-- the next cursor, or an iterator's next place, then the number of keys
unfoldable pub scan_reply : State → Result (ℕ × ℕ) ScanError → Reply State
scan_reply s (Ok (cursor, count)) = reply 0 (cursor ∷ count ∷ []) s
scan_reply s (Err (ScanError.Short count)) = reply 9 (0 ∷ count ∷ []) s
scan_reply s (Err (ScanError.Refused e)) = reply (error_number e) (0 ∷ 0 ∷ []) s

-- 1 for yes, 0 for no
unfoldable pub verify_reply : State → Result Bool Error → Reply State
verify_reply s (Ok undamaged) = reply 0 (cond undamaged 1 0 ∷ []) s
verify_reply s (Err e) = reply (error_number e) (0 ∷ []) s
