-- What the first check has shown, and what the code has read of a state. For the contracts of the code behind the check: nothing
-- here is part of the promise.
use Rattle.std.specs.Prelude.{ℕ, ◌*◌, ◌/◌, ◌≤◌, ◌≡◌, Bool, true, ◌&&◌, cond, leb, eqb, List, length, Option, Some, None}
use Rattle.little_endian.specs.Words.{decode, encode}
use Rattle.model.specs.declared.State.{State}
use Rattle.lent_bytes.specs.Exports.{state_numbers, state_from, state_bytes, answer_bytes, most_bucket_bytes, most_entry_bytes, lengths_fit, flags_fit}

-- a flag as a number: one above 1 is none
unfoldable pub flag_from : ℕ → Option Bool
flag_from n = cond (leb n 1) (Some (eqb n 1)) None

pub record Whole (most bytes : ℕ) : Type 0 where
  pub whole : bytes / 4 * 4 ≡ bytes
  pub few : bytes ≤ most

-- of the lengths; all that a start checks
pub record Lengths (state first second entries list answer : ℕ) : Type 0 where
  pub state_length : state ≡ state_bytes
  pub answer_length : answer ≡ answer_bytes
  pub first_whole : Whole most_bucket_bytes first
  pub second_whole : Whole most_bucket_bytes second
  pub entries_whole : Whole most_entry_bytes entries
  pub list_whole : list / 4 * 4 ≡ list

-- of a state's bytes
pub record StateFits (state : List ℕ) : Type 0 where
  pub has_all_bytes : length state ≡ state_bytes
  pub flags : flags_fit (decode state) ≡ true

pub record Checked (state : List ℕ) (first second entries list answer : ℕ) : Type 0 where
  pub lengths : Lengths (length state) first second entries list answer
  pub fits : StateFits state

-- what the code has read of such a state: the state that the bytes are, whose numbers are those bytes again
pub record StateRead (bytes : List ℕ) (s : State) : Type 0 where
  pub read : s ≡ state_from (decode bytes)
  pub back : bytes ≡ encode (state_numbers s)

-- what it has where no flag is above 1
pub record StateGiven (bytes : List ℕ) (s : State) : Type 0 where
  pub fits : StateFits bytes
  pub read : StateRead bytes s

-- the whole check, passed, and the state that was read
pub record Passed (state : List ℕ) (first second entries list answer : ℕ) (s : State) : Type 0 where
  pub passed : (lengths_fit (length state) first second entries list answer && flags_fit (decode state)) ≡ true
  pub read : StateRead state s
