-- For the contracts of the code that reads and writes numbers: nothing here is part of the promise.
use Rattle.std.specs.Prelude.{ℕ, ◌*◌, ◌/◌, ◌≤◌, ◌≡◌, List, length}
use Rattle.little_endian.specs.Words.{decode, encode}

-- What the code has read: the bytes' numbers, which are those bytes again. So what was read and never written needs no writing.
pub record Decoded (bytes numbers : List ℕ) : Type 0 where
  pub read : numbers ≡ decode bytes
  pub back : bytes ≡ encode numbers

-- a room that has a place for each number of the bytes
pub record Fitting (bytes room : List ℕ) : Type 0 where
  pub whole : length bytes / 4 * 4 ≡ length bytes
  pub few : length bytes / 4 ≤ length room
