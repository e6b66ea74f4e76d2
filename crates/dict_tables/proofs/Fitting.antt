-- What a joint test tells of one buffer: it is long enough.
-- Assumes nothing.
use Prim.Native.Nat.{ℕ, ◌≤◌}
use mathlib.Core.Path.{◌≡◌}
use mathlib.Core.Bool.{Bool, true, ◌&&◌}
use lib.Dec.{leb}
use Rattle.model.proofs.Tests.{told, tells_true, tells_and, tells_le}

module _ (n buffer : ℕ) (rest : Bool) where
  -- the first part of the test
  pub fits_first : (leb n buffer && rest) ≡ true → n ≤ buffer
  fits_first h = (told (tells_and (tells_le n buffer) (tells_true rest)) h).0

  -- the last part of it
  pub fits_last : (rest && leb n buffer) ≡ true → n ≤ buffer
  fits_last h = (told (tells_and (tells_true rest) (tells_le n buffer)) h).1
