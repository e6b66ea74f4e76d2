-- The bytes of a script that was read are the front of the buffer.
-- Assumes nothing.
use Prim.Native.Nat.{ℕ, ◌≤◌}
use mathlib.Core.Path.{◌≡◌, subst}
use mathlib.Core.List.{List}
use lib.ListN.{length, take}
use Rattle.std.proofs.Common.{Result, Ok}
use Rattle.std.specs.Prelude.{IfOk}
use Rattle.script_main.proofs.Writing.{front_counted}

-- what came of reading is a number of bytes
pub bytes_counted : {E : Type 0} (input : Result ℕ E) (n : ℕ) (text : List ℕ) → IfOk input (λ m. m ≤ length text) → input ≡ Ok n
    → n ≡ length (take n text)
bytes_counted {E} input n text within known =
    front_counted n text (subst (λ (i : Result ℕ E). IfOk i (λ m. m ≤ length text)) known within)
