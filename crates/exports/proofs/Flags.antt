-- A call that takes a flag as a number: refused above 1, else made with the flag.
-- Assumes nothing.
use Prim.Native.Nat.{ℕ}
use native.Mathlib.Omega.{arith}
use mathlib.Core.Path.{◌≡◌, refl, ◌∙◌}
use mathlib.Core.Bool.{Bool, true, false, cond}
use mathlib.Core.List.{List}
use lib.Dec.{leb, eqb}
use Rattle.std.specs.Prelude.{Option, Some, None}
use Rattle.model.specs.Sequences.{Call}
use Rattle.lent_bytes.specs.Exports.{Lent, Done, cleared, refused, exported_call, exported_flag}
use Rattle.lent_bytes.specs.Checked.{flag_from}

module _ (call : Bool → Call) (on : ℕ) (state first second entries list answer : List ℕ) (flag : Option Bool) where
  pub flag_refused : (r : ℕ) (out : List ℕ) → flag ≡ flag_from on → flag ≡ None → (r ≡ 1) × (out ≡ cleared answer)
      → Done.done r (Lent.lent state first second entries list out)
      ≡ exported_flag call on (Lent.lent state first second entries list answer)
  unfolding exported_flag refused flag_from
  flag_refused r out q h d = by (leb on 1) refl
    where
      by : (t : Bool) → leb on 1 ≡ t
          → Done.done r (Lent.lent state first second entries list out)
          ≡ cond t (exported_call (call (eqb on 1)) (Lent.lent state first second entries list answer))
          (Done.done 1 (Lent.lent state first second entries list (cleared answer)))
      by true e = absurd (grind arith)
      by false e = rw (d.0, d.1) refl

  pub flag_passed : (x : Done) (b : Bool) → flag ≡ flag_from on → flag ≡ Some b
      → x ≡ exported_call (call b) (Lent.lent state first second entries list answer)
      → x ≡ exported_flag call on (Lent.lent state first second entries list answer)
  unfolding exported_flag flag_from
  flag_passed x b q h d = by (leb on 1) refl
    where
      by : (t : Bool) → leb on 1 ≡ t
          → x
          ≡ cond t (exported_call (call (eqb on 1)) (Lent.lent state first second entries list answer))
          (refused (Lent.lent state first second entries list answer))
      by true e = let is : b ≡ eqb on 1 = grind arith in d ∙ rw is refl
      by false e = absurd (grind arith)
