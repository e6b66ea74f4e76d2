-- Every answer has room in a line's buffer.
-- Assumes nothing.
use Prim.Native.Nat.{ℕ, zero, suc, ◌+◌, ◌*◌, ◌≤◌}
use mathlib.Core.Path.{◌≡◌, refl, sym, subst}
use mathlib.Core.List.{List, [], ◌∷◌, ◌++◌}
use native.Mathlib.Omega.{arith}
use lib.ListN.{length, take, length-append, length-take}
use lib.Seq.{length-take-le}
use Rattle.std.proofs.Common.{Result, Ok, Err}
use Rattle.script.specs.Numbers.{decimal, digits, most_digits}
use Rattle.script.specs.Lines.{space, line_feed}
use Rattle.script.specs.Answers.{spaced, answer_line, Wrote}
use Rattle.script_run.specs.declared.answer.Refusal.{Refusal}
use Rattle.script_run.specs.declared.answer.Values.{Values}
use Rattle.script_run.specs.Answers.{pair_room, line_room, values_of, handed, refusal_number, done_line, line_of, Fits, Room, Written}
use Rattle.script.proofs.Digits.{decimal_few}

spaced_few : (values : List ℕ) → length (spaced values) ≤ length values * 11
unfolding spaced
spaced_few [] = omega arith
spaced_few (value ∷ values) =
    omega (arith, length-append (space ∷ decimal value) (spaced values), decimal_few value, spaced_few values)

-- 0 has one digit
decimal_zero : length (decimal 0) ≡ 1
unfolding decimal most_digits digits
decimal_zero = refl

line_few : (number : ℕ) (values : List ℕ) → length values ≤ 2 + pair_room → length (answer_line number values) ≤ line_room
unfolding answer_line
line_few zero values h =
    omega (
      arith,
      length-append (decimal 0 ++ spaced values) (line_feed ∷ []),
      length-append (decimal 0) (spaced values),
      decimal_zero,
      spaced_few values,
    )
line_few (suc number) values h =
    omega (arith, length-append (decimal (suc number)) (line_feed ∷ []), decimal_few (suc number))

written : (number : ℕ) (values before out : List ℕ) (n : ℕ) → length values ≤ 2 + pair_room
    → Wrote before 0 (answer_line number values) out n → Written (answer_line number values) before out n
written number values before out n h w =
    record { wrote = w; short = omega (arith, w.behind, line_few number values h) }

two_values : (v : Values) → length (values_of v) ≤ 2
unfolding values_of
two_values Values.None = omega arith
two_values (Values.One a) = omega arith
two_values (Values.Two a b) = omega arith
two_values (Values.Walk next count) = omega arith

-- 0 and the values that are known

module _ (out lent : List ℕ) (values v : Values) (room : Room out lent values) (known : values ≡ v) where
  few : length (values_of v ++ take (handed v) lent) ≤ 2 + pair_room
  few =
      omega (
        arith,
        room.pairs,
        two_values v,
        length-append (values_of v) (take (handed v) lent),
        length-take (handed v) lent,
      )

  module _ (l : List ℕ) (e : l ≡ values_of v ++ take (handed v) lent) where
    pub values_room : length (answer_line 0 l) ≤ length out
    values_room = rw e (omega (arith, room.line, line_few 0 (values_of v ++ take (handed v) lent) few))

    pub values_written : (before after : List ℕ) (n : ℕ) → Wrote before 0 (answer_line 0 l) after n
        → Written (done_line values lent) before after n
    unfolding done_line
    values_written before after n w =
        rw known (written 0 (values_of v ++ take (handed v) lent) before after n few (rw e at w))

module _ (out lent : List ℕ) (values : Values) (next count : ℕ) (room : Room out lent values) (known : values ≡ Values.Walk next count) where
  pub pairs_fit : count * 2 ≤ length lent
  unfolding handed
  pairs_fit = subst (λ (v : Values). handed v ≤ length lent) known room.fits

  pub pairs_taken : count * 2 ≡ length (take (count * 2) lent)
  pairs_taken = sym (length-take-le (count * 2) lent pairs_fit)

-- An answer that is known.

module _ (out lent : List ℕ) (answer : Result Values Refusal) (line : line_room ≤ length out) where
  module _ (values : Values) (done : answer ≡ Ok values) where
    pub done_room : length lent ≤ pair_room → Fits answer lent → Room out lent values
    unfolding Fits
    done_room pairs fits =
        record { line = line; pairs = pairs; fits = subst (λ (a : Result Values Refusal). Fits a lent) done fits }

    pub done_written : (after : List ℕ) (n : ℕ) → Written (done_line values lent) out after n → Written (line_of answer lent) out after n
    unfolding line_of
    done_written after n w = rw done w

  module _ (refusal : Refusal) (refused : answer ≡ Err refusal) (number : ℕ) (e : number ≡ refusal_number refusal) where
    pub number_room : length (answer_line number []) ≤ length out
    number_room = omega (arith, line, line_few number [] (omega arith))

    pub number_written : (after : List ℕ) (n : ℕ) → Wrote out 0 (answer_line number []) after n → Written (line_of answer lent) out after n
    unfolding line_of
    number_written after n w = rw (refused, ← e) (written number [] out after n (omega arith) w)
