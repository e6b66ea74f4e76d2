-- A whole line of an answer from the parts that are written.
-- Assumes nothing.
use Prim.Native.Nat.{ℕ, zero, suc, ◌+◌, ◌≤◌}
use mathlib.Core.Path.{◌≡◌, refl, sym, ap, ◌∙◌}
use mathlib.Core.List.{List, [], ◌∷◌, ◌++◌, append_assoc, append-nil}
use native.Mathlib.Omega.{arith}
use lib.ListN.{length, length-append}
use Rattle.script.specs.Numbers.{decimal}
use Rattle.script.specs.Lines.{space, line_feed}
use Rattle.script.specs.Answers.{spaced, answer_line, Wrote}
use Rattle.script.proofs.Writing.{wrote_then, room_then}

pub number_line : (number : ℕ) → answer_line number [] ≡ decimal number ++ 10 ∷ []
unfolding answer_line spaced line_feed
number_line zero = ap (λ (l : List ℕ). l ++ 10 ∷ []) (append-nil (decimal 0))
number_line (suc number) = refl

module _ (out : List ℕ) (number : ℕ) where
  module _ (room : length (answer_line number []) ≤ length out) where
    pub number_line_room : 0 + length (decimal number) ≤ length out
    number_line_room = omega (arith, ap length (number_line number), length-append (decimal number) (10 ∷ []))

    pub number_line_end : (mid : List ℕ) (end : ℕ) → Wrote out 0 (decimal number) mid end → end + 1 ≤ length mid
    number_line_end mid end w =
        room_then out 0 (decimal number) (10 ∷ []) mid end (omega (arith, ap length (number_line number))) w

  -- what is behind the line's reference is what is behind the buffer's
  pub number_line_wrote : (mid after left : List ℕ) (end next : ℕ) → Wrote out 0 (decimal number) mid end
      → Wrote mid end (10 ∷ []) after next → left ≡ after → Wrote out 0 (answer_line number []) left next
  number_line_wrote mid after left end next v w e =
      rw (number_line number, e) (wrote_then out 0 (decimal number) (10 ∷ []) mid after end next v w)

-- values in two parts

spaced_both : (values more : List ℕ) → spaced (values ++ more) ≡ spaced values ++ spaced more
unfolding spaced
spaced_both [] more = refl
spaced_both (value ∷ values) more =
    ap (λ (l : List ℕ). space ∷ decimal value ++ l) (spaced_both values more)
    ∙ sym (append_assoc (space ∷ decimal value) (spaced values) (spaced more))

result_line : (values more : List ℕ) → answer_line 0 (values ++ more) ≡ decimal 0 ++ spaced values ++ spaced more ++ 10 ∷ []
unfolding answer_line line_feed
result_line values more =
    ap (λ (l : List ℕ). decimal 0 ++ l ++ 10 ∷ []) (spaced_both values more)
    ∙ ap (λ (l : List ℕ). l ++ 10 ∷ []) (sym (append_assoc (decimal 0) (spaced values) (spaced more)))

module _ (out values more : List ℕ) (room : length (answer_line 0 (values ++ more)) ≤ length out) where
  spans : 0 + length (decimal 0 ++ spaced values ++ spaced more ++ 10 ∷ []) ≤ length out
  spans = omega (arith, ap length (result_line values more))

  reach : length (decimal 0 ++ spaced values ++ spaced more ++ 10 ∷ [])
      ≡ length (decimal 0) + length (spaced values) + length (spaced more) + 1
  reach = simp length-append

  pub result_room : 0 + length (decimal 0) ≤ length out
  result_room = omega (arith, spans, reach)

  module _ (a : List ℕ) (m : ℕ) (u : Wrote out 0 (decimal 0) a m) where
    pub values_room : m + length (spaced values) ≤ length a
    values_room = room_then out 0 (decimal 0) (spaced values) a m (omega (arith, spans, reach, length-append (decimal 0) (spaced values))) u

    module _ (b : List ℕ) (n : ℕ) (v : Wrote a m (spaced values) b n) where
      both : Wrote out 0 (decimal 0 ++ spaced values) b n
      both = wrote_then out 0 (decimal 0) (spaced values) a b m n u v

      pub more_room : n + length (spaced more) ≤ length b
      more_room =
          room_then out 0 (decimal 0 ++ spaced values) (spaced more) b n
          (omega (arith, spans, length-append (decimal 0 ++ spaced values ++ spaced more) (10 ∷ [])))
          both

      module _ (c : List ℕ) (k : ℕ) (w : Wrote b n (spaced more) c k) where
        all : Wrote out 0 (decimal 0 ++ spaced values ++ spaced more) c k
        all = wrote_then out 0 (decimal 0 ++ spaced values) (spaced more) b c n k both w

        pub end_room : k + 1 ≤ length c
        end_room = room_then out 0 (decimal 0 ++ spaced values ++ spaced more) (10 ∷ []) c k spans all

        pub result_wrote : (after left : List ℕ) (next : ℕ) → Wrote c k (10 ∷ []) after next → left ≡ after
            → Wrote out 0 (answer_line 0 (values ++ more)) left next
        result_wrote after left next x e =
            rw (result_line values more, e)
            (wrote_then out 0 (decimal 0 ++ spaced values ++ spaced more) (10 ∷ []) c after k next all x)
