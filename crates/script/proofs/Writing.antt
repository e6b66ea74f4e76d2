-- Bytes into a buffer, one part after another.
-- Assumes nothing.
use Prim.Native.Nat.{ℕ, suc, ◌+◌, ◌/◌, ◌%◌, ◌^◌, ◌<◌, ◌≤◌}
use mathlib.Core.Path.{◌≡◌, refl, sym, ap, ◌∙◌}
use mathlib.Core.List.{List, [], ◌∷◌, ◌++◌}
use native.Mathlib.Nat.{add-zero, add-suc, suc-add}
use native.Mathlib.Numerals.{add-one}
use native.Mathlib.Omega.{arith}
use lib.ListN.{length, get_or, set, drop, length-set, length-append, drop_of_length-le}
use lib.Seq.{drop-cons}
use Rattle.script.specs.declared.answer.Line.{Line}
use Rattle.script.specs.Numbers.{decimal}
use Rattle.script.specs.Lines.{space}
use Rattle.script.specs.Answers.{spaced, put, Wrote}
use borrow.Author.Tests.{le-leb, lt-leb}
use Rattle.script.proofs.Digits.{before_last, before_last_more, decimal_ends}

put_then : (out : List ℕ) (at : ℕ) (xs ys : List ℕ) → put out at (xs ++ ys) ≡ put (put out at xs) (at + length xs) ys
unfolding put
put_then out at [] ys = rw (add-zero at)
put_then out at (x ∷ xs) ys =
    put_then (set out at x) (suc at) xs ys
    ∙ ap (λ (n : ℕ). put (put (set out at x) (suc at) xs) n ys) (suc-add at (length xs) ∙ sym (add-suc at (length xs)))

put_length : (out : List ℕ) (at : ℕ) (xs : List ℕ) → length (put out at xs) ≡ length out
unfolding put
put_length out at [] = refl
put_length out at (x ∷ xs) = put_length (set out at x) (suc at) xs ∙ length-set out at x

pub wrote_length : (a : List ℕ) (at : ℕ) (xs b : List ℕ) (m : ℕ) → Wrote a at xs b m → length b ≡ length a
wrote_length a at xs b m w = ap length w.buffer ∙ put_length a at xs

-- one byte
pub wrote_byte : (out : List ℕ) (at b : ℕ) → Wrote out at (b ∷ []) (set out at b) (at + 1)
unfolding put
wrote_byte out at b = record { behind = refl; buffer = refl }

pub wrote_then : (a : List ℕ) (at : ℕ) (xs ys b c : List ℕ) (m n : ℕ) → Wrote a at xs b m → Wrote b m ys c n → Wrote a at (xs ++ ys) c n
wrote_then a at xs ys b c m n v w =
    record {
      behind = omega (arith, v.behind, w.behind, length-append xs ys);
      buffer =
          w.buffer
          ∙ ap (λ (k : ℕ). put b k ys) v.behind
          ∙ ap (λ (l : List ℕ). put l (at + length xs) ys) v.buffer
          ∙ sym (put_then a at xs ys);
    }

-- room for two parts is room for the second, once the first is written
pub room_then : (a : List ℕ) (at : ℕ) (xs ys b : List ℕ) (m : ℕ) → at + length (xs ++ ys) ≤ length a → Wrote a at xs b m
    → m + length ys ≤ length b
room_then a at xs ys b m h w = omega (arith, w.behind, wrote_length a at xs b m w, length-append xs ys)

-- A number: the digits of its tenth, if it has any, and then the last.

-- the line is at the digits before the last
module _ (out : List ℕ) (at n : ℕ) (l : Line) where
  pub front_more : (m : Line) → l ≡ m → 10 ≤ n → Wrote out at (decimal (n / 10)) m.out.now m.written
      → Wrote out at (before_last n) l.out.now l.written
  unfolding before_last
  front_more m e more w = rw (le-leb 10 n more, e) w

pub front_none : (l m : Line) (n : ℕ) → l ≡ m → n < 10 → Wrote m.out.now m.written (before_last n) l.out.now l.written
unfolding before_last put
front_none l m n e last = rw (lt-leb 10 n last, e) (record { behind = omega arith; buffer = refl })

module _ (out : List ℕ) (at n : ℕ) (room : at + length (decimal n) ≤ length out) (fits : n < 2 ^ 32) where
  number_spans : length (decimal n) ≡ length (before_last n) + 1
  number_spans = ap length (decimal_ends n fits) ∙ length-append (before_last n) ((48 + n % 10) ∷ [])

  pub tenth_room : 10 ≤ n → at + length (decimal (n / 10)) ≤ length out
  tenth_room more = omega (arith, number_spans, ap length (before_last_more n more))

  module _ (mid : List ℕ) (next : ℕ) (w : Wrote out at (before_last n) mid next) where
    pub last_room : next + 1 ≤ length mid
    last_room = omega (arith, number_spans, w.behind, wrote_length out at (before_last n) mid next w)

    pub number_wrote : (after : List ℕ) (behind : ℕ) → Wrote mid next ((48 + n % 10) ∷ []) after behind → Wrote out at (decimal n) after behind
    number_wrote after behind v =
        rw (decimal_ends n fits) (wrote_then out at (before_last n) ((48 + n % 10) ∷ []) mid after next behind w v)

-- Values, one a turn: those from here, put in from here, come to all of them put in from the start.

pub record Writing (start : List ℕ) (at : ℕ) (values out : List ℕ) (next i : ℕ) : Type 0 where
  pub within : i ≤ length values
  pub kept : length out ≡ length start
  pub reach : next + length (spaced (drop i values)) ≡ at + length (spaced values)
  pub whole : put out next (spaced (drop i values)) ≡ put start at (spaced values)

pub values_start : (out : List ℕ) (at : ℕ) (values : List ℕ) → Writing out at values out at 0
values_start out at values = record { within = omega arith; kept = refl; reach = refl; whole = refl }

module _ (start : List ℕ) (at : ℕ) (values out : List ℕ) (next i : ℕ) (h : Writing start at values out next i) where
  module _ (more : i < length values) where
    here : spaced (drop i values) ≡ space ∷ decimal (get_or values i 0) ++ spaced (drop (i + 1) values)
    unfolding spaced
    here = rw (add-one i) (ap spaced (drop-cons values i 0 more))

    spans : length (spaced (drop i values)) ≡ suc (length (decimal (get_or values i 0))) + length (spaced (drop (i + 1) values))
    spans = ap length here ∙ length-append (space ∷ decimal (get_or values i 0)) (spaced (drop (i + 1) values))

    pub value_room : at + length (spaced values) ≤ length start → next + length (space ∷ decimal (get_or values i 0)) ≤ length out
    value_room r =
        let k = h.kept in
        let e = h.reach in
        omega (arith, spans)

    module _ (room : at + length (spaced values) ≤ length start) where
      pub space_room : next + 1 ≤ length out
      space_room = omega (arith, value_room room)

      pub digits_room : (mid : List ℕ) (digits : ℕ) → Wrote out next (32 ∷ []) mid digits
          → digits + length (decimal (get_or values i 0)) ≤ length mid
      digits_room mid digits w = room_then out next (32 ∷ []) (decimal (get_or values i 0)) mid digits (value_room room) w

    pub values_next : (mid after : List ℕ) (digits behind : ℕ) → Wrote out next (32 ∷ []) mid digits
        → Wrote mid digits (decimal (get_or values i 0)) after behind → Writing start at values after behind (i + 1)
    unfolding space
    values_next mid after digits behind v u =
        let w = wrote_then out next (32 ∷ []) (decimal (get_or values i 0)) mid after digits behind v u in
        let e = h.reach in
        let b = w.behind in
        record {
          within = omega arith;
          kept = wrote_length out next (space ∷ decimal (get_or values i 0)) after behind w ∙ h.kept;
          reach = omega (arith, spans);
          whole =
              ap (λ (l : List ℕ). put l behind (spaced (drop (i + 1) values))) w.buffer
              ∙ ap (λ (k : ℕ). put (put out next (space ∷ decimal (get_or values i 0))) k (spaced (drop (i + 1) values))) b
              ∙ sym (put_then out next (space ∷ decimal (get_or values i 0)) (spaced (drop (i + 1) values)))
              ∙ ap (put out next) (sym here)
              ∙ h.whole;
        }

  pub values_wrote : length values ≤ i → Wrote start at (spaced values) out next
  unfolding spaced put
  values_wrote done =
      let d : drop i values ≡ [] = drop_of_length-le values done in
      record {
        behind = omega (arith, h.reach, ap (λ (l : List ℕ). length (spaced l)) d);
        buffer = ap (λ (l : List ℕ). put out next (spaced l)) (sym d) ∙ h.whole;
      }
