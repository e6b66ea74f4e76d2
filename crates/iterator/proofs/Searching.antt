-- The first number that passes a test: the search in two parts, from another number on, by another test; and the loop that
-- looks for a filled bucket.
-- Assumes nothing.
use Prim.Native.Nat.{ℕ, zero, suc, ◌+◌, ◌-◌, ◌≤◌, ◌<◌}
use mathlib.Core.Path.{◌≡◌, refl, sym, ap, ◌∙◌}
use mathlib.Core.Bool.{Bool, true, false, cond}
use mathlib.Core.List.{List}
use mathlib.Core.Option.{Option, none, some, map}
use native.Mathlib.Nat.{zero-add, add-zero, suc-add}
use native.Mathlib.Numerals.{add-one}
use native.Mathlib.Omega.{arith}
use lib.ListN.{get_or}
use borrow.Author.Tests.{eq-eqb, ne_eqb}
use Rattle.model.specs.Iterators.{end_place, first_from, first_place}
use Rattle.iterator.specs.Tables.{filled_in, first_filled}

-- the second where the first is none
unfoldable pub or_else : Option ℕ → Option ℕ → Option ℕ
or_else none o = o
or_else (some n) o = some n

-- one search, and another from where it ends
first_parts : (test : ℕ → Bool) (n left more : ℕ)
    → first_from test n (left + more) ≡ or_else (first_from test n left) (first_from test (n + left) more)
unfolding first_from or_else
first_parts test n zero more = rw (zero-add, add-zero)
first_parts test n (suc left) more =
    rw (suc-add left more)
    (pick (test n)
    (first_parts test (suc n) left more
    ∙ ap (λ m. or_else (first_from test (suc n) left) (first_from test m more)) (omega arith)))
  where
    pick : (t : Bool)
        → first_from test (suc n) (left + more) ≡ or_else (first_from test (suc n) left) (first_from test (n + suc left) more)
        → cond t (some n) (first_from test (suc n) (left + more))
        ≡ or_else (cond t (some n) (first_from test (suc n) left)) (first_from test (n + suc left) more)
    pick true rest = refl
    pick false rest = rest

-- the same numbers further on, by a test that says the same of them
pub first_shifted : (test here : ℕ → Bool) (base n left : ℕ) → ((b : ℕ) → test (base + b) ≡ here b)
    → first_from test (base + n) left ≡ map (λ b. base + b) (first_from here n left)
unfolding first_from
first_shifted test here base n zero same = refl
first_shifted test here base n (suc left) same =
    rw (same n)
    (pick (here n) (ap (λ m. first_from test m left) (omega arith) ∙ first_shifted test here base (suc n) left same))
  where
    pick : (t : Bool) → first_from test (suc (base + n)) left ≡ map (λ b. base + b) (first_from here (suc n) left)
        → cond t (some (base + n)) (first_from test (suc (base + n)) left)
        ≡ map (λ b. base + b) (cond t (some n) (first_from here (suc n) left))
    pick true rest = refl
    pick false rest = rest

-- the places of one table, and then those of another
pub first_tables : (test : ℕ → Bool) (place old new : ℕ)
    → first_from test place (old + new - place)
    ≡ or_else (first_from test place (old - place)) (first_from test (old + (place - old)) (new - (place - old)))
first_tables test place old new =
    ap (first_from test place) (omega arith)
    ∙ first_parts test place (old - place) (new - (place - old))
    ∙ ap (λ n. or_else (first_from test place (old - place)) (first_from test n (new - (place - old)))) (omega arith)

-- The loop: the search from here on is that from the first bucket on.

module _ (buckets : List ℕ) (from size : ℕ) where
  abbrev pub Searching : ℕ → Type 0
  Searching b = first_filled buckets b size ≡ first_filled buckets from size

  module _ (b : ℕ) (h : Searching b) where
    here : (left : ℕ) → size - b ≡ left → first_from (filled_in buckets) b left ≡ first_filled buckets from size
    unfolding first_filled first_place end_place
    here left e = ap (first_from (filled_in buckets) b) (sym e) ∙ h

    pub searching_end : size ≤ b → first_filled buckets from size ≡ none
    unfolding first_from
    searching_end l = sym (here 0 (omega arith))

    module _ (l : b < size) (head : ℕ) (i : head ≡ get_or buckets b 0) where
      next : suc (size - (b + 1)) ≡ size - b
      next = omega arith

      pub searching_found : (head ≡ 0 → ⊥) → first_filled buckets from size ≡ some b
      unfolding first_from filled_in
      searching_found f = sym (rw (← i, ne_eqb head 0 f) at (here (suc (size - (b + 1))) (sym next)))

      pub searching_next : head ≡ 0 → Searching (b + 1)
      unfolding first_filled first_place end_place first_from filled_in
      searching_next e =
          rw (add-one b) (rw (← i, eq-eqb head 0 e, add-one b) at (here (suc (size - (b + 1))) (sym next)))
