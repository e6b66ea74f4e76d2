-- The lines of a script from a place on.
-- Assumes nothing.
use Prim.Native.Nat.{ℕ, suc, ◌+◌, ◌-◌, ◌<◌, ◌≤◌}
use mathlib.Core.Path.{◌≡◌, refl, sym, ap, ◌∙◌}
use mathlib.Core.Bool.{Bool, true, false}
use mathlib.Core.List.{List, [], ◌∷◌}
use native.Mathlib.Numerals.{add-one}
use native.Mathlib.Omega.{arith}
use lib.ListN.{length, take, drop, length-drop, drop_of_length-le}
use lib.Seq.{take_all, drop-drop}
use lib.Dec.{eqb, ltb}
use borrow.Author.Tests.{ltb-true, ltb-false}
use Rattle.std.proofs.Common.{Some, None}
use Rattle.std.proofs.lemmas.List.Splits.{slice_split_none, slice_split_first}
use Rattle.std.proofs.lemmas.List.Sums.{fails_before_first}
use Rattle.script.specs.Lines.{line_feed, split, closed, lines_of}
use Rattle.script.specs.Places.{lines_from, Reaches}
use Rattle.std.specs.List.{position_or_len}
use Rattle.script.proofs.Words.{part, same_parts}

-- where the mark first stands, or the length
abbrev pub index_of : ℕ → List ℕ → ℕ
index_of mark l = position_or_len (λ (b : ℕ). eqb b mark) l

module _ (mark : ℕ) (l : List ℕ) where
  -- the mark is in none of the bytes
  pub alone : index_of mark l ≡ length l → split mark l ≡ l ∷ []
  alone e = sym (same_parts mark l) ∙ slice_split_none (λ (b : ℕ). eqb b mark) l (λ k d h. fails_before_first (λ (b : ℕ). eqb b mark) l k d (omega arith))

  -- the mark is in the bytes, first at that place
  pub parted : index_of mark l < length l → split mark l ≡ take (index_of mark l) l ∷ split mark (drop (suc (index_of mark l)) l)
  parted h =
      rw (← add-one (index_of mark l))
      (sym (same_parts mark l) ∙ slice_split_first (λ (b : ℕ). eqb b mark) l 0 h
      ∙ ap (λ (ps : List (List ℕ)). take (index_of mark l) l ∷ ps) (same_parts mark (drop (index_of mark l + 1) l)))

-- what is behind that place
abbrev pub behind : List ℕ → ℕ → List ℕ
behind text start = take (length text - start) (drop start text)

pub behind_all : (text : List ℕ) (start : ℕ) → behind text start ≡ drop start text
behind_all text start = take_all (length text - start) (drop start text) (omega (arith, length-drop start text))

-- Some bytes, not none: their first line ends at their first line feed, or at their end.

nextly : (line : List ℕ) (lines : List (List ℕ)) → 0 < length lines → closed (line ∷ lines) ≡ line ∷ closed lines
unfolding closed
nextly line [] h = absurd (omega arith)
nextly [] (next ∷ lines) h = refl
nextly (b ∷ line) (next ∷ lines) h = refl

ended : (l : List ℕ) → 0 < length l → index_of 10 l ≡ length l → lines_of l ≡ l ∷ []
unfolding lines_of line_feed closed
ended [] h e = absurd (omega arith)
ended (b ∷ bs) h e = rw (alone 10 (b ∷ bs) e)

fed : (l : List ℕ) → index_of 10 l < length l → lines_of l ≡ take (index_of 10 l) l ∷ lines_of (drop (suc (index_of 10 l)) l)
unfolding lines_of line_feed
fed l h = rw (parted 10 l h) (nextly (take (index_of 10 l) l) (split 10 (drop (suc (index_of 10 l)) l)) (part 10 (drop (suc (index_of 10 l)) l)))

module _ (script : List ℕ) (from : ℕ) where
  last : (n : ℕ) → length script ≤ n → lines_of (drop n script) ≡ []
  unfolding lines_of line_feed split closed
  last n h = rw (drop_of_length-le script h)

  pub no_line : length script ≤ from → lines_of (drop from script) ≡ lines_from script from None
  unfolding lines_from
  no_line h = last from h

  pub no_line_reaches : length script ≤ from → Reaches (length script) from None
  unfolding Reaches
  no_line_reaches h = h

  module _ (more : from < length script) (n : ℕ) (f : n ≡ index_of 10 (behind script from)) (u : n ≤ length (behind script from)) where
    found : n ≡ index_of 10 (drop from script)
    found = f ∙ ap (index_of 10) (behind_all script from)

    short : from + n ≤ length script
    short = omega (arith, ap length (behind_all script from), length-drop from script)

    pub line_until : lines_of (drop from script) ≡ lines_from script from (Some (from + n))
    unfolding lines_from
    line_until = at (ltb (index_of 10 (drop from script)) (length (drop from script))) refl
      where
        at : (t : Bool) → ltb (index_of 10 (drop from script)) (length (drop from script)) ≡ t
            → lines_of (drop from script) ≡ take (from + n - from) (drop from script) ∷ lines_of (drop (suc (from + n)) script)
        at true t =
            let p : index_of 10 (drop from script) ≡ from + n - from = omega (arith, found) in
            let q : from + suc (from + n - from) ≡ suc (from + n) = omega arith in
            fed (drop from script) (ltb-true (index_of 10 (drop from script)) (length (drop from script)) t)
            ∙ ap (λ (k : ℕ). take k (drop from script) ∷ lines_of (drop (suc k) (drop from script))) p
            ∙ rw (drop-drop (suc (from + n - from)) from script, q)
        at false t =
            let v = ltb-false (index_of 10 (drop from script)) (length (drop from script)) t in
            let l = length-drop from script in
            let w = found in
            let s = short in
            rw (take_all (from + n - from) (drop from script) (omega arith), last (suc (from + n)) (omega arith))
            (ended (drop from script) (omega arith) (omega arith))

    pub line_reaches : Reaches (length script) from (Some (from + n))
    unfolding Reaches
    line_reaches = (omega arith, short)
