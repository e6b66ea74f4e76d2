-- The words of a text, and the command of a line, by the places of the spaces.
-- Assumes nothing.
use Prim.Native.Nat.{ℕ, zero, suc, ◌+◌, ◌<◌, ◌≤◌}
use mathlib.Core.Path.{◌≡◌, refl, sym, ap, ◌∙◌}
use mathlib.Core.Bool.{Bool, true, false}
use mathlib.Core.List.{List, [], ◌∷◌}
use native.Mathlib.Numerals.{add-one}
use native.Mathlib.Omega.{arith}
use lib.ListN.{length, get_or, take, drop}
use lib.Seq.{take_all, length-take-le}
use lib.Dec.{ltb}
use borrow.Author.Tests.{ltb-true, ltb-false}
use Rattle.std.proofs.Common.{Option, None}
use Rattle.std.specs.Prelude.{option_and_then}
use Rattle.script.specs.declared.line.Arguments.{Arguments}
use Rattle.script.specs.declared.line.Command.{Command}
use Rattle.script.specs.Numbers.{number}
use Rattle.script.specs.Lines.{space, split, one, two, arguments, named, spoken, command}
use Rattle.script.proofs.Words.{part, single, no_letter}
use Rattle.script.proofs.Ends.{index_of, alone, parted, behind, behind_all}

three : (a b : List ℕ) (words : List (List ℕ)) → 0 < length words → None ≡ arguments (a ∷ b ∷ words)
unfolding arguments
three a b [] h = absurd (omega arith)
three a b (c ∷ words) h = refl

-- What a search for a space says of the words of a text, by the place that it answers.

module _ (text : List ℕ) (e : ℕ) (f : e ≡ index_of 32 text) where
  pub word_alone : e ≡ length text → split space text ≡ text ∷ []
  unfolding space
  word_alone h = alone 32 text (sym f ∙ h)

  pub word_first : e < length text → split space text ≡ take e text ∷ split space (drop (e + 1) text)
  unfolding space
  word_first h = rw (add-one e, f) (parted 32 text (omega arith))

-- the text behind the letter
module _ (text : List ℕ) (e : ℕ) (f : e ≡ index_of 32 text) (n : Option ℕ) (g : n ≡ number (take e text)) where
  pub one_word : (r : Option Arguments) → e ≡ length text → r ≡ one n → r ≡ arguments (split space text)
  unfolding arguments
  one_word r h p =
      rw (word_alone text e f h) (p ∙ ap one (g ∙ ap number (take_all e text (omega arith))))

  module _ (w : e ≤ length text) (h : e ≡ length text → ⊥) (d : ℕ)
      (k : d ≡ index_of 32 (behind text (e + 1))) where
    less : e < length text
    less = at (ltb e (length text)) refl
      where
        at : (t : Bool) → ltb e (length text) ≡ t → e < length text
        at true t = ltb-true e (length text) t
        at false t = let v = ltb-false e (length text) t in absurd (h (omega arith))

    words : split space text ≡ take e text ∷ split space (behind text (e + 1))
    words = rw (behind_all text (e + 1)) (word_first text e f less)

    pub many_words : d < length (behind text (e + 1)) → None ≡ arguments (split space text)
    unfolding arguments
    many_words l =
        rw (words, word_first (behind text (e + 1)) d k l)
        (three (take e text) (take d (behind text (e + 1))) (split space (drop (d + 1) (behind text (e + 1))))
        (part space (drop (d + 1) (behind text (e + 1)))))

    pub two_words : (m : Option ℕ) (r : Option Arguments) → length (behind text (e + 1)) ≤ d → d ≤ length (behind text (e + 1))
        → m ≡ number (behind text (e + 1)) → r ≡ two n m → r ≡ arguments (split space text)
    unfolding arguments
    two_words m r l u q p = rw (words, word_alone (behind text (e + 1)) d k (omega arith)) (p ∙ cc)

-- the letter
front : (line : List ℕ) → 1 ≤ length line → take 1 line ≡ get_or line 0 0 ∷ []
front [] h = absurd (omega arith)
front (b ∷ more) h = refl

module _ (line : List ℕ) (e : ℕ) (f : e ≡ index_of 32 line) where
  pub letter_alone : (r : Option Command) → e ≡ 1 → length line ≡ 1 → r ≡ named (get_or line 0 0) Arguments.Zero → r ≡ command line
  unfolding command spoken arguments
  letter_alone r h l p = rw (word_alone line e f (omega arith), single line l) p

  pub letter_more : (a : Option Arguments) (r : Option Command) → e ≡ 1 → e ≤ length line → (length line ≡ 1 → ⊥)
      → a ≡ arguments (split space (behind line 2)) → r ≡ option_and_then (named (get_or line 0 0)) a → r ≡ command line
  unfolding command spoken
  letter_more a r h u l q p =
      let v : 1 < length line = past (length line) (omega arith) l in
      let s : split space line ≡ (get_or line 0 0 ∷ []) ∷ split space (behind line 2)
      = word_first line e f (omega arith)
      ∙ ap (λ (k : ℕ). take k line ∷ split space (drop (k + 1) line)) h
      ∙ rw (front line (omega arith), behind_all line 2) in
      rw s (p ∙ ap (option_and_then (named (get_or line 0 0))) q)
    where
      past : (n : ℕ) → 1 ≤ n → (n ≡ 1 → ⊥) → 1 < n
      past zero u l = absurd (omega arith)
      past (suc zero) u l = absurd (l refl)
      past (suc (suc n)) u l = omega arith

  pub letter_none : (e ≡ 1 → ⊥) → e ≤ length line → None ≡ command line
  unfolding command
  letter_none h u = at (ltb e (length line)) refl
    where
      at : (t : Bool) → ltb e (length line) ≡ t → None ≡ spoken (split space line)
      at true t =
          rw (word_first line e f (ltb-true e (length line) t))
          (no_letter (take e line) (split space (drop (e + 1) line)) (λ o. h (omega (arith, length-take-le e line u))))
      at false t =
          let v = ltb-false e (length line) t in
          rw (word_alone line e f (omega arith)) (no_letter line [] (λ o. h (omega arith)))
