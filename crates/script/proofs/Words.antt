-- The words of a line, as its letter and its numbers are taken from it.
-- Assumes nothing.
use Prim.Native.Nat.{ℕ, ◌<◌}
use mathlib.Core.Path.{◌≡◌, refl, sym, ap, ◌∙◌, subst}
use mathlib.Core.Bool.{Bool, true, false, cond}
use mathlib.Core.List.{List, [], ◌∷◌}
use native.Mathlib.Omega.{arith}
use lib.ListN.{length, get_or}
use lib.Dec.{eqb}
use denote.Param.Members.{Mut}
use denote.Ref.{Bor}
use Rattle.std.proofs.Common.{Option, Some, None}
use Rattle.std.specs.Prelude.{option_and_then}
use Rattle.std.proofs.lemmas.Iterator.Splits.{YieldsList-from_slice_split}
use Rattle.std.specs.Fn.{CalledAt}
use Rattle.std.specs.Iterator.{AlwaysYields}
use Rattle.std.specs.List.{slice_split, onto_first}
use Rattle.std.specs.Slice.Iter.{split_rest, split_done, split_callee, split_steps}
use Rattle.std.specs.declared.slice.Split.{Split}
use Rattle.script.specs.declared.line.Arguments.{Arguments}
use Rattle.script.specs.declared.line.Command.{Command}
use Rattle.script.specs.Numbers.{number}
use Rattle.script.specs.Lines.{space, split, begun, one, two, arguments, named, spoken, command}

-- The parts between the marks are those that the library's split gives. There is always one.

module _ (mark : ℕ) where
  pub part : (bs : List ℕ) → 0 < length (split mark bs)
  unfolding split begun
  part [] = omega arith
  part (b ∷ bs) = at (eqb b mark) (split mark bs) (part bs)
    where
      at : (t : Bool) (ps : List (List ℕ)) → 0 < length ps → 0 < length (cond t ([] ∷ ps) (begun b ps))
      at true ps h = omega arith
      at false [] h = h
      at false (p ∷ ps) h = omega arith

  put_first : (b : ℕ) (ps : List (List ℕ)) → 0 < length ps → onto_first b ps ≡ begun b ps
  unfolding begun
  put_first b [] h = absurd (omega arith)
  put_first b (p ∷ ps) h = refl

  pub same_parts : (bs : List ℕ) → slice_split (λ (b : ℕ). eqb b mark) bs ≡ split mark bs
  unfolding split
  same_parts [] = refl
  same_parts (b ∷ bs) =
      rw (same_parts bs) (ap (λ (ps : List (List ℕ)). cond (eqb b mark) ([] ∷ split mark bs) ps) (put_first b (split mark bs) (part bs)))

-- Words that are taken one after another.

module _ {S A : Type 0} (steps : S → Option A → S → Type 0) (v : A → List ℕ) where
  abbrev Gives : S → List (List ℕ) → Type 0
  Gives s words = AlwaysYields steps v s words

  taken : (s t : S) (x : A) (words : List (List ℕ)) → Gives s words → steps s (Some x) t
      → (more : List (List ℕ)) × (words ≡ v x ∷ more) × Gives t more
  taken s t x [] y k = absurd (y x t k)
  taken s t x (w ∷ ws) y k = let q = y.1 x t k in (ws, ap (λ (u : List ℕ). u ∷ ws) (sym q.0), q.1)

  ended : (s t : S) (words : List (List ℕ)) → Gives s words → steps s None t → words ≡ []
  ended s t [] y k = refl
  ended s t (w ∷ ws) y k = absurd (y.0 t k)

-- The command that a line's words say, as a split of the line at its spaces gives them.

pub single : (word : List ℕ) → length word ≡ 1 → word ≡ get_or word 0 0 ∷ []
single [] h = absurd (omega arith)
single (b ∷ []) h = refl
single (b ∷ a ∷ more) h = absurd (omega arith)

pub no_letter : (word : List ℕ) (words : List (List ℕ)) → (length word ≡ 1 → ⊥) → None ≡ spoken (word ∷ words)
unfolding spoken
no_letter [] words h = refl
no_letter (b ∷ []) words h = absurd (h refl)
no_letter (b ∷ a ∷ more) words h = refl

two_none : (n : Option ℕ) → two n None ≡ None
unfolding two
two_none None = refl
two_none (Some a) = refl

-- the split that is left at some words
pub record Left {F : Type 0} (g : Mut F (Bor ℕ × Unit {0}) Bool) (s : Split ℕ F) (words : List (List ℕ)) : Type 0 where
  pub gives : Gives (split_steps g) (λ x. x.now) s words

-- at first it is at all words of the line, if its closure tells the spaces
pub all_left : {F : Type 0} (g : Mut F (Bor ℕ × Unit {0}) Bool) (s t : Split ℕ F) (x : Option (Bor (List ℕ))) → split_steps g s x t
    → (line : List ℕ) → split_rest s ≡ line → split_done s ≡ false → (f : F) → split_callee s ≡ f
    → ((b : ℕ) (t : Bool) (q : F) → CalledAt g f b t q → (q ≡ f) × (t ≡ eqb b 32)) → Left g s (split space line)
unfolding space
all_left g s t x step line rest done f closure tests =
    record {
      gives =
          subst (λ (ws : List (List ℕ)). Gives (split_steps g) (λ x. x.now) s ws) (same_parts 32 line)
          (YieldsList-from_slice_split g (λ (b : ℕ). eqb b 32) line rest done closure tests).runs;
    }

module _ {F : Type 0} (g : Mut F (Bor ℕ × Unit {0}) Bool) where
  next : (s t : Split ℕ F) (x : Bor (List ℕ)) (words : List (List ℕ)) → Left g s words → split_steps g s (Some x) t
      → (more : List (List ℕ)) × (words ≡ x.now ∷ more) × Left g t more
  next s t x words left step =
      let q = taken (split_steps g) (λ x. x.now) s t x words left.gives step in (q.0, q.1, record { gives = q.2 })

  last : (s t : Split ℕ F) (words : List (List ℕ)) → Left g s words → split_steps g s None t → words ≡ []
  last s t words left step = ended (split_steps g) (λ x. x.now) s t words left.gives step

  module _ (line : List ℕ) (s t : Split ℕ F) (x : Bor (List ℕ)) (all : Left g s (split space line)) (first : split_steps g s (Some x) t) where
    behind_first : (more : List (List ℕ)) × (split space line ≡ x.now ∷ more) × Left g t more
    behind_first = next s t x (split space line) all first

    pub letter_short : length x.now < 1 → None ≡ command line
    unfolding command
    letter_short h = rw behind_first.1 (no_letter x.now behind_first.0 (λ e. omega arith))

    pub letter_long : 1 < length x.now → None ≡ command line
    unfolding command
    letter_long h = rw behind_first.1 (no_letter x.now behind_first.0 (λ e. omega arith))

    module _ (l : length x.now ≡ 1) (t' : Split ℕ F) where
      -- by the words behind the letter
      said : (ws : List (List ℕ)) → behind_first.0 ≡ ws → command line ≡ option_and_then (named (get_or x.now 0 0)) (arguments ws)
      unfolding command spoken
      said ws e = rw (behind_first.1, e, single x.now l)

      pub no_numbers : (r : Option Command) → split_steps g t None t' → r ≡ named (get_or x.now 0 0) Arguments.Zero → r ≡ command line
      unfolding arguments
      no_numbers r k e = rw (said [] (last t t' behind_first.0 behind_first.2 k)) e

      module _ (a : Bor (List ℕ)) (second : split_steps g t (Some a) t') (t'' : Split ℕ F) where
        behind_second : (more : List (List ℕ)) × (behind_first.0 ≡ a.now ∷ more) × Left g t' more
        behind_second = next t t' a behind_first.0 behind_first.2 second

        module _ (n : Option ℕ) (p : n ≡ number a.now) where
          module _ (k : split_steps g t' None t'') where
            alone : command line ≡ option_and_then (named (get_or x.now 0 0)) (one n)
            unfolding arguments
            alone =
                rw p
                (said (a.now ∷ [])
                (behind_second.1 ∙ ap (λ (ws : List (List ℕ)). a.now ∷ ws) (last t' t'' behind_second.0 behind_second.2 k)))

            pub one_good : (i : ℕ) (r : Option Command) → n ≡ Some i → r ≡ named (get_or x.now 0 0) (Arguments.One i) → r ≡ command line
            unfolding one
            one_good i r e f = rw (alone, e) f

            pub one_bad : (r : Option Command) → n ≡ None → r ≡ None → r ≡ command line
            unfolding one
            one_bad r e f = rw (alone, e) f

        module _ (b : Bor (List ℕ)) (third : split_steps g t' (Some b) t'') (t₃ : Split ℕ F) where
          behind_third : (more : List (List ℕ)) × (behind_second.0 ≡ b.now ∷ more) × Left g t'' more
          behind_third = next t' t'' b behind_second.0 behind_second.2 third

          pub many_words : (d : Bor (List ℕ)) → split_steps g t'' (Some d) t₃ → None ≡ command line
          unfolding arguments
          many_words d fourth =
              let q = next t'' t₃ d behind_third.0 behind_third.2 fourth in
              rw
              (said (a.now ∷ b.now ∷ d.now ∷ q.0)
              (behind_second.1
              ∙ ap (λ (ws : List (List ℕ)). a.now ∷ ws) (behind_third.1 ∙ ap (λ (ws : List (List ℕ)). b.now ∷ ws) q.1)))

          module _ (k : split_steps g t'' None t₃) where
            both : command line ≡ option_and_then (named (get_or x.now 0 0)) (two (number a.now) (number b.now))
            unfolding arguments
            both =
                said (a.now ∷ b.now ∷ [])
                (behind_second.1
                ∙ ap (λ (ws : List (List ℕ)). a.now ∷ ws)
                (behind_third.1 ∙ ap (λ (ws : List (List ℕ)). b.now ∷ ws) (last t'' t₃ behind_third.0 behind_third.2 k)))

            pub second_bad : (m : Option ℕ) (r : Option Command) → m ≡ number b.now → m ≡ None → r ≡ None → r ≡ command line
            second_bad m r u e f = rw (both, ← u, e, two_none (number a.now)) f

            module _ (n : Option ℕ) (p : n ≡ number a.now) where
              pub first_bad : (r : Option Command) → n ≡ None → r ≡ None → r ≡ command line
              unfolding two
              first_bad r e f = rw (both, ← p, e) f

              pub two_good : (m : Option ℕ) (i j : ℕ) (r : Option Command) → m ≡ number b.now → n ≡ Some i → m ≡ Some j
                  → r ≡ named (get_or x.now 0 0) (Arguments.Two i j) → r ≡ command line
              unfolding two
              two_good m i j r u e v f = rw (both, ← p, e, ← u, v) f
