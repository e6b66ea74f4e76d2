-- What the ideal answers, by cases: a step is refused, or so many keys moved and the rest are unmoved; a resize; a call that
-- hands out, one that reads, a note. The step that a call takes first, or none; and the growth that follows it, or none.
-- Assumes nothing.
use Prim.Native.Nat.{ℕ, zero, suc, ◌+◌, ◌*◌, ◌<◌, ◌≤◌}
use mathlib.Core.Path.{◌≡◌, refl, sym, ap, ◌∙◌}
use mathlib.Core.Bool.{Bool, true, false, ◌&&◌, cond}
use mathlib.Core.List.{List, [], ◌∷◌}
use native.Mathlib.Omega.{arith}
use lib.ListN.{length}
use lib.Dec.{leb, ltb, eqb}
use borrow.Author.Tests.{ltb-true, ltb-false}
use Rattle.model.specs.Keys.{bucket_of}
use Rattle.model.specs.Limits.{empty_visits, most_safe_iterators}
use Rattle.model.specs.Answers.{Reply, reply}
use Rattle.model.specs.Calls.{acceptable, suggested, growth_due}
use Rattle.model.specs.Walk.{Tables}
use Rattle.model.specs.Sequences.{KeyCall, ReadCall, StateCall, keys_of}
use Rattle.refinement.specs.Worlds.{takes_step, may_grow}
use Rattle.refinement.specs.Demand3.{Lengths, Ideal, ideal, resize_answer, lowest, after_step, step_taken, step_answer, steps_first, grows, then_grows, hand_answer, ideal_print, read_answer, with_notes, end_answer, note_answer}

-- what holds of both answers of a test, of each where the test comes out so, holds of the one given
pub by_test : {A : Type 0} (P : A → Type 0) (t : Bool) (x y : A) → (t ≡ true → P x) → (t ≡ false → P y) → P (cond t x y)
by_test P true x y p q = p refl
by_test P false x y p q = q refl

pub either : {A : Type 0} (P : A → Type 0) (t : Bool) (x y : A) → P x → P y → P (cond t x y)
either P t x y p q = by_test P t x y (λ e. p) (λ e. q)

pub one_at_most : (t : Bool) (m n : ℕ) → m ≤ 1 → n ≤ 1 → cond t m n ≤ 1
one_at_most = either (λ (k : ℕ). k ≤ 1)

pub one_not_two : {size old new : ℕ} → Tables.one size ≡ Tables.two old new → ⊥
one_not_two e = let z : ◌≡◌ {A = ℕ} 0 1 = cc in omega arith

module _ (i : Ideal) (P : Reply Ideal → Type 0) where
  -- what holds of a step that is taken
  any_taken : (old new : ℕ) (unmoved : List ℕ) → ((count : ℕ) (ks : List ℕ) (next : ℕ) → P (after_step i old new count ks next))
      → P (step_taken i old new unmoved)
  unfolding step_taken
  any_taken old new [] done = done 0 [] i.index
  any_taken old new (k ∷ ks) done =
      either P (ltb (lowest old (bucket_of k old) ks) (i.index + empty_visits)) _ _ (done _ _ _) (done _ _ _)

  -- .. and of a refused one, with one table or held up by safe iterators, holds of the ideal's
  pub any_step : (tables : Tables) (unmoved : List ℕ) → ((size : ℕ) → tables ≡ Tables.one size → P (reply 8 (0 ∷ 0 ∷ []) i))
      → (0 < i.iterators → P (reply 18 (0 ∷ 0 ∷ []) i))
      → ((old new : ℕ) → tables ≡ Tables.two old new → i.iterators ≡ 0
      → (count : ℕ) (ks : List ℕ) (next : ℕ) → P (after_step i old new count ks next))
      → P (step_answer i tables unmoved)
  unfolding step_answer
  any_step (Tables.one size) unmoved refused paused done = refused size refl
  any_step (Tables.two old new) unmoved refused paused done =
      by_test P (ltb 0 i.iterators) _ _ (λ t. paused (ltb-true 0 i.iterators t))
      (λ f. any_taken old new unmoved (done old new refl (omega (arith, ltb-false 0 i.iterators f))))

  -- a walk call and one that iterates leave the ideal
  pub any_hand : (next count places : ℕ) → P (reply 0 (next ∷ count ∷ []) i) → P (reply 9 (0 ∷ count ∷ []) i)
      → P (hand_answer i next count places)
  unfolding hand_answer
  any_hand next count places = either P (leb (count * 2) places) _ _

  -- so do the calls that only read
  pub any_read : (c : ReadCall) → ((vs : List ℕ) → P (reply 0 vs i)) → P (reply 15 [] i) → P (read_answer i c)
  unfolding read_answer
  any_read (ReadCall.suggested_size growing) done changed = done _
  any_read ReadCall.current_table done changed = done _
  any_read ReadCall.begin_iterator done changed = done _
  any_read (ReadCall.end_iterator fingerprint) done changed =
      either (λ (n : ℕ). P (reply n [] i)) (eqb fingerprint (ideal_print i)) 0 15 (done []) changed

  -- a note is made, or there is no safe iterator to end, or there are too many
  pub any_note : (c : StateCall) → ((allowed : Bool) (iterators : ℕ) → P (reply 0 [] (with_notes i allowed iterators)))
      → P (reply 16 [] i) → P (reply 17 [] i) → P (note_answer i c)
  unfolding note_answer end_answer
  any_note (StateCall.allow_resize allowed) noted none_begun too_many = noted allowed i.iterators
  any_note StateCall.begin_safe noted none_begun too_many =
      either P (ltb i.iterators most_safe_iterators) _ _ (noted _ _) too_many
  any_note StateCall.end_safe noted none_begun too_many = by i.iterators
    where
      by : (n : ℕ) → P (end_answer i n)
      by zero = none_begun
      by (suc n) = noted i.allowed n

-- a resize begins a rehash, or is refused: its size is not accepted, or a rehash is under way
pub any_resize : (l : Lengths) (i : Ideal) (P : Reply Ideal → Type 0) (size : ℕ) (t : Tables)
    → ((old : ℕ) → t ≡ Tables.one old → acceptable old (cond i.turned l.first l.second) size ≡ true
    → P (reply 0 [] (ideal i.plain (Tables.two old size) i.turned (keys_of i.plain.pairs) 0 i.allowed i.iterators)))
    → P (reply 6 [] i) → P (reply 7 [] i) → P (resize_answer l i size t)
unfolding resize_answer
any_resize l i P size (Tables.two old new) begun refused moving = moving
any_resize l i P size (Tables.one old) begun refused moving =
    by_test P (acceptable old (cond i.turned l.first l.second) size) _ _ (begun old refl) (λ f. refused)

-- what holds of what a call leaves, and of a resize then, holds of what growth leaves
pub any_growth : (l : Lengths) (P : Ideal → Type 0) (c : KeyCall) (r : Reply Ideal)
    → ((old size : ℕ) → r.state.tables ≡ Tables.one old → P (resize_answer l r.state size (Tables.one old)).state)
    → P r.state → P (then_grows l c r).state
unfolding then_grows grows reply
any_growth l P c r resized p =
    either P (may_grow c && eqb r.number 0) _ _ (by r.state.tables refl) p
  where
    by : (t : Tables) → r.state.tables ≡ t → P (grows l r.state t)
    by (Tables.two old new) e = p
    by (Tables.one old) e =
        let keys = length r.state.plain.pairs in
        either P (growth_due r.state.allowed old keys) _ _ (resized old (suggested true keys) e) p

-- both leave the pairs

pub resize_plain : (l : Lengths) (i : Ideal) (size : ℕ) (t : Tables) → (resize_answer l i size t).state.plain ≡ i.plain
unfolding reply ideal
resize_plain l i size t = any_resize l i (λ r. r.state.plain ≡ i.plain) size t (λ old e a. refl) refl refl

pub growth_plain : (l : Lengths) (c : KeyCall) (r : Reply Ideal) → (then_grows l c r).state.plain ≡ r.state.plain
growth_plain l c r =
    any_growth l (λ (j : Ideal). j.plain ≡ r.state.plain) c r (λ old size e. resize_plain l r.state size (Tables.one old)) refl

-- with two tables and no safe iterator a step is taken
pub not_paused : (i : Ideal) (old new : ℕ) (unmoved : List ℕ) → i.iterators ≡ 0
    → step_answer i (Tables.two old new) unmoved ≡ step_taken i old new unmoved
unfolding step_answer
not_paused i old new unmoved none =
    ap (λ (n : ℕ). cond (ltb 0 n) (reply 18 (0 ∷ 0 ∷ []) i) (step_taken i old new unmoved)) none

module _ (i : Ideal) where
  abbrev stepped : Ideal
  stepped = (step_answer i i.tables i.unmoved).state

  -- what holds with a step and without holds of the ideal that a call finds
  pub any_first : (P : Ideal → Type 0) (c : KeyCall) (number : ℕ) → P (step_answer i i.tables i.unmoved).state → P i
      → P (steps_first i c number)
  unfolding steps_first
  any_first P c number = either P (takes_step c && eqb number 0) stepped i

  -- with two tables and no safe iterator a step is answered, ..
  pub two_answered : (old new : ℕ) → i.tables ≡ Tables.two old new → i.iterators ≡ 0
      → (step_answer i i.tables i.unmoved).number ≡ 0
  unfolding after_step reply
  two_answered old new e none =
      any_step i (λ (r : Reply Ideal). r.number ≡ 0) i.tables i.unmoved
      (λ size f. absurd (one_not_two (sym f ∙ e))) (λ some. absurd (omega arith)) (λ old new f g. done old new)
    where
      done : (old new count : ℕ) (ks : List ℕ) (next : ℕ) → (after_step i old new count ks next).number ≡ 0
      done old new count [] next = refl
      done old new count (k ∷ ks) next = refl

  -- .. else it is refused, ..
  pub one_stays : (size : ℕ) → i.tables ≡ Tables.one size → (step_answer i i.tables i.unmoved).state ≡ i
  unfolding step_answer reply
  one_stays size e = ap (λ (t : Tables). (step_answer i t i.unmoved).state) e

  pub paused_refused : 0 < i.iterators
      → (eqb (step_answer i i.tables i.unmoved).number 0 ≡ false) × ((step_answer i i.tables i.unmoved).state ≡ i)
  unfolding reply
  paused_refused some =
      any_step i (λ (r : Reply Ideal). (eqb r.number 0 ≡ false) × (r.state ≡ i)) i.tables i.unmoved
      (λ size e. (refl, refl)) (λ g. (refl, refl)) (λ old new e none. absurd (omega arith))

  pub paused_stays : 0 < i.iterators → (step_answer i i.tables i.unmoved).state ≡ i
  paused_stays some = (paused_refused some).1

  -- .. and it leaves the pairs
  pub same_pairs : (step_answer i i.tables i.unmoved).state.plain ≡ i.plain
  unfolding after_step reply ideal
  same_pairs =
      any_step i (λ (r : Reply Ideal). r.state.plain ≡ i.plain) i.tables i.unmoved (λ size e. refl) (λ some. refl)
      (λ old new e none. done old new)
    where
      done : (old new count : ℕ) (ks : List ℕ) (next : ℕ) → (after_step i old new count ks next).state.plain ≡ i.plain
      done old new count [] next = refl
      done old new count (k ∷ ks) next = refl
