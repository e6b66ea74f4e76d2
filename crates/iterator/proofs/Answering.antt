-- The calls that read no bucket: what they answer to a sound state, whichever buffer is the current one.
-- Assumes nothing.
use Prim.Native.Nat.{ℕ, suc, ◌+◌, ◌-◌, ◌≤◌, ◌<◌}
use mathlib.Core.Path.{◌≡◌, refl, sym, ap, ◌∙◌}
use mathlib.Core.Bool.{Bool, true, false, cond}
use mathlib.Core.List.{List}
use native.Mathlib.Omega.{arith}
use lib.ListN.{length}
use lib.Dec.{eqb}
use borrow.Author.Tests.{eq-eqb, ne_eqb, lt-ltb, le-ltb}
use mir.Val.{bool_byte}
use Rattle.std.specs.Prelude.{Ok, Err}
use Rattle.model.specs.declared.State.{State}
use Rattle.model.specs.declared.Error.{Error}
use Rattle.model.specs.Limits.{most_safe_iterators}
use Rattle.model.specs.Calls.{reading, noted}
use Rattle.model.specs.Iterators.{buffer_number, fingerprint_of, begin_iterator, end_iterator, one_more, begin_safe, one_fewer, end_safe}
use Rattle.memory.specs.Lent.{sound_lent}
use Rattle.memory.proofs.Orientation.{reading_sound}
use Rattle.scan_group.proofs.Places.{oriented_call}

-- a flag as a number
pub flag_is : (flag : Bool) → bool_byte flag ≡ buffer_number flag
unfolding buffer_number
flag_is true = refl
flag_is false = refl

module _ (s : State) (first second entries : List ℕ) (h : sound_lent (length first) (length second) (length entries) s ≡ true) where
  -- the buffers do not matter
  answered : {A : Type 0} (refusal answer : A) → answer ≡ reading s first second entries refusal (λ current other. answer)
  answered refusal answer =
      reading_sound s first second entries true (sym h) refusal _ answer refl (oriented_call s (λ current other. answer) first second)

  -- An iterator's begin and end.

  pub begun : (fingerprint : ℕ) → fingerprint ≡ fingerprint_of s → Ok fingerprint ≡ begin_iterator s first second entries
  unfolding begin_iterator
  begun fingerprint f = ap Ok f ∙ answered _ (Ok (fingerprint_of s))

  module _ (begun now : ℕ) (f : now ≡ fingerprint_of s) where
    end_sound : cond (eqb begun now) (Ok tt) (Err Error.Changed) ≡ end_iterator s first second entries begun
    unfolding end_iterator
    end_sound = rw f (answered _ (cond (eqb begun (fingerprint_of s)) (Ok tt) (Err Error.Changed)))

    pub ended : begun ≡ now → Ok tt ≡ end_iterator s first second entries begun
    ended same = rw (eq-eqb begun now same) at end_sound

    pub changed : (begun ≡ now → ⊥) → Err Error.Changed ≡ end_iterator s first second entries begun
    changed differ = rw (ne_eqb begun now differ) at end_sound

  -- A safe iterator's begin.

  one_more_lem : one_more s ≡ begin_safe s first second entries
  unfolding begin_safe
  one_more_lem = answered _ (one_more s)

  pub one_begun : s.safe_iterators < most_safe_iterators
      → Ok (noted s s.resize_allowed (s.safe_iterators + 1)) ≡ begin_safe s first second entries
  unfolding one_more
  one_begun l = rw (lt-ltb s.safe_iterators most_safe_iterators l) at one_more_lem

  pub too_many : most_safe_iterators ≤ s.safe_iterators → Err Error.TooManyIterators ≡ begin_safe s first second entries
  unfolding one_more
  too_many l = rw (le-ltb s.safe_iterators most_safe_iterators l) at one_more_lem

  -- .. and its end.

  one_fewer_lem : (iterators : ℕ) → s.safe_iterators ≡ iterators → one_fewer s iterators ≡ end_safe s first second entries
  unfolding end_safe
  one_fewer_lem iterators i = ap (one_fewer s) (sym i) ∙ answered _ (one_fewer s s.safe_iterators)

  pub one_ended : (s.safe_iterators ≡ 0 → ⊥) → Ok (noted s s.resize_allowed (s.safe_iterators - 1)) ≡ end_safe s first second entries
  unfolding one_fewer
  one_ended f = one_fewer_lem (suc (s.safe_iterators - 1)) (omega arith)

  pub none_begun : s.safe_iterators ≡ 0 → Err Error.NoSafeIterator ≡ end_safe s first second entries
  unfolding one_fewer
  none_begun e = one_fewer_lem 0 e
