-- The first check, the state and the answer: what the code tests, reads and writes, and what the check shows.
-- Assumes nothing.
use Prim.Native.Nat.{ℕ, ◌*◌, ◌/◌, ◌%◌}
use native.Mathlib.Nat.{div-add-mod'}
use native.Mathlib.Omega.{arith}
use mathlib.Core.Path.{◌≡◌, refl, sym, ◌∙◌}
use mathlib.Core.Bool.{Bool, true, false, ◌&&◌}
use mathlib.Core.List.{List, [], ◌∷◌}
use lib.ListN.{length}
use lib.Dec.{eqb}
use Rattle.little_endian.specs.Words.{decode, encode}
use Rattle.model.specs.declared.State.{State}
use Rattle.model.proofs.Tests.{Tells, told, tested, tested_not, tells_true, tells_same, tells_and, tells_le, tells_eq}
use Rattle.lent_bytes.specs.Exports.{results, state_bytes, answer_bytes, most_bucket_bytes, most_entry_bytes, whole_up_to, lengths_fit, flags_fit, cleared}
use Rattle.lent_bytes.specs.Checked.{Whole, Lengths, Checked, StateGiven, Passed}
use Rattle.std.specs.Prelude.{Option, Some, None, IfNone, IfSome}

-- What the check shows

tells_four : (n : ℕ) → Tells (n / 4 * 4 ≡ n) (eqb (n % 4) 0)
tells_four n =
    tells_same (λ h. omega (arith, div-add-mod' n 4)) (λ h. omega (arith, div-add-mod' n 4)) (tells_eq (n % 4) 0)

tells_whole : (most n : ℕ) → Tells (Whole most n) (whole_up_to most n)
unfolding whole_up_to
tells_whole most n =
    tells_same (λ h. record { whole = h.0; few = h.1 }) (λ w. (w.whole, w.few)) (tells_and (tells_four n) (tells_le n most))

module _ (state first second entries list answer : ℕ) where
  pub tells_lengths : Tells (Lengths state first second entries list answer) (lengths_fit state first second entries list answer)
  unfolding lengths_fit
  tells_lengths =
      tells_same
      (λ h.
      record {
        state_length = h.0.0.0.0.0;
        answer_length = h.0.0.0.0.1;
        first_whole = h.0.0.0.1;
        second_whole = h.0.0.1;
        entries_whole = h.0.1;
        list_whole = h.1;
      })
      (λ l. (((((l.state_length, l.answer_length), l.first_whole), l.second_whole), l.entries_whole), l.list_whole))
      (tells_and
      (tells_and
      (tells_and
      (tells_and (tells_and (tells_eq state state_bytes) (tells_eq answer answer_bytes)) (tells_whole most_bucket_bytes first))
      (tells_whole most_bucket_bytes second))
      (tells_whole most_entry_bytes entries))
      (tells_four list))

  pub lengths : (t : Bool) → t ≡ lengths_fit state first second entries list answer → t ≡ true
      → Lengths state first second entries list answer
  lengths t q h = told tells_lengths (sym q ∙ h)

module _ (state : List ℕ) (first second entries list answer : ℕ) where
  tells_fits : Tells (Checked state first second entries list answer)
      (lengths_fit (length state) first second entries list answer && flags_fit (decode state))
  tells_fits =
      tells_same
      (λ h. record { lengths = h.0; fits = record { has_all_bytes = h.0.state_length; flags = h.1 } })
      (λ k. (k.lengths, k.fits.flags))
      (tells_and (tells_lengths (length state) first second entries list answer) (tells_true (flags_fit (decode state))))

  pub checked : (t : Bool) → t ≡ (lengths_fit (length state) first second entries list answer && flags_fit (decode state))
      → t ≡ true → Checked state first second entries list answer
  checked t q h = told tells_fits (sym q ∙ h)

  -- The check's code: the flags are asked once the lengths fit

  module _ (t : Bool) (q : t ≡ lengths_fit (length state) first second entries list answer) where
    pub whole_state : t ≡ true → length state ≡ state_bytes
    whole_state h = (lengths (length state) first second entries list answer t q h).state_length

    pub flags_missing : (r : Option State) → t ≡ true → IfNone r (flags_fit (decode state) ≡ false)
        → IfNone r ((lengths_fit (length state) first second entries list answer && flags_fit (decode state)) ≡ false)
    flags_missing (Some s) h e = e
    flags_missing None h e = rw (sym q ∙ h, e)

    pub flags_present : (r : Option State) → t ≡ true → IfSome r (StateGiven state)
        → IfSome r (Passed state first second entries list answer)
    flags_present (Some s) h e = record { passed = rw (sym q ∙ h, e.fits.flags) refl; read = e.read }
    flags_present None h e = e

    pub not_asked : t ≡ false → (lengths_fit (length state) first second entries list answer && flags_fit (decode state)) ≡ false
    not_asked h = rw (sym q ∙ h) refl

-- The answer, where the check fails

pub cleared_whole : (answer out : List ℕ) → length answer ≡ answer_bytes → out ≡ encode (0 ∷ 0 ∷ []) → out ≡ cleared answer
unfolding cleared results
cleared_whole answer out h e = rw (tested (tells_eq (length answer) answer_bytes) h) e

pub kept_other : (answer : List ℕ) → (length answer ≡ answer_bytes → ⊥) → answer ≡ cleared answer
unfolding cleared
kept_other answer h = rw (tested_not (tells_eq (length answer) answer_bytes) h)
