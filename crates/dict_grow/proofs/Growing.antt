-- Growth behind an add, from what the calls answer.
-- Assumes nothing.
use Prim.Native.Nat.{ℕ, ◌*◌, ◌^◌, ◌≤◌, ◌<◌}
use mathlib.Core.Path.{◌≡◌, refl, sym, ap, subst, ◌∙◌}
use mathlib.Core.Bool.{Bool, true, false, ◌&&◌, not, cond, and_assoc}
use mathlib.Core.List.{List}
use native.Mathlib.Omega.{arith}
use lib.Dec.{ltb}
use lib.Pow.{pow_mono}
use borrow.Author.Tests.{lt-ltb, le-ltb}
use Rattle.model.specs.declared.State.{State}
use Rattle.model.specs.declared.Error.{Error}
use Rattle.model.specs.Limits.{largest_exponent, legal_size, force_ratio}
use Rattle.model.specs.Memory.{keys_held}
use Rattle.model.specs.Calls.{After, resize, suggested, crowded, growth_due, grown_by, grown, then_grown, add_after_step, add}
use Rattle.model.proofs.Power.{power_of}
use Rattle.model.proofs.AddLeaves.{Growable, AddLeaves, add_leaves}
use Rattle.std.specs.Prelude.{Result, Ok, Err}
use Rattle.std.specs.Result.{result_unwrap_or}

-- ---- the test

-- a legal size so many times is a number of 32 bits
pub forced_fits : (size : ℕ) → legal_size size ≡ true → size * force_ratio < 2 ^ 32
unfolding legal_size largest_exponent force_ratio
forced_fits size h = let q = power_of largest_exponent size h in omega (arith, pow_mono q.1)

-- there is one table, and it is crowded
abbrev one_crowded : State → Bool
one_crowded s = not s.rehashing && crowded s.resize_allowed s.old_size (keys_held s)

-- by that test, the size that the table should have
pub wanted : (s : State) (t full : Bool) (size : ℕ) → t ≡ crowded s.resize_allowed s.old_size (keys_held s)
    → (not s.rehashing && t) ≡ full → size ≡ cond full (suggested true (keys_held s)) s.old_size
    → size ≡ cond (one_crowded s) (suggested true (keys_held s)) s.old_size
wanted s t full size e f h = rw (← e, f) h

-- ---- the resize

-- the state that it leaves, or else the one before it
pub resized_or : (s : State) (a : Result State Error) (x y z : List ℕ) (meant : After (Result State Error)) → After.after a x y z ≡ meant
    → (t : State) → t ≡ result_unwrap_or a s → After.after (Ok t) x y z ≡ grown_by s meant
unfolding grown_by
resized_or s (Ok n) x y z meant e t h = rw h (ap (grown_by s) e)
resized_or s (Err error) x y z meant e t h = rw h (ap (grown_by s) e)

-- it begins where the wanted size is above the present one: the definition's two tests
module _ (s : State) (first second entries : List ℕ) where
  by_tests : (full larger : Bool) → one_crowded s ≡ full → ltb s.old_size (suggested true (keys_held s)) ≡ larger
      → cond (full && larger) (grown_by s (resize s first second entries (suggested true (keys_held s))))
      (After.after (Ok s) first second entries)
      ≡ grown s first second entries
  unfolding grown growth_due
  by_tests full larger f l = rw (← f, ← l, and_assoc)

  module _ (size : ℕ) (e : size ≡ cond (one_crowded s) (suggested true (keys_held s)) s.old_size) where
    pub not_larger : size ≤ s.old_size → After.after (Ok s) first second entries ≡ grown s first second entries
    not_larger l = by (one_crowded s) refl e
      where
        by : (full : Bool) → one_crowded s ≡ full → size ≡ cond full (suggested true (keys_held s)) s.old_size
            → After.after (Ok s) first second entries ≡ grown s first second entries
        by true f e = by_tests true false f (rw e at (le-ltb s.old_size size l))
        by false f e = by_tests false _ f refl

    pub larger : (a : Result State Error) (x y : List ℕ) → s.old_size < size
        → After.after a x y entries ≡ grown_by s (resize s first second entries size)
        → After.after a x y entries ≡ grown s first second entries
    larger a x y l r = by (one_crowded s) refl e
      where
        by : (full : Bool) → one_crowded s ≡ full → size ≡ cond full (suggested true (keys_held s)) s.old_size
            → After.after a x y entries ≡ grown s first second entries
        by true f e = (rw e at r) ∙ by_tests true true f (rw e at (lt-ltb s.old_size size l))
        by false f e = absurd (omega arith)

-- ---- the add

module _ (s : State) (first second entries : List ℕ) (key value : ℕ) (x y z : List ℕ) where
  pub add_refused : (error : Error) → After.after (Err error) x y z ≡ add_after_step s first second entries key value
      → After.after (Err error) x y z ≡ add s first second entries key value
  unfolding add then_grown
  add_refused error e = ap then_grown e

  module _ (t : State) (e : After.after (Ok t) x y z ≡ add_after_step s first second entries key value) where
    pub growable : Growable t
    unfolding AddLeaves
    growable = subst AddLeaves (sym e) (add_leaves key value s first second entries)

    pub add_grown : (b : Result State Error) (v w : List ℕ) → After.after b v w z ≡ grown t x y z
        → After.after b v w z ≡ add s first second entries key value
    unfolding add then_grown
    add_grown b v w g = g ∙ ap then_grown e
