-- The larger table's buckets of a walk call, one after the other: the bucket of the cursor, then those from the next cursor
-- on, unless that is below the smaller size.
-- Assumes nothing.
use Prim.Native.Nat.{ℕ, suc, ◌/◌, ◌%◌, ◌^◌, ◌≤◌, ◌<◌}
use mathlib.Core.Path.{◌≡◌, refl, sym, ap, ◌∙◌}
use mathlib.Core.Bool.{Bool, true, false}
use mathlib.Core.List.{List, ◌∷◌}
use native.Mathlib.Nat.{mod-eq_of_lt}
use native.Mathlib.Omega.{arith}
use lib.Dec.{ltb, leb}
use borrow.Author.Tests.{lt-ltb, le-ltb, leb-true, leb-false}
use Rattle.cursor.specs.Next.{next}
use Rattle.cursor.specs.Group.{between_zero, sweep, one_table, two_tables}
use Rattle.cursor.proofs.NextCursor.{next_lt}
use Rattle.cursor.proofs.Sweep.{sweep_stop, sweep_on}
use Rattle.cursor.specs.Member.{In}
use Rattle.cursor.proofs.LargeBuckets.{sweep_unbounded, two_answers, two_large}
use Rattle.model.specs.Keys.{bucket_of, hash}
use Rattle.model.specs.Limits.{legal_size, largest_exponent}
use Rattle.model.proofs.Power.{power_of, exponent_lt}
use Rattle.scan_group.specs.Sweep.{buckets_left}
use Rattle.std.specs.Prelude.{Some, Option}
use Rattle.std.specs.Bool.{then_some}
use Rattle.scan_group.specs.declared.sweep.Sweep.{Sweep}
use Rattle.scan_group.specs.declared.lent.Group.{Group}
use Rattle.scan_group.specs.Chains.{larger_buckets}

-- the buckets from the cursor on
abbrev pub buckets_from : ℕ → ℕ → ℕ → List ℕ
buckets_from small large at = (two_tables small large at).large

-- two sizes as powers of two
record Exponents (small large : ℕ) : Type 0 where
  pub b : ℕ
  pub c : ℕ
  pub less : b < c
  pub short : c ≤ 32
  pub small_is : small ≡ 2 ^ b
  pub large_is : large ≡ 2 ^ c

-- the bound on the sweep may be one more
one_more : (small large at : ℕ) → Exponents small large
    → sweep (large / small) small large at ≡ sweep (suc (large / small)) small large at
one_more small large at e = go e.b e.c e.less e.short e.small_is e.large_is
  where
    go : (b c : ℕ) → b < c → c ≤ 32 → small ≡ 2 ^ b → large ≡ 2 ^ c
        → sweep (large / small) small large at ≡ sweep (suc (large / small)) small large at
    go b c l s p q = rw (p, q) (sweep_unbounded b c at l s)

-- the next cursor is below the larger size, so the bits between the sizes are zero where it is below the smaller one
between : (small large at : ℕ) → Exponents small large → between_zero small large (next large at) ≡ ltb (next large at) small
unfolding between_zero
between small large at e =
    rw (mod-eq_of_lt (go e.c e.short e.large_is))
  where
    go : (c : ℕ) → c ≤ 32 → large ≡ 2 ^ c → next large at < large
    go c s q = rw q (next_lt c at s)

-- two legal sizes
pub record Sizes (small large : ℕ) : Type 0 where
  pub small_legal : legal_size small ≡ true
  pub large_legal : legal_size large ≡ true
  pub smaller : small < large

module _ (small large : ℕ) (h : Sizes small large) where
  exponents : Exponents small large
  unfolding legal_size largest_exponent
  exponents =
      let p = power_of largest_exponent small h.small_legal in
      let q = power_of largest_exponent large h.large_legal in
      record {
        b = p.0;
        c = q.0;
        less = exponent_lt p.0 q.0 p.2 q.2 h.smaller;
        short = omega (arith, q.1);
        small_is = p.2;
        large_is = q.2;
      }

  module _ (at : ℕ) where
    -- the bucket of the cursor comes first, and the others unless the next cursor is below the smaller size
    split_at : (more : Bool) → leb small (next large at) ≡ more
        → buckets_from small large at ≡ at % large ∷ buckets_left small large (then_some more (next large at))
    unfolding two_tables buckets_left
    split_at false e =
        ap (λ s. s.buckets)
        (one_more small large at exponents ∙ sweep_stop (large / small) small large at (between small large at exponents ∙ lt-ltb _ _ (leb-false _ _ e)))
    split_at true e =
        ap (λ s. s.buckets)
        (one_more small large at exponents ∙ sweep_on (large / small) small large at (between small large at exponents ∙ le-ltb _ _ (leb-true _ _ e)))

    module _ (turned : ℕ) (n : (c : ℕ) → large ≡ 2 ^ c → turned ≡ next large at) where
      turned_is : turned ≡ next large at
      turned_is = let e = exponents in n e.c e.large_is

      step : (b : ℕ) → b ≡ bucket_of at large
          → buckets_left small large (Some at) ≡ b ∷ buckets_left small large (then_some (leb small turned) turned)
      unfolding buckets_left bucket_of hash
      step b i = rw (i, turned_is) (split_at (leb small (next large at)) refl)

pub sweep_step : (s : Sweep) (at turned b : ℕ) (rest : Option ℕ) → s.next ≡ Some at
    → ((c : ℕ) → s.large ≡ 2 ^ c → turned ≡ next s.large at) → rest ≡ then_some (leb s.small turned) turned
    → (b ≡ bucket_of at s.large) × (b < s.large)
    → buckets_left s.small s.large s.next ≡ b ∷ buckets_left s.small s.large rest
sweep_step s at turned b rest e n r i =
    rw (e, r) (step s.small s.large (record { small_legal = s.small_legal; large_legal = s.large_legal; smaller = s.smaller }) at turned n b i.0)

-- the sizes of a group, and its larger table's buckets, all of them below its size
pub sizes_of : (g : Group) → Sizes g.small.size g.large.size
sizes_of g = record { small_legal = g.small.legal; large_legal = g.large.legal; smaller = g.smaller }

pub larger_below : (g : Group) (x : ℕ) → In x (larger_buckets g) → x < g.large.size
larger_below g x i = let e = exponents _ _ (sizes_of g) in go e.b e.c e.less e.short e.small_is e.large_is i
  where
    go : (b c : ℕ) → b < c → c ≤ 32 → g.small.size ≡ 2 ^ b → g.large.size ≡ 2 ^ c
        → In x (two_tables g.small.size g.large.size g.cursor).large → x < g.large.size
    go b c l s p q = rw (p, q) ((two_large b c g.cursor l s).below x)

-- a call answers the next cursor, with two live tables that of the smaller size
pub one_answered : (size cursor turned : ℕ) → legal_size size ≡ true → ((c : ℕ) → size ≡ 2 ^ c → turned ≡ next size cursor)
    → turned ≡ (one_table size cursor).answered
unfolding legal_size one_table
one_answered size cursor turned h t = let p = power_of largest_exponent size h in t p.0 p.2

pub two_answered : (small large cursor turned : ℕ) → Sizes small large
    → ((c : ℕ) → small ≡ 2 ^ c → turned ≡ next small cursor) → turned ≡ (two_tables small large cursor).answered
two_answered small large cursor turned h t =
    let e = exponents small large h in
    t e.b e.small_is ∙ sym (go e.b e.c e.less e.short e.small_is e.large_is)
  where
    go : (b c : ℕ) → b < c → c ≤ 32 → small ≡ 2 ^ b → large ≡ 2 ^ c → (two_tables small large cursor).answered ≡ next small cursor
    go b c l s p q = rw (p, q) (two_answers b c cursor l s)
