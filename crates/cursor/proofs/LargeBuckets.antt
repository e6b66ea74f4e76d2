-- What a call with two live tables of sizes 2 ^ b < 2 ^ c hands out of the larger one, and the cursor that it answers.
use Rattle.std.proofs.Common.{◌≡◌, ℕ, zero, suc, ◌+◌, ◌-◌, ◌*◌, ◌/◌, ◌%◌, ◌^◌, ◌<◌, ◌≤◌, false, ◌↔◌, List, length, sym, refl, ap, ◌∙◌, subst, inl, inr, ⊎_elim, le_of_eq, le_of_lt, mod-eq_of_lt, eq-or-lt_of_le, arith, pow_pos, ltb-false}
use native.Mathlib.Nat.{mod-le, le_dest, add-sub_cancel_left}
use Rattle.cursor.specs.Reverse.{reverse, rev}
use Rattle.cursor.specs.Next.{next}
use Rattle.cursor.specs.Group.{between_zero, sweep, two_tables}
use Rattle.cursor.specs.Member.{In, Distinct}
use Rattle.cursor.proofs.Reversal.{reverse_lt, reverse_split, reverse_mod, reverse_twice}
use Rattle.cursor.proofs.Interval.{Interval, interval, start_reversed, start_order}
use Rattle.cursor.proofs.Sweep.{up_from, remaining, sweep_whole, fuel}

up_length : (c m q : ℕ) → length (up_from c m q) ≡ m
unfolding up_from
up_length c zero q = refl
up_length c (suc m) q = ap suc (up_length c m (suc q))

-- what is in the list is the reversal of one of its numbers
up_in : (c m q x : ℕ) → In x (up_from c m q) → (j : ℕ) × (q ≤ j) × (j < q + m) × (x ≡ reverse c j)
unfolding up_from
up_in c zero q x i = absurd i
up_in c (suc m) q x (inl e) = (q, omega arith, omega arith, e)
up_in c (suc m) q x (inr i) =
    let (j, lo, hi, e) = up_in c m (suc q) x i in
    (j, omega arith, omega arith, e)

-- and the reversal of each of its numbers is in it
in_up : (c m q j : ℕ) → q ≤ j → j < q + m → In (reverse c j) (up_from c m q)
unfolding up_from
in_up c zero q j lo hi = absurd (omega arith)
in_up c (suc m) q j lo hi =
    ⊎_elim
    (λ e. inl (ap (reverse c) (sym e)))
    (λ l. inr (in_up c m (suc q) j l (omega arith)))
    (eq-or-lt_of_le lo)

-- below 2 ^ c no two numbers have the same reversal, so the list has no repeats
up_distinct : (c m q : ℕ) → q + m ≤ 2 ^ c → Distinct (up_from c m q)
unfolding up_from
up_distinct c zero q top = tt
up_distinct c (suc m) q top = (other, up_distinct c m (suc q) (omega arith))
  where
    other : In (reverse c q) (up_from c m (suc q)) → ⊥
    other i =
        let (j, lo, hi, e) = up_in c m (suc q) (reverse c q) i in
        let same : q % 2 ^ c ≡ j % 2 ^ c = sym (reverse_twice c q) ∙ ap (reverse c) e ∙ reverse_twice c j in
        let q_low : q % 2 ^ c ≡ q = mod-eq_of_lt (omega arith) in
        let j_low : j % 2 ^ c ≡ j = mod-eq_of_lt (omega arith) in
        omega arith

-- a number's bucket is in the list exactly where its reversal is among the list's numbers
up_bucket : (c m q k : ℕ) → q + m ≤ 2 ^ c → In (k % 2 ^ c) (up_from c m q) ↔ ((q ≤ reverse c k) × (reverse c k < q + m))
up_bucket c m q k top = (
  λ i.
      let (j, lo, hi, e) = up_in c m q (k % 2 ^ c) i in
      let low : j % 2 ^ c ≡ j = mod-eq_of_lt (omega arith) in
      let same : reverse c k ≡ j = sym (reverse_mod c k) ∙ ap (reverse c) e ∙ reverse_twice c j ∙ low in
      (omega arith, omega arith),
  λ l. rw (← reverse_twice c k) (in_up c m q (reverse c k) l.0 l.1),
)

-- The larger table's buckets of one call at cursor v: numbers of buckets, all inside the smaller table's bucket, none twice, at
-- least one and no more than fit. They are the buckets of exactly those k in the smaller table's bucket whose reversal is at or
-- after the start of v's bucket in the larger table.
pub record LargeBuckets (b c v : ℕ) (large : List ℕ) : Type 0 where
  pub below : (x : ℕ) → In x large → x < 2 ^ c
  pub inside : (x : ℕ) → In x large → x % 2 ^ b ≡ v % 2 ^ b
  pub distinct : Distinct large
  pub some : 1 ≤ length large
  pub few : length large ≤ 2 ^ (c - b)
  pub holds : (k : ℕ) → k % 2 ^ b ≡ v % 2 ^ b → rev (v % 2 ^ c) ≤ rev k → In (k % 2 ^ c) large
  pub only : (k : ℕ) → In (k % 2 ^ c) large → (k % 2 ^ b ≡ v % 2 ^ b) × (rev (v % 2 ^ c) ≤ rev k)

-- numbers from v's reversal to the end of the smaller bucket's interval make such a list
module _ (b c v m : ℕ) (h : c ≤ 32) (small : Interval c b v) (end : reverse c v + m ≡ small.start + small.width) where
  numbers_only : (k : ℕ) → In (k % 2 ^ c) (up_from c m (reverse c v)) → (k % 2 ^ b ≡ v % 2 ^ b) × (rev (v % 2 ^ c) ≤ rev k)
  unfolding rev
  numbers_only k i =
      let l = (up_bucket c m (reverse c v) k (omega (arith, small.ends))).0 i in
      let first = (small.within v refl).0 in
      (small.only k (omega arith) (omega arith), (start_order 32 c v k h).1 l.0)

  numbers_large : 0 < m → m ≤ 2 ^ (c - b) → LargeBuckets b c v (up_from c m (reverse c v))
  unfolding rev
  numbers_large pos few = record {
    below = below;
    inside = λ x i. (numbers_only x (rw (mod-eq_of_lt (below x i)) i)).0;
    distinct = up_distinct c m (reverse c v) top;
    some = rw up_length pos;
    few = rw up_length few;
    holds = λ k same l. (up_bucket c m (reverse c v) k top).1 ((start_order 32 c v k h).0 l, omega (arith, small.within k same));
    only = numbers_only;
  }
    where
      top : reverse c v + m ≤ 2 ^ c
      top = omega (arith, small.ends)

      below : (x : ℕ) → In x (up_from c m (reverse c v)) → x < 2 ^ c
      below x i = let (j, lo, hi, e) = up_in c m (reverse c v) x i in subst (λ y. y < 2 ^ c) (sym e) (reverse_lt c j)

-- Everything about a call with two live tables, and that its bound on the larger one's buckets is never met.
record TwoTableCall (b c v : ℕ) : Type 0 where
  pub answers : (two_tables (2 ^ b) (2 ^ c) v).answered ≡ next (2 ^ b) v
  pub buckets : LargeBuckets b c v (two_tables (2 ^ b) (2 ^ c) v).large
  pub unbounded : sweep (2 ^ c / 2 ^ b) (2 ^ b) (2 ^ c) v ≡ sweep (suc (2 ^ c / 2 ^ b)) (2 ^ b) (2 ^ c) v

two_at : (b e v : ℕ) → b + e ≤ 32 → TwoTableCall b (b + e) v
unfolding two_tables remaining
two_at b e v h =
    let small = interval (b + e) b v (omega arith) (omega arith) in
    let left = reverse_lt e (v / 2 ^ b) in
    let begin : small.start ≡ reverse b v * 2 ^ e = sym small.starts ∙ start_reversed b e v in
    let wide : small.width ≡ 2 ^ e = small.wide ∙ rw add-sub_cancel_left in
    let end : reverse (b + e) v + remaining b e v ≡ small.start + small.width = rw (begin, wide, reverse_split) (omega arith) in
    let handed = numbers_large b (b + e) v (remaining b e v) h small end (omega arith) (rw add-sub_cancel_left (omega arith)) in
    let swept = sweep_whole b e (2 ^ (b + e) / 2 ^ b) v h (le_of_eq (sym (fuel b e))) in
    record {
      answers = ap (λ s. s.cursor) swept;
      buckets = subst (λ s. LargeBuckets b (b + e) v s.buckets) (sym swept) handed;
      unbounded = swept ∙ sym (sweep_whole b e (suc (2 ^ (b + e) / 2 ^ b)) v h (omega (arith, fuel b e)));
    }

two_tables_lem : (b c v : ℕ) → b < c → c ≤ 32 → TwoTableCall b c v
two_tables_lem b c v l h =
    let (e, s) = le_dest (le_of_lt l) in
    subst (λ d. d ≤ 32 → TwoTableCall b d v) s (two_at b e v) h

-- the call answers the smaller size's next cursor
pub two_answers : (b c v : ℕ) → b < c → c ≤ 32 → (two_tables (2 ^ b) (2 ^ c) v).answered ≡ next (2 ^ b) v
two_answers b c v l h = (two_tables_lem b c v l h).answers

-- what it hands out of the larger table
pub two_large : (b c v : ℕ) → b < c → c ≤ 32 → LargeBuckets b c v (two_tables (2 ^ b) (2 ^ c) v).large
two_large b c v l h = (two_tables_lem b c v l h).buckets

-- the sweep's bound may be one more: so each of its steps goes on with the same bound
pub sweep_unbounded :
    (b c v : ℕ) → b < c → c ≤ 32
    → sweep (2 ^ c / 2 ^ b) (2 ^ b) (2 ^ c) v ≡ sweep (suc (2 ^ c / 2 ^ b)) (2 ^ b) (2 ^ c) v
sweep_unbounded b c v l h = (two_tables_lem b c v l h).unbounded

-- where the sweep goes on the reversed cursor climbs
pub sweep_climbs :
    (b c v : ℕ) → c ≤ 32 → between_zero (2 ^ b) (2 ^ c) (next (2 ^ c) v) ≡ false → rev v < rev (next (2 ^ c) v)
unfolding rev between_zero
sweep_climbs b c v h f =
    let bucket = interval 32 c v h h in
    let on = bucket.follows (λ z. omega (arith, pow_pos b, ltb-false (next (2 ^ c) v % 2 ^ c) (2 ^ b) f, mod-le (next (2 ^ c) v) (2 ^ c))) in
    omega (arith, bucket.within v refl)
