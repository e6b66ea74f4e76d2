-- The next cursor of a table of size 2 ^ b, with no word size: one more, counted in the reversed lowest b bits.
use Rattle.std.proofs.Common.{◌≡◌, ℕ, suc, ◌+◌, ◌-◌, ◌*◌, ◌%◌, ◌^◌, ◌<◌, ◌≤◌, ◌≢◌, ◌⊎◌, sym, ap, ◌∙◌, subst, inl, inr, ⊎_elim, mod-lt, mod-eq_of_lt, suc-mul, add_comm, eq-or-lt_of_le, arith, pow_pos}
use native.Mathlib.Nat.{mod-mod, mod_self, le_dest}
use lib.Pow.{high, low, high_ones}
use Rattle.cursor.specs.Reverse.{reverse, rev}
use Rattle.cursor.specs.Next.{next, set_high, add_one}
use Rattle.cursor.proofs.Reversal.{reverse_lt, reverse_split, reverse_mod, reverse_twice, reverse_ones, reverse_zero, reverse_shifted, mod_shifted}

-- the published rule, at any word size n
next_at : ℕ → ℕ → ℕ → ℕ
next_at n size v = reverse n ((reverse n (v % size + (2 ^ n - size)) + 1) % 2 ^ n)

-- with the high bits set, the reversal ends in ones
set_high_reversed : (b d v : ℕ) → reverse (b + d) (v % 2 ^ b + (2 ^ (b + d) - 2 ^ b)) ≡ reverse b v * 2 ^ d + (2 ^ d - 1)
set_high_reversed b d v =
    let below = mod-lt v (pow_pos b) in
    let ones = (2 ^ d - 1) * 2 ^ b + v % 2 ^ b in
    rw (reverse_split, add_comm b d, high_ones, add_comm (v % 2 ^ b), ← reverse_mod b ones, low (2 ^ d - 1) b below, high (2 ^ d - 1) b below, reverse_mod, reverse_ones)

next_at_lem : (b d v : ℕ) → next_at (b + d) (2 ^ b) v ≡ reverse b (suc (reverse b v) % 2 ^ b)
unfolding next_at
next_at_lem b d v =
    let up : reverse b v * 2 ^ d + (2 ^ d - 1) + 1 ≡ suc (reverse b v) * 2 ^ d = rw suc-mul (omega (arith, pow_pos d)) in
    rw (set_high_reversed, up, mod_shifted, reverse_shifted)

-- the published next cursor is one more in the reversed lowest b bits
pub next_short : (b v : ℕ) → b ≤ 32 → next (2 ^ b) v ≡ reverse b (suc (reverse b v) % 2 ^ b)
unfolding next_at next set_high add_one rev
next_short b v h = let (d, e) = le_dest h in subst (λ n. next_at n (2 ^ b) v ≡ reverse b (suc (reverse b v) % 2 ^ b)) e (next_at_lem b d v)

-- for a table of at most 2^16 buckets the rule at 16 bits gives the same
pub next_sixteen : (b v : ℕ) → b ≤ 16 → next (2 ^ b) v ≡ reverse 16 ((reverse 16 (v % 2 ^ b + (2 ^ 16 - 2 ^ b)) + 1) % 2 ^ 16)
unfolding next_at
next_sixteen b v h =
    let (d, e) = le_dest h in
    let short = next_short b v (omega arith) in
    short ∙ sym (subst (λ n. next_at n (2 ^ b) v ≡ reverse b (suc (reverse b v) % 2 ^ b)) e (next_at_lem b d v))

-- it is a bucket of the table
pub next_lt : (b v : ℕ) → b ≤ 32 → next (2 ^ b) v < 2 ^ b
next_lt b v h = rw next_short (reverse_lt b (suc (reverse b v) % 2 ^ b))

-- its reversal: one more, where all ones becomes 0
pub next_reversed : (b v : ℕ) → b ≤ 32 → reverse b (next (2 ^ b) v) ≡ suc (reverse b v) % 2 ^ b
next_reversed b v h = rw (next_short, reverse_twice, mod-mod)

-- either it wraps, or it counts up
Counted : ℕ → ℕ → Type 0
Counted b v = ((suc (reverse b v) ≡ 2 ^ b) × (next (2 ^ b) v ≡ 0)) ⊎ (reverse b (next (2 ^ b) v) ≡ suc (reverse b v))

counted : (b v : ℕ) → b ≤ 32 → Counted b v
unfolding Counted
counted b v h = go (eq-or-lt_of_le (reverse_lt b v))
  where
    go : (suc (reverse b v) ≡ 2 ^ b) ⊎ (suc (reverse b v) < 2 ^ b) → Counted b v
    go (inl e) = inl (e, rw (next_short, e, mod_self, reverse_zero))
    go (inr l) = inr (rw (next_reversed, mod-eq_of_lt l))

-- a next cursor other than 0 counts up by one
pub next_up : (b v : ℕ) → b ≤ 32 → next (2 ^ b) v ≢ 0 → reverse b (next (2 ^ b) v) ≡ suc (reverse b v)
unfolding Counted
next_up b v h ne = ⊎_elim (λ w. absurd (ne w.1)) (λ e. e) (counted b v h)

-- the next cursor is 0 after the last bucket
pub next_wraps : (b v : ℕ) → b ≤ 32 → next (2 ^ b) v ≡ 0 → suc (reverse b v) ≡ 2 ^ b
unfolding Counted
next_wraps b v h z = ⊎_elim (λ w. w.0) (λ e. absurd (omega (arith, ap (reverse b) z, reverse_zero b))) (counted b v h)
