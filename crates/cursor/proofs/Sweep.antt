-- One call with two live tables, of sizes 2 ^ b and 2 ^ (b + e): the sweep over the larger one's buckets counts up in the
-- reversed cursor, at the larger table's width, to the end of the smaller bucket's interval.
use Rattle.std.proofs.Common.{◌≡◌, ℕ, zero, suc, ◌+◌, ◌-◌, ◌*◌, ◌/◌, ◌%◌, ◌^◌, ◌<◌, ◌≤◌, true, false, ◌≢◌, List, [], ◌∷◌, sym, ◌∙◌, le_of_suc-le-suc, mul-le-mul_right, mod-lt, mod-eq_of_lt, suc-mul, add_comm, lt_of_not-le, zero-add, zero-mul, arith, pow_pos, pow-add, shr_lt, le-ltb, lt-ltb}
use native.Mathlib.Nat.{mod-add-mod, mul-mod_left, mul-div_cancel_left, le_dest}
use lib.Pow.{split, low}
use Rattle.cursor.specs.Reverse.{reverse}
use Rattle.cursor.specs.Next.{next}
use Rattle.cursor.specs.Group.{between_zero, sweep}
use Rattle.cursor.proofs.Reversal.{reverse_lt, reverse_split, reverse_twice, reverse_zero, reverse_shifted, mod_shifted}
use Rattle.cursor.proofs.NextCursor.{next_lt, next_short, next_reversed}
use Rattle.cursor.proofs.Interval.{reverse_below}

-- the sweep's two steps
pub sweep_stop :
    (f small large v : ℕ)
    → between_zero small large (next large v) ≡ true
    → sweep (suc f) small large v ≡ record { buckets = v % large ∷ []; cursor = next large v }
unfolding sweep
sweep_stop f small large v e = rw (e, sweep)

pub sweep_on :
    (f small large v : ℕ)
    → between_zero small large (next large v) ≡ false
    → sweep (suc f) small large v
    ≡ record { buckets = v % large ∷ (sweep f small large (next large v)).buckets; cursor = (sweep f small large (next large v)).cursor }
unfolding sweep
sweep_on f small large v e = rw (e, sweep)

-- m numbers from q on, each reversed
unfoldable pub up_from : ℕ → ℕ → ℕ → List ℕ
up_from c zero q = []
up_from c (suc m) q = reverse c q ∷ up_from c m (suc q)

-- the bits between the sizes are zero where the reversal is a multiple of 2 ^ e
module _ (b e w : ℕ) (below : w < 2 ^ (b + e)) where
  multiple_small : reverse (b + e) w % 2 ^ e ≡ 0 → w < 2 ^ b
  multiple_small z =
      let rest : reverse e (w / 2 ^ b) ≡ 0 = sym (low (reverse b w) e (reverse_lt e (w / 2 ^ b))) ∙ rw (← reverse_split) z in
      let high : w / 2 ^ b % 2 ^ e ≡ 0 = rw (← reverse_twice, rest, reverse_zero) in
      let short : w / 2 ^ b < 2 ^ e = shr_lt e b (rw (add_comm e b) below) in
      let whole : w ≡ w % 2 ^ b = rw (← mod-eq_of_lt short, high, zero-mul, zero-add) at (sym (split w b)) in
      omega (arith, mod-lt w (pow_pos b))

  between_true : reverse (b + e) w % 2 ^ e ≡ 0 → between_zero (2 ^ b) (2 ^ (b + e)) w ≡ true
  unfolding between_zero
  between_true z = rw (mod-eq_of_lt below) (lt-ltb w (2 ^ b) (multiple_small z))

  between_false : reverse (b + e) w % 2 ^ e ≢ 0 → between_zero (2 ^ b) (2 ^ (b + e)) w ≡ false
  unfolding between_zero
  between_false ne =
      rw (mod-eq_of_lt below)
      (le-ltb w (2 ^ b) (le_of_suc-le-suc (lt_of_not-le (λ l. ne (rw (reverse_below b e w l, mul-mod_left))))))

-- less than p before a multiple of p there is none
off_multiple : (q t p m : ℕ) → q + m ≡ t * p → 0 < m → m < p → q % p ≢ 0
off_multiple q t p m e pos short z =
    let wrapped : m % p ≡ t * p % p = rw (z, e, zero-add) at (mod-add-mod q p m) in
    omega (arith, mod-eq_of_lt short, mul-mod_left t p)

-- The sweep from v, m numbers before the multiple t of 2 ^ e: it hands out those numbers, reversed, and answers that multiple.
sweep_counts :
    (b e t m f v : ℕ)
    → b + e ≤ 32
    → reverse (b + e) v + suc m ≡ t * 2 ^ e
    → suc m ≤ 2 ^ e
    → t ≤ 2 ^ b
    → suc m ≤ f
    → sweep f (2 ^ b) (2 ^ (b + e)) v
    ≡ record { buckets = up_from (b + e) (suc m) (reverse (b + e) v); cursor = reverse (b + e) (t * 2 ^ e % 2 ^ (b + e)) }
unfolding up_from
sweep_counts b e t m zero v h q short top fuel = absurd (omega arith)
sweep_counts b e t zero (suc f) v h q short top fuel =
    let up : suc (reverse (b + e) v) ≡ t * 2 ^ e = omega arith in
    let there : reverse (b + e) (next (2 ^ (b + e)) v) % 2 ^ e ≡ 0 = rw (next_reversed (b + e) v h, up, mod_shifted, mul-mod_left) in
    rw (sweep_stop f (2 ^ b) (2 ^ (b + e)) v (between_true b e (next (2 ^ (b + e)) v) (next_lt (b + e) v h) there), next_short (b + e) v h, up, reverse_twice)
sweep_counts b e t (suc m) (suc f) v h q short top fuel =
    let w = next (2 ^ (b + e)) v in
    let inside : suc (reverse (b + e) v) < 2 ^ (b + e) = rw pow-add (omega (arith, mul-le-mul_right (2 ^ e) top)) in
    let up : reverse (b + e) w ≡ suc (reverse (b + e) v) = rw (next_reversed (b + e) v h, mod-eq_of_lt inside) in
    let on = sweep_on f (2 ^ b) (2 ^ (b + e)) v (between_false b e w (next_lt (b + e) v h) (off_multiple (reverse (b + e) w) t (2 ^ e) (suc m) (omega arith) (omega arith) (omega arith))) in
    rw (on, sweep_counts b e t m f w h (omega arith) (omega arith) top (omega arith), up, reverse_twice)

-- how many of the larger table's buckets are left in the smaller bucket's interval, from v on
unfoldable pub remaining : ℕ → ℕ → ℕ → ℕ
remaining b e v = 2 ^ e - reverse e (v / 2 ^ b)

-- The sweep hands these out and answers the smaller size's next cursor, where it may take 2 ^ e buckets or more.
pub sweep_whole :
    (b e f v : ℕ)
    → b + e ≤ 32
    → 2 ^ e ≤ f
    → sweep f (2 ^ b) (2 ^ (b + e)) v
    ≡ record { buckets = up_from (b + e) (remaining b e v) (reverse (b + e) v); cursor = next (2 ^ b) v }
unfolding remaining
sweep_whole b e f v h fuel =
    let (m, d) = le_dest (reverse_lt e (v / 2 ^ b)) in
    let count : 2 ^ e - reverse e (v / 2 ^ b) ≡ suc m = omega arith in
    let end : reverse (b + e) v + suc m ≡ suc (reverse b v) * 2 ^ e = rw (reverse_split, suc-mul) (omega arith) in
    rw (sweep_counts b e (suc (reverse b v)) m f v h end (omega arith) (reverse_lt b v) (omega arith), count, mod_shifted, reverse_shifted, next_short b v (omega arith))

-- the bound of the two-table group is enough
pub fuel : (b e : ℕ) → 2 ^ (b + e) / 2 ^ b ≡ 2 ^ e
fuel b e = rw (pow-add, mul-div_cancel_left (2 ^ e) (pow_pos b))
