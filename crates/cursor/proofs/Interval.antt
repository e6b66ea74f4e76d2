-- The numbers of one bucket, in the order of their reversals at a width of n bits: an interval, which the next bucket's follows.
use Rattle.std.proofs.Common.{◌≡◌, ℕ, ◌+◌, ◌-◌, ◌*◌, ◌/◌, ◌%◌, ◌^◌, ◌<◌, ◌≤◌, ◌≢◌, ◌↔◌, subst, add-zero, mul-le-mul_right, mod-lt, suc-mul, add-one, arith, pow_pos, pow-add}
use native.Mathlib.Nat.{div-eq_of_lt, div-eq_of_lt-le, le_dest, add-sub_cancel_left}
use lib.Pow.{shr_mono}
use Rattle.cursor.specs.Reverse.{reverse}
use Rattle.cursor.specs.Next.{next}
use Rattle.cursor.proofs.Reversal.{reverse_lt, reverse_split, reverse_mod, reverse_high, reverse_twice, reverse_zero}
use Rattle.cursor.proofs.NextCursor.{next_lt, next_up, next_wraps}

-- two numbers are in one bucket exactly if their reversals at the table's width are equal
pub bucket_reversed : (b k v : ℕ) → (k % 2 ^ b ≡ v % 2 ^ b) ↔ (reverse b k ≡ reverse b v)
bucket_reversed b k v = (
  λ e. rw (← reverse_mod b k, e, reverse_mod),
  λ e. rw (← reverse_twice b k, e, reverse_twice),
)

-- the bucket law: at a larger width, exactly if their reversals agree above the bits that are not the table's
pub bucket_law : (b d k v : ℕ) → (k % 2 ^ b ≡ v % 2 ^ b) ↔ (reverse (b + d) k / 2 ^ d ≡ reverse (b + d) v / 2 ^ d)
bucket_law b d k v = rw (reverse_high b d k, reverse_high b d v) (bucket_reversed b k v)

-- the reversal of a number below 2 ^ b at a larger width
pub reverse_below : (b d x : ℕ) → x < 2 ^ b → reverse (b + d) x ≡ reverse b x * 2 ^ d
reverse_below b d x h = rw (reverse_split, div-eq_of_lt h, reverse_zero, add-zero)

-- that of a bucket's own number, where the bucket's interval starts
pub start_reversed : (b d v : ℕ) → reverse (b + d) (v % 2 ^ b) ≡ reverse b v * 2 ^ d
start_reversed b d v = rw (reverse_below b d (v % 2 ^ b) (mod-lt v (pow_pos b)), reverse_mod)

order_at : (b d v k : ℕ) → (reverse (b + d) (v % 2 ^ b) ≤ reverse (b + d) k) ↔ (reverse b v ≤ reverse b k)
order_at b d v k = (
  λ l. rw (← reverse_mod b v, ← reverse_high b d (v % 2 ^ b), ← reverse_high b d k) (shr_mono d l),
  λ l. rw (start_reversed, reverse_split b d k) (omega (arith, mul-le-mul_right (2 ^ d) l)),
)

-- a number is at or after the start of v's bucket exactly if its bucket is at or after that bucket
pub start_order : (n b v k : ℕ) → b ≤ n → (reverse n (v % 2 ^ b) ≤ reverse n k) ↔ (reverse b v ≤ reverse b k)
start_order n b v k l =
    let (d, e) = le_dest l in
    subst (λ m. (reverse m (v % 2 ^ b) ≤ reverse m k) ↔ (reverse b v ≤ reverse b k)) e (order_at b d v k)

-- The interval of v's bucket in a table of size 2 ^ b, at a width of n bits.
pub record Interval (n b v : ℕ) : Type 0 where
  pub start : ℕ
  pub width : ℕ
  pub starts : reverse n (v % 2 ^ b) ≡ start
  pub wide : width ≡ 2 ^ (n - b)
  pub ends : start + width ≤ 2 ^ n
  pub within : (k : ℕ) → k % 2 ^ b ≡ v % 2 ^ b → (start ≤ reverse n k) × (reverse n k < start + width)
  pub only : (k : ℕ) → start ≤ reverse n k → reverse n k < start + width → k % 2 ^ b ≡ v % 2 ^ b
  pub follows : next (2 ^ b) v ≢ 0 → reverse n (next (2 ^ b) v) ≡ start + width
  pub last : next (2 ^ b) v ≡ 0 → start + width ≡ 2 ^ n

interval_at : (b d v : ℕ) → b ≤ 32 → Interval (b + d) b v
interval_at b d v h = record {
  start = reverse b v * 2 ^ d;
  width = 2 ^ d;
  starts = start_reversed b d v;
  wide = rw add-sub_cancel_left;
  ends = rw (← suc-mul, pow-add) (mul-le-mul_right (2 ^ d) (reverse_lt b v));
  within = λ k e. rw (reverse_split b d k, (bucket_reversed b k v).0 e) (omega (arith, reverse_lt d (k / 2 ^ b)));
  only = λ k lo hi.
      (bucket_reversed b k v).1
      (rw (← reverse_high b d k) (div-eq_of_lt-le (2 ^ d) lo (rw (add-one, suc-mul) hi)));
  follows = λ ne. rw (reverse_below b d (next (2 ^ b) v) (next_lt b v h), next_up b v h ne, suc-mul);
  last = λ z. rw (← suc-mul, next_wraps b v h z, pow-add);
}

-- there is one at every width from the table's own
pub interval : (n b v : ℕ) → b ≤ n → b ≤ 32 → Interval n b v
interval n b v l h = let (d, e) = le_dest l in subst (λ m. Interval m b v) e (interval_at b d v h)
