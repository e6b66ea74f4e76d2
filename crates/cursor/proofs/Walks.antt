-- One call of a walk, with any live tables, and a key on the line of reversed keys. A key that is ahead of the cursor is handed
-- out or stays ahead, and the cursor climbs. A key that is behind stays behind, and comes again only at a smaller size.
use Rattle.std.proofs.Common.{◌≡◌, ℕ, ◌+◌, ◌%◌, ◌^◌, ◌<◌, ◌≤◌, ◌≢◌, ◌⊎◌, refl, inl, inr, ⊎_elim, lt_of_not-le, arith}
use native.Mathlib.Nat.{le_dest}
use native.Mathlib.Decide.{dec_lt}
use lib.Pow.{shr_mono}
use Rattle.cursor.specs.Reverse.{reverse, rev}
use Rattle.cursor.specs.Next.{next}
use Rattle.cursor.specs.Group.{Group, one_table, two_tables}
use Rattle.cursor.specs.Member.{In}
use Rattle.cursor.proofs.Reversal.{reverse_lt, reverse_high, reverse_zero}
use Rattle.cursor.proofs.NextCursor.{next_up}
use Rattle.cursor.proofs.Interval.{Interval, interval, bucket_reversed}
use Rattle.cursor.proofs.LargeBuckets.{two_answers, two_large}

-- the live tables at a call, by the exponents of their sizes, the smaller first
pub data Live : Type 0 where
  one : ℕ → Live
  two : ℕ → ℕ → Live

-- with one live table, that one counts as the smaller
abbrev pub smaller : Live → ℕ
smaller (one b) = b
smaller (two b c) = b

abbrev pub Valid : Live → Type 0
Valid (one b) = b ≤ 32
Valid (two b c) = (b < c) × (c ≤ 32)

abbrev pub group_of : Live → ℕ → Group
group_of (one b) v = one_table (2 ^ b) v
group_of (two b c) v = two_tables (2 ^ b) (2 ^ c) v

-- the key's bucket in every live table is in the group, so that the key is handed out whichever table holds it
abbrev pub Covers : Live → ℕ → ℕ → Type 0
Covers (one b) v k = k % 2 ^ b ≡ (group_of (one b) v).small
Covers (two b c) v k = (k % 2 ^ b ≡ (group_of (two b c) v).small) × In (k % 2 ^ c) (group_of (two b c) v).large

-- the key is in the cursor's bucket of the smaller table
abbrev pub Near : Live → ℕ → ℕ → Type 0
Near l v k = k % 2 ^ smaller l ≡ v % 2 ^ smaller l

pub valid_smaller : (l : Live) → Valid l → smaller l ≤ 32
valid_smaller (one b) h = h
valid_smaller (two b c) h = omega arith

-- every call answers the next cursor of its smaller size
pub call_answers : (l : Live) (v : ℕ) → Valid l → (group_of l v).answered ≡ next (2 ^ smaller l) v
unfolding one_table
call_answers (one b) v h = refl
call_answers (two b c) v h = two_answers b c v h.0 h.1

-- the key's reversal is at or after the cursor's
abbrev pub Ahead : ℕ → ℕ → Type 0
Ahead w k = rev w ≤ rev k

-- every key is ahead of cursor 0
pub ahead_zero : (k : ℕ) → Ahead 0 k
unfolding rev
ahead_zero k = omega (arith, reverse_zero 32)

-- A key ahead of the cursor is in its bucket or ahead of the next cursor, which is then not 0.
ahead_next : (b v k : ℕ) → b ≤ 32 → Ahead v k → (k % 2 ^ b ≡ v % 2 ^ b) ⊎ ((next (2 ^ b) v ≢ 0) × Ahead (next (2 ^ b) v) k)
unfolding rev
ahead_next b v k h a = go (interval 32 b v h h)
  where
    go : Interval 32 b v → (k % 2 ^ b ≡ v % 2 ^ b) ⊎ ((next (2 ^ b) v ≢ 0) × Ahead (next (2 ^ b) v) k)
    go i =
        elim (dec_lt (reverse 32 k) (i.start + i.width)) [
          | yes l ↦ inl (i.only k (omega (arith, i.within v refl)) l)
          | no n ↦
              let on : next (2 ^ b) v ≢ 0 = λ z. omega (arith, i.last z, reverse_lt 32 k) in
              inr (on, omega (arith, i.follows on))
        ]

-- where it is in the smaller table's bucket the call covers it
bucket_covers : (l : Live) (v k : ℕ) → Valid l → Ahead v k → Near l v k → Covers l v k
unfolding one_table two_tables rev
bucket_covers (one b) v k h a e = e
bucket_covers (two b c) v k h a e =
    let start = interval 32 c v h.1 h.1 in
    (e, (two_large b c v h.0 h.1).holds k e (omega (arith, start.starts, start.within v refl)))

-- One call of a walk: a key ahead of its cursor is covered, or still ahead and the walk goes on.
pub call_step :
    (l : Live) (v k : ℕ) → Valid l → Ahead v k
    → Covers l v k ⊎ (((group_of l v).answered ≢ 0) × Ahead (group_of l v).answered k)
call_step l v k h a =
    ⊎_elim
    (λ e. inl (bucket_covers l v k h a e))
    (λ on. inr (rw (call_answers l v h) on))
    (ahead_next (smaller l) v k (valid_smaller l h) a)

-- at a width of m bits the reversed cursor climbs with each call that does not answer 0
pub call_climbs : (m : ℕ) (l : Live) (v : ℕ) → Valid l → smaller l ≤ m → (group_of l v).answered ≢ 0 → reverse m v < reverse m (group_of l v).answered
call_climbs m l v h small ne =
    let bucket = interval m (smaller l) v small (valid_smaller l h) in
    rw (call_answers l v h) (omega (arith, bucket.within v refl, bucket.follows (rw (call_answers l v h) at ne)))

-- ---- behind the cursor

-- in a table of size 2 ^ b the key's bucket comes before the cursor's
abbrev pub Behind : ℕ → ℕ → ℕ → Type 0
Behind b v k = reverse b k < reverse b v

-- what is in order at a width is in order at a smaller one
coarser : (b n x y : ℕ) → b ≤ n → reverse n x ≤ reverse n y → reverse b x ≤ reverse b y
coarser b n x y l h =
    let (d, e) = le_dest l in
    rw (← reverse_high b d x, ← reverse_high b d y) (shr_mono d (rw (← e) at h))

-- and what is strictly so, at a larger one
finer : (b n x y : ℕ) → b ≤ n → reverse b x < reverse b y → reverse n x < reverse n y
finer b n x y l h = lt_of_not-le (λ f. omega (arith, coarser b n y x l f))

-- a key that is behind at a size comes again only at a smaller one
pub again_smaller : (b : ℕ) (l : Live) (v k : ℕ) → Behind b v k → Near l v k → smaller l < b
again_smaller b l v k behind near =
    lt_of_not-le (λ f. omega (arith, finer b (smaller l) k v f behind, (bucket_reversed (smaller l) k v).0 near))

module _ (l : Live) (v k : ℕ) (h : Valid l) (on : (group_of l v).answered ≢ 0) where
  abbrev w : ℕ
  w = (group_of l v).answered

  -- a key whose bucket is the cursor's, or comes before it, is behind the cursor answered
  not_after : reverse (smaller l) k ≤ reverse (smaller l) v → Behind (smaller l) w k
  not_after le =
      rw (call_answers l v h) (omega (arith, next_up (smaller l) v (valid_smaller l h) (rw (call_answers l v h) at on)))

  -- so is one that the call hands out, ..
  pub handed_behind : Near l v k → Behind (smaller l) w k
  handed_behind near = not_after (omega (arith, (bucket_reversed (smaller l) k v).0 near))

  -- .. and one that was behind, ..
  pub behind_call : (b : ℕ) → b ≤ 32 → Behind b v k → Behind (smaller l) w k
  behind_call b fits behind =
      not_after (coarser (smaller l) 32 k v (valid_smaller l h) (omega (arith, finer b 32 k v fits behind)))

  -- .. which also stays behind at the size at which it was
  pub behind_stays : (b : ℕ) → b ≤ 32 → Behind b v k → Behind b w k
  behind_stays b fits behind =
      omega (arith, coarser b 32 v w fits (omega (arith, call_climbs 32 l v h (valid_smaller l h) on)))
