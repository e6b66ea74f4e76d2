-- A store just started has a shape: every bucket empty, and the free list 1, 2, .. up to the capacity.
-- Assumes nothing.
use Prim.Native.Nat.{ℕ, zero, suc, ◌+◌, ◌*◌, ◌-◌, ◌<◌, ◌≤◌}
use mathlib.Core.Path.{◌≡◌, refl, sym, ap, subst, ◌∙◌}
use mathlib.Core.Logic.{inl, inr}
use mathlib.Core.Bool.{true, ◌&&◌}
use mathlib.Core.List.{List, [], ◌∷◌, ◌++◌}
use native.Mathlib.Decide.{dec_lt}
use native.Mathlib.Omega.{arith}
use lib.ListN.{length, get_or, drop, length-append, length-drop}
use Rattle.cursor.specs.Member.{In}
use Rattle.model.specs.declared.Table.{Table}
use Rattle.model.specs.Limits.{largest_capacity, legal_capacity, legal_size}
use Rattle.model.specs.Memory.{Place, Live, head_at, size_of, used_of, buckets_of, key_of, link_of, sound_state, sum}
use Rattle.model.specs.Calls.{sound, cleared, free_link, free_entries, state_of, old_new, empty_state, long_enough}
use Rattle.model.proofs.Tests.{told, tells_true, tells_and, tells_le}
use Rattle.model.proofs.Soundness.{tells_legal, sound_test}
use Rattle.model.proofs.Linked.{Linked}
use Rattle.model.proofs.Sums.{sum_zero}
use Rattle.invariant.proofs.Shape.{Home, IsBucket, Shape}
use Rattle.invariant.proofs.ClearedBuckets.{length_cleared, cleared_empty}

-- n, n + 1, .., so many of them
unfoldable pub up_from : ℕ → ℕ → List ℕ
up_from n zero = []
up_from n (suc count) = n ∷ up_from (suc n) count

length_up_from : (n count : ℕ) → length (up_from n count) ≡ count
unfolding up_from
length_up_from n zero = refl
length_up_from n (suc count) = ap suc (length_up_from (suc n) count)

-- the numbers between are there
in_up_from : (n count x : ℕ) → n ≤ x → x < n + count → In x (up_from n count)
unfolding up_from
in_up_from n zero x h l = absurd (omega arith)
in_up_from n (suc count) x h l =
    elim (dec_lt n x) [ yes k ↦ inr (in_up_from (suc n) count x k (omega arith)) | no k ↦ inl (omega arith) ]

-- three numbers for each entry
length_free_entries : (n count : ℕ) → length (free_entries n count) ≡ count * 3
unfolding free_entries
length_free_entries n zero = refl
length_free_entries n (suc count) = omega (arith, length_free_entries (suc n) count)

-- the link of the entry that i stand before and `behind` behind
link_free : (n count i behind : ℕ) (rest : List ℕ) → count ≡ suc (i + behind)
    → get_or (free_entries n count ++ rest) (i * 3) 0 ≡ free_link (n + i) behind
unfolding free_entries
link_free n zero i behind rest e = absurd (omega arith)
link_free n (suc count) zero behind rest e =
    let here : n + 0 ≡ n = omega arith in
    let same : count ≡ behind = omega arith in
    rw (here, same)
link_free n (suc count) (suc i) behind rest e =
    let place : suc i * 3 ≡ suc (suc (suc (i * 3))) = omega arith in
    let next : suc n + i ≡ n + suc i = omega arith in
    rw (place, ← next) (link_free (suc n) count i behind rest (omega arith))

-- the first entry of a free list that has one
head_free : (count : ℕ) → 1 ≤ count → free_link 0 count ≡ 1
unfolding free_link
head_free zero h = absurd (omega arith)
head_free (suc count) h = refl

-- a free list from its links
linked_free : (entries : List ℕ) (capacity n count : ℕ) → n + count ≡ capacity
    → ((m : ℕ) → 0 < m → m ≤ capacity → link_of entries m ≡ free_link m (capacity - m))
    → Linked entries capacity (free_link n count) (up_from (suc n) count)
unfolding Linked up_from free_link
linked_free entries capacity n zero e links = refl
linked_free entries capacity n (suc count) e links =
    let left : capacity - suc n ≡ count = omega arith in (
      refl,
      omega arith,
      omega arith,
      subst (λ (k : ℕ). Linked entries capacity k (up_from (suc (suc n)) count))
          (sym (links (suc n) (omega arith) (omega arith) ∙ ap (free_link (suc n)) left))
          (linked_free entries capacity (suc n) count (omega arith) links),
    )

-- the chains of a new store
unfoldable pub started_at : ℕ → Place → List ℕ
started_at capacity Place.free = up_from 1 capacity
started_at capacity (Place.bucket t b) = []

-- the entry buffer of a new store
abbrev pub started_entries : ℕ → List ℕ → List ℕ
started_entries capacity entries = free_entries 1 capacity ++ drop (capacity * 3) entries

-- only the free list has entries
only_free : (capacity n : ℕ) (p : Place) → In n (started_at capacity p) → Place.free ≡ p
unfolding started_at
only_free capacity n Place.free i = refl
only_free capacity n (Place.bucket t b) i = absurd i

no_bucket : (capacity n : ℕ) (p : Place) → IsBucket p → In n (started_at capacity p) → ⊥
unfolding started_at IsBucket
no_bucket capacity n Place.free b i = b
no_bucket capacity n (Place.bucket t c) b i = i

module _ (capacity size : ℕ) (first second entries : List ℕ) (limits : (legal_capacity capacity && legal_size size) ≡ true)
    (long : long_enough capacity size (length first) (length entries) ≡ true) where
  within : (1 ≤ capacity) × (capacity ≤ largest_capacity) × (legal_size size ≡ true)
  within =
      let (each, legal) = told (tells_and (tells_legal capacity) (tells_true (legal_size size))) limits in
      (each.0, each.1, legal)

  fits : (size ≤ length first) × (capacity * 3 ≤ length entries)
  unfolding long_enough
  fits = told (tells_and (tells_le size (length first)) (tells_le (capacity * 3) (length entries))) long

  -- start keeps the lengths of the buffers
  pub started_buckets_length : length (cleared size first) ≡ length first
  started_buckets_length = length_cleared size first fits.0

  pub started_entries_length : length (started_entries capacity entries) ≡ length entries
  started_entries_length =
      omega (
        arith,
        length-append (free_entries 1 capacity) (drop (capacity * 3) entries),
        length_free_entries 1 capacity,
        length-drop (capacity * 3) entries,
        fits.1,
      )

  -- the link of an entry of a new store
  started_link : (n : ℕ) → 0 < n → n ≤ capacity → link_of (started_entries capacity entries) n ≡ free_link n (capacity - n)
  unfolding link_of
  started_link zero z k = absurd (omega arith)
  started_link (suc n) z k =
      let next : 1 + n ≡ suc n = omega arith in
      rw next at (link_free 1 capacity n (capacity - suc n) (drop (capacity * 3) entries) (omega arith))

  started_sound : sound_state (length (cleared size first)) (length second) (length (started_entries capacity entries))
      (empty_state size 1 capacity) ≡ true
  unfolding sound empty_state state_of old_new
  started_sound =
      sound_test (empty_state size 1 capacity) (cleared size first) second (started_entries capacity entries)
      (record {
        some_entries = within.0;
        capacity_limit = within.1;
        entries_fit = omega (arith, started_entries_length, fits.1);
        old_legal = within.2;
        old_fits = omega (arith, started_buckets_length, fits.0);
        used_fits = omega arith;
        free_fits = within.0;
        iterators_fit = omega arith;
        rehashing = λ e. let z : ◌≡◌ {A = ℕ} 0 1 = cc in absurd (omega arith);
        resting = λ e. record { no_size = refl; no_keys = refl; no_index = refl };
      })

  started_linked : (p : Place) → Live (empty_state size 1 capacity) p
      → Linked (started_entries capacity entries) capacity (head_at (empty_state size 1 capacity) (cleared size first) second p)
      (started_at capacity p)
  unfolding empty_state state_of old_new size_of buckets_of Live head_at started_at Linked
  started_linked Place.free l =
      subst (λ (k : ℕ). Linked (started_entries capacity entries) capacity k (up_from 1 capacity))
      (head_free capacity within.0)
      (linked_free (started_entries capacity entries) capacity 0 capacity (omega arith) started_link)
  started_linked (Place.bucket Table.Old b) l = cleared_empty size b first l
  started_linked (Place.bucket Table.New b) l = absurd (omega arith)

  started_counts : (t : Table)
      → used_of (empty_state size 1 capacity) t
      ≡ sum (λ b. length (started_at capacity (Place.bucket t b))) (size_of (empty_state size 1 capacity) t)
  unfolding empty_state state_of old_new used_of size_of started_at
  started_counts Table.Old = sym (sum_zero (λ b. 0) size (λ b l. refl))
  started_counts Table.New = sym (sum_zero (λ b. 0) 0 (λ b l. refl))

  -- a store just started has a shape
  pub started_shape : Shape (empty_state size 1 capacity) (cleared size first) second (started_entries capacity entries)
  unfolding empty_state state_of old_new size_of used_of Live Home started_at
  started_shape =
      record {
        state_sound = started_sound;
        at = started_at capacity;
        linked = started_linked;
        owner = λ n. Place.free;
        owned = λ n z k. (tt, in_up_from 1 capacity n z (omega arith));
        owns = λ n p l i. only_free capacity n p i;
        home =
            λ n p l i.
            subst (λ (q : Place). Home (empty_state size 1 capacity) (key_of (started_entries capacity entries) n) q)
            (only_free capacity n p i) tt;
        keys_distinct = λ n m p q l k a b i j e. absurd (no_bucket capacity n p a i);
        passed_empty = λ b l. absurd (omega arith);
        counts = started_counts;
        free_count = omega (arith, length_up_from 1 capacity);
      }

  -- with these chains
  pub started_at_lem : (p : Place) → started_shape.at p ≡ started_at capacity p
  unfolding started_shape
  started_at_lem p = refl
