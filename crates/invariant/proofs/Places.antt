-- Places: whether two are one, which table one is in, and the places that a key calls for.
-- Assumes nothing.
use Prim.Native.Nat.{ℕ, ◌+◌, ◌<◌}
use mathlib.Core.Path.{◌≡◌, refl, ◌∙◌}
use mathlib.Core.Bool.{Bool, true, false}
use mathlib.Core.List.{List}
use native.Mathlib.Nat.{mod-lt}
use native.Mathlib.Omega.{arith}
use native.Mathlib.Decide.{ℕ_discrete}
use lib.ListN.{length}
use Rattle.model.specs.declared.State.{State}
use Rattle.model.specs.declared.Table.{Table}
use Rattle.model.specs.Keys.{hash, bucket_of}
use Rattle.model.specs.Limits.{largest_exponent, legal_size}
use Rattle.model.specs.Memory.{Place, Live, size_of, buckets_of, key_place, sum}
use Rattle.model.specs.Calls.{old_new}
use Rattle.model.proofs.Power.{legal_pos}
use Rattle.model.proofs.Sums.{sum_zero, sum_one}
use Rattle.invariant.proofs.Shape.{Home, IsBucket, Shape, facts}

-- whether two tables are one, and two places

pub same_table : (t u : Table) → Dec (t ≡ u)
same_table Table.Old Table.Old = yes refl
same_table Table.Old Table.New = no (λ e. let z : ◌≡◌ {A = ℕ} 0 1 = cc in omega arith)
same_table Table.New Table.Old = no (λ e. let z : ◌≡◌ {A = ℕ} 0 1 = cc in omega arith)
same_table Table.New Table.New = yes refl

unfoldable pub same : (p q : Place) → Dec (p ≡ q)
same Place.free Place.free = yes refl
same Place.free (Place.bucket u b) = no (λ e. let z : ◌≡◌ {A = ℕ} 0 1 = cc in omega arith)
same (Place.bucket t a) Place.free = no (λ e. let z : ◌≡◌ {A = ℕ} 0 1 = cc in omega arith)
same (Place.bucket t a) (Place.bucket u b) = by (same_table t u) (ℕ_discrete a b)
  where
    by : Dec (t ≡ u) → Dec (a ≡ b) → Dec (Place.bucket t a ≡ Place.bucket u b)
    by (yes e) (yes f) = yes cc
    by (yes e) (no d) = no (λ g. d (cc))
    by (no d) f = no (λ g. d (cc))

unfoldable pub indicator : {A : Type 0} → Dec A → ℕ
indicator (yes h) = 1
indicator (no h) = 0

pub indicator_one : {A : Type 0} (d : Dec A) → A → indicator d ≡ 1
unfolding indicator
indicator_one (yes h) a = refl
indicator_one (no h) a = absurd (h a)

pub indicator_zero : {A : Type 0} (d : Dec A) → (A → ⊥) → indicator d ≡ 0
unfolding indicator
indicator_zero (yes h) f = absurd (f h)
indicator_zero (no h) f = refl

-- which of the three a place is in

unfoldable pub in_free : Place → ℕ
in_free Place.free = 1
in_free (Place.bucket t b) = 0

-- 1 for the same table, 0 for the other
unfoldable pub one : Table → Table → ℕ
one Table.Old t = old_new 1 0 t
one Table.New t = old_new 0 1 t

pub one_same : (t : Table) → one t t ≡ 1
unfolding one old_new
one_same Table.Old = refl
one_same Table.New = refl

pub one_other : (t u : Table) → (t ≡ u → ⊥) → one t u ≡ 0
unfolding one old_new
one_other Table.Old Table.Old d = absurd (d refl)
one_other Table.Old Table.New d = refl
one_other Table.New Table.Old d = refl
one_other Table.New Table.New d = absurd (d refl)

unfoldable pub in_table : Table → Place → ℕ
in_table t Place.free = 0
in_table t (Place.bucket u b) = one t u

pub in_one : (p : Place) → in_free p + (in_table Table.Old p + in_table Table.New p) ≡ 1
unfolding in_free in_table one old_new
in_one Place.free = refl
in_one (Place.bucket Table.Old b) = refl
in_one (Place.bucket Table.New b) = refl

pub free_indicator : (p : Place) → indicator (same Place.free p) ≡ in_free p
unfolding same indicator in_free
free_indicator Place.free = refl
free_indicator (Place.bucket t b) = refl

-- the indicators of a live place, summed over the buckets of a table

none_there : (t : Table) (p : Place) (size : ℕ) → ((b : ℕ) → Place.bucket t b ≡ p → ⊥)
    → sum (λ b. indicator (same (Place.bucket t b) p)) size ≡ 0
none_there t p size d =
    sum_zero (λ b. indicator (same (Place.bucket t b) p)) size (λ b l. indicator_zero (same (Place.bucket t b) p) (d b))

one_there : (t : Table) (c size : ℕ) → c < size → sum (λ b. indicator (same (Place.bucket t b) (Place.bucket t c))) size ≡ 1
one_there t c size l =
    sum_one (λ b. indicator (same (Place.bucket t b) (Place.bucket t c))) c size l
    (indicator_one (same (Place.bucket t c) (Place.bucket t c)) refl)
    (λ b d. indicator_zero (same (Place.bucket t b) (Place.bucket t c)) (λ e. d (cc)))

pub indicators : (s : State) (t : Table) (p : Place) → Live s p
    → sum (λ b. indicator (same (Place.bucket t b) p)) (size_of s t) ≡ in_table t p
unfolding Live in_table
indicators s t Place.free l =
    none_there t Place.free (size_of s t) (λ b e. let z : ◌≡◌ {A = ℕ} 0 1 = cc in omega arith)
indicators s t (Place.bucket u c) l = by (same_table t u)
  where
    by : Dec (t ≡ u) → sum (λ b. indicator (same (Place.bucket t b) (Place.bucket u c))) (size_of s t) ≡ one t u
    by (yes e) = rw (← e) (one_there t c (size_of s t) (rw (← e) at l) ∙ cc (one_same t))
    by (no d) = none_there t (Place.bucket u c) (size_of s t) (λ b e. d (cc)) ∙ cc (one_other t u d)

-- the bucket that a key calls for

pub key_bucket : (s : State) (key : ℕ) (t : Table) → IsBucket (key_place s key t)
unfolding IsBucket key_place
key_bucket s key t = tt

pub key_home : (s : State) (key : ℕ) (t : Table) → Home s key (key_place s key t)
unfolding Home key_place
key_home s key t = refl

-- a table that is live
unfoldable pub LiveTable : State → Table → Type 0
LiveTable s t = t ≡ Table.New → s.rehashing ≡ true

pub old_live : (s : State) → LiveTable s Table.Old
unfolding LiveTable
old_live s e = let z : ◌≡◌ {A = ℕ} 0 1 = cc in absurd (omega arith)

-- its size is legal, and its buffer long enough; another table has no buckets
module _ {s : State} {current other entries : List ℕ} (h : Shape s current other entries) where
  pub table_legal : (t : Table) → LiveTable s t → legal_size (size_of s t) ≡ true
  unfolding size_of LiveTable
  table_legal Table.Old l = (facts h).old_legal
  table_legal Table.New l = ((facts h).rehashing (l refl)).new_legal

  pub table_live : (t : Table) (b : ℕ) → b < size_of s t → LiveTable s t
  unfolding size_of LiveTable
  table_live Table.Old b l = old_live s
  table_live Table.New b l = λ e. by s.rehashing refl
    where
      by : (f : Bool) → s.rehashing ≡ f → f ≡ true
      by true e = refl
      by false e = let z = ((facts h).resting e).no_size in absurd (omega arith)

  pub table_fits : (t : Table) (b : ℕ) → b < size_of s t → b < length (buckets_of current other t)
  unfolding size_of buckets_of LiveTable
  table_fits Table.Old b l = let f = (facts h).old_fits in omega arith
  table_fits Table.New b l = let f = ((facts h).rehashing (table_live Table.New b l refl)).new_fits in omega arith

  -- the bucket that a key calls for is live
  pub key_live : (key : ℕ) (t : Table) → LiveTable s t → Live s (key_place s key t)
  unfolding Live bucket_of legal_size key_place
  key_live key t l = mod-lt (hash key) (legal_pos largest_exponent (size_of s t) (table_legal t l))

-- a bucket is not the free list
pub bucket_not_free : (p : Place) → IsBucket p → p ≡ Place.free → ⊥
unfolding IsBucket
bucket_not_free Place.free b e = b
bucket_not_free (Place.bucket t c) b e = let z : ◌≡◌ {A = ℕ} 0 1 = cc in omega arith
