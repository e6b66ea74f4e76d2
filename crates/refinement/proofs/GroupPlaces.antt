-- The group of a walk call over legal tables. It gives `group_laws`, all that the walk needs to know of one; `published`, the
-- cursor that it answers; and `tells_in_group`, that the ideal's test for a key is whether the key's bucket is the group's.
-- Assumes nothing.
use Prim.Native.Nat.{ℕ, ◌%◌, ◌^◌, ◌<◌, ◌≤◌}
use mathlib.Core.Path.{◌≡◌, refl, sym, ap}
use mathlib.Core.Logic.{inl, inr, ⊎_elim}
use mathlib.Core.Bool.{Bool, true, false}
use mathlib.Core.List.{List}
use native.Mathlib.Nat.{mod-lt, min-eq_left, min-eq_right}
use native.Mathlib.Omega.{arith}
use lib.Dec.{ltb, eqb}
use lib.Pow.{pow_pos, pow-lt}
use borrow.Author.Tests.{ltb-true, ltb-false, lt-ltb, le-ltb}
use Rattle.cursor.specs.Member.{In}
use Rattle.cursor.specs.Next.{next}
use Rattle.cursor.specs.Group.{one_table, two_tables}
use Rattle.cursor.proofs.LargeBuckets.{LargeBuckets, two_large}
use Rattle.cursor.proofs.Walks.{Live, smaller, Valid, group_of, Covers, Near, call_answers}
use Rattle.model.specs.declared.Table.{Table}
use Rattle.model.specs.Keys.{hash, bucket_of}
use Rattle.model.specs.Limits.{largest_exponent, legal_size}
use Rattle.model.specs.Memory.{Place}
use Rattle.model.specs.Calls.{old_new}
use Rattle.model.specs.Walk.{Tables, smaller_of, group, small_first, group_places}
use Rattle.model.proofs.Power.{exponent_lt, power_of}
use Rattle.model.proofs.Tests.{Tells, tells_and, tells_eq, tells_same}
use Rattle.refinement.specs.Demand3.{Ideal, table_of, size_in, is_bucket, in_group, live_sizes}
use Rattle.model.proofs.Lists.{in_map, of_map, distinct_map, tells_any}
use Rattle.refinement.proofs.LiveTables.{Legal, Buckets}

-- ---- the bucket of a key

-- the one that the ideal has it in, by the keys still in the old table
unfoldable pub place_in : Tables → List ℕ → ℕ → Place
place_in t unmoved key =
    let u = table_of t unmoved key in
    Place.bucket u (bucket_of key (size_in t u))

pub size_in_lem : (t : Tables) (unmoved : List ℕ) (key : ℕ)
    → size_in t (table_of t unmoved key) ≡ live_sizes t (table_of t unmoved key)
unfolding table_of size_in live_sizes old_new
size_in_lem (Tables.one size) unmoved key = refl
size_in_lem (Tables.two old new) unmoved key = refl

tells_table : (t u : Table) → Tells (t ≡ u) (eqb (old_new 0 1 t) (old_new 0 1 u))
unfolding old_new
tells_table Table.Old Table.Old = Tells.holds refl
tells_table Table.Old Table.New = Tells.fails (λ e. let z : ◌≡◌ {A = ℕ} 0 1 = cc in omega arith)
tells_table Table.New Table.Old = Tells.fails (λ e. let z : ◌≡◌ {A = ℕ} 0 1 = cc in omega arith)
tells_table Table.New Table.New = Tells.holds refl

tells_bucket : (t : Table) (b : ℕ) (p : Place) → Tells (p ≡ Place.bucket t b) (is_bucket t b p)
unfolding is_bucket
tells_bucket t b Place.free = Tells.fails (λ e. let z : ◌≡◌ {A = ℕ} 0 1 = cc in omega arith)
tells_bucket t b (Place.bucket u c) =
    tells_same (λ h. let (e, f) = h in cc) (λ e. ((cc), (cc))) (tells_and (tells_table t u) (tells_eq b c))

pub tells_in_group : (i : Ideal) (cursor key : ℕ)
    → Tells (In (place_in i.tables i.unmoved key) (group_places i.tables cursor)) (in_group i cursor key)
unfolding in_group place_in
tells_in_group i cursor key =
    tells_same (λ (p, j, e). rw e at j) (λ j. (_, j, refl))
    (tells_any _ _ (tells_bucket _ _) (group_places i.tables cursor))

-- ---- the laws

-- Of tables by the exponents of their sizes, as the laws of the cursor have them: the smaller size, the cursor answered, and
-- the places of a group: live buckets, none twice, among them that of each key which the group covers, and only of keys that
-- are in the cursor's bucket of the smaller table.
pub record GroupLaws (t : Tables) : Type 0 where
  pub live : Live
  pub valid : Valid live
  pub smaller_size : 2 ^ smaller live ≡ smaller_of t
  pub answers : (cursor : ℕ) → (group t cursor).answered ≡ (group_of live cursor).answered
  pub covers : (cursor key : ℕ) → Covers live cursor key → (unmoved : List ℕ)
      → In (place_in t unmoved key) (group_places t cursor)
  pub near : (cursor key : ℕ) (unmoved : List ℕ) → In (place_in t unmoved key) (group_places t cursor)
      → Near live cursor key
  pub buckets : (cursor : ℕ) → Buckets (live_sizes t) (group_places t cursor)

one_laws : (b : ℕ) → b ≤ 32 → GroupLaws (Tables.one (2 ^ b))
unfolding smaller_of group group_places small_first place_in table_of size_in live_sizes old_new bucket_of hash one_table
one_laws b fits =
    record {
      live = Live.one b;
      valid = fits;
      smaller_size = refl;
      answers = λ cursor. refl;
      covers = λ cursor key same unmoved. inl (ap (Place.bucket Table.Old) same);
      near = λ cursor key unmoved i. ⊎_elim (λ e. cc) (λ j. absurd j) i;
      buckets =
          λ cursor.
          record {
            each = λ p i. ⊎_elim (λ e. (Table.Old, cursor % 2 ^ b, e, mod-lt cursor (pow_pos b))) (λ j. absurd j) i;
            once = (λ i. i, tt);
          };
    }

-- Two tables, of which that one is the smaller.

unfoldable ranked : Table → ℕ → ℕ → Tables
ranked Table.Old small large = Tables.two small large
ranked Table.New small large = Tables.two large small

unfoldable opposite : Table → Table
opposite Table.Old = Table.New
opposite Table.New = Table.Old

apart : (t : Table) (b c : ℕ) → Place.bucket t b ≡ Place.bucket (opposite t) c → ⊥
unfolding opposite
apart Table.Old b c e = let z : ◌≡◌ {A = ℕ} 0 1 = cc in omega arith
apart Table.New b c e = let z : ◌≡◌ {A = ℕ} 0 1 = cc in omega arith

module _ (small large : ℕ) (less : small < large) where
  ranked_smaller : (t : Table) → smaller_of (ranked t small large) ≡ small
  unfolding ranked smaller_of
  ranked_smaller Table.Old = min-eq_left (omega arith)
  ranked_smaller Table.New = min-eq_right (omega arith)

  ranked_group : (t : Table) (cursor : ℕ) → group (ranked t small large) cursor ≡ two_tables small large cursor
  unfolding ranked group
  ranked_group Table.Old cursor = rw (lt-ltb small large less)
  ranked_group Table.New cursor = rw (le-ltb large small (omega arith))

  ranked_places : (t : Table) (cursor : ℕ)
      → group_places (ranked t small large) cursor ≡ small_first t (opposite t) (two_tables small large cursor)
  unfolding ranked group_places opposite
  ranked_places Table.Old cursor = rw (lt-ltb small large less)
  ranked_places Table.New cursor = rw (le-ltb large small (omega arith))

module _ (b c : ℕ) (less : b < c) (fits : c ≤ 32) where
  abbrev tables : Table → Tables
  tables t = ranked t (2 ^ b) (2 ^ c)

  module _ (cursor : ℕ) where
    abbrev large : List ℕ
    large = (two_tables (2 ^ b) (2 ^ c) cursor).large

    abbrev places : Table → List Place
    places t = small_first t (opposite t) (two_tables (2 ^ b) (2 ^ c) cursor)

    swept : LargeBuckets b c cursor large
    swept = two_large b c cursor less fits

    sizes_of : (t : Table) → (live_sizes (tables t) t ≡ 2 ^ b) × (live_sizes (tables t) (opposite t) ≡ 2 ^ c)
    unfolding ranked live_sizes old_new opposite
    sizes_of Table.Old = (refl, refl)
    sizes_of Table.New = (refl, refl)

    two_buckets : (t : Table) → Buckets (live_sizes (tables t)) (places t)
    unfolding small_first two_tables
    two_buckets t =
        record {
          each =
              λ p i.
              ⊎_elim (λ e. (t, cursor % 2 ^ b, e, rw (sizes_of t).0 (mod-lt cursor (pow_pos b))))
              (λ j.
              let (n, k, e) = of_map (Place.bucket (opposite t)) p large j in
              (opposite t, n, e, rw (sizes_of t).1 (swept.below n k)))
              i;
          once = (
            λ i. let (n, j, e) = of_map (Place.bucket (opposite t)) _ large i in apart t _ n e,
            distinct_map (Place.bucket (opposite t)) large (λ n m i j e. cc) swept.distinct,
          );
        }

    -- the key's bucket in either table
    two_covers : (key : ℕ) → Covers (Live.two b c) cursor key → (t u : Table)
        → In (Place.bucket u (bucket_of key (size_in (tables t) u))) (places t)
    unfolding bucket_of hash ranked size_in old_new opposite small_first
    two_covers key (small, some) Table.Old Table.Old = inl (ap (Place.bucket Table.Old) small)
    two_covers key (small, some) Table.Old Table.New = inr (in_map (Place.bucket Table.New) (key % 2 ^ c) large some)
    two_covers key (small, some) Table.New Table.New = inl (ap (Place.bucket Table.New) small)
    two_covers key (small, some) Table.New Table.Old = inr (in_map (Place.bucket Table.Old) (key % 2 ^ c) large some)

    -- in the smaller table or in the larger one, a key of the group is in the smaller bucket
    near_small : (key : ℕ) (t : Table) → In (Place.bucket t (key % 2 ^ b)) (places t) → Near (Live.two b c) cursor key
    unfolding small_first two_tables
    near_small key t (inl e) = cc
    near_small key t (inr i) =
        let (n, j, e) = of_map (Place.bucket (opposite t)) _ large i in absurd (apart t _ n e)

    near_large : (key : ℕ) (t : Table) → In (Place.bucket (opposite t) (key % 2 ^ c)) (places t)
        → Near (Live.two b c) cursor key
    unfolding small_first two_tables
    near_large key t (inl e) = absurd (apart t _ _ (sym e))
    near_large key t (inr i) =
        let (n, j, e) = of_map (Place.bucket (opposite t)) _ large i in
        let same : n ≡ key % 2 ^ c = cc in
        (swept.only key (rw same at j)).0

    two_near : (key : ℕ) (t u : Table) → In (Place.bucket u (bucket_of key (size_in (tables t) u))) (places t)
        → Near (Live.two b c) cursor key
    unfolding bucket_of hash ranked size_in old_new opposite
    two_near key Table.Old Table.Old i = near_small key Table.Old i
    two_near key Table.Old Table.New i = near_large key Table.Old i
    two_near key Table.New Table.New i = near_small key Table.New i
    two_near key Table.New Table.Old i = near_large key Table.New i

  two_laws : (t : Table) → GroupLaws (tables t)
  unfolding place_in
  two_laws t =
      let l = pow-lt less in
      let order = ranked_places (2 ^ b) (2 ^ c) l t in
      record {
        live = Live.two b c;
        valid = (less, fits);
        smaller_size = sym (ranked_smaller (2 ^ b) (2 ^ c) l t);
        answers = λ cursor. rw (ranked_group (2 ^ b) (2 ^ c) l t cursor);
        covers = λ cursor key h unmoved. rw (order cursor) (two_covers cursor key h t _);
        near = λ cursor key unmoved i. two_near cursor key t _ (rw (order cursor) at i);
        buckets = λ cursor. rw (order cursor) (two_buckets cursor t);
      }

pub group_laws : (t : Tables) → Legal t → GroupLaws t
unfolding Legal legal_size largest_exponent ranked
group_laws (Tables.one size) h =
    let (b, l, e) = power_of largest_exponent size h in rw e (one_laws b (omega arith))
group_laws (Tables.two old new) h =
    by (ltb old new) refl (power_of largest_exponent old h.0) (power_of largest_exponent new h.1)
  where
    by : (t : Bool) → ltb old new ≡ t → (b : ℕ) × (b ≤ largest_exponent) × (old ≡ 2 ^ b)
        → (c : ℕ) × (c ≤ largest_exponent) × (new ≡ 2 ^ c) → GroupLaws (Tables.two old new)
    by true less (b, k, e) (c, l, f) =
        rw (e, f) (two_laws b c (exponent_lt b c e f (ltb-true old new less)) (omega arith) Table.Old)
    by false less (b, k, e) (c, l, f) =
        let small : new < old = omega (arith, ltb-false old new less, h.2) in
        rw (e, f) (two_laws c b (exponent_lt c b f e small) (omega arith) Table.New)

-- a call answers the next cursor of the smaller size
pub published : (t : Tables) → Legal t → (cursor : ℕ) → (group t cursor).answered ≡ next (smaller_of t) cursor
published t h cursor =
    let laws = group_laws t h in
    rw (laws.answers cursor, call_answers laws.live cursor laws.valid, laws.smaller_size)
