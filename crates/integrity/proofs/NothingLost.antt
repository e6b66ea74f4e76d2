-- The repair meets every entry that a bucket reaches and that no bucket before it had, and keeps one entry for every key met.
-- Assumes nothing.
use Prim.Native.Nat.{ℕ, ◌<◌}
use mathlib.Core.Path.{◌≡◌, refl, sym, ap, ◌∙◌}
use mathlib.Core.Logic.{⊎_elim}
use mathlib.Core.Bool.{true}
use mathlib.Core.List.{List, []}
use native.Mathlib.Omega.{arith}
use lib.ListN.{get_or}
use borrow.Author.Tests.{eqb-true, eq-eqb}
use Rattle.cursor.specs.Member.{In}
use Rattle.model.specs.declared.State.{State}
use Rattle.model.specs.declared.Table.{Table}
use Rattle.model.specs.Keys.{bucket_of}
use Rattle.model.specs.Memory.{key_of, size_of, buckets_of, in_bucket}
use Rattle.model.specs.Repair.{followed_in, met_in, met_before, met_at, met_all, first_met, is_kept, kept_at}
use Rattle.model.proofs.Followed.{here_met, of_up_to}
use Rattle.model.proofs.Kept.{met, its, kept, met_facts, in_met_all, of_met_all, kept_place}
use Rattle.model.proofs.FirstMet.{Positive, first_met_some, first_met_key}
use Rattle.integrity.proofs.Reached.{Reached, of_reached, followed_reached, reached_met}

-- a key calls for one bucket
pub one_bucket_lem : (size a b key : ℕ) → in_bucket size a key ≡ true → in_bucket size b key ≡ true → a ≡ b
unfolding in_bucket
one_bucket_lem size a b key h k = sym (eqb-true (bucket_of key size) a h) ∙ eqb-true (bucket_of key size) b k

module _ (s : State) (current other entries : List ℕ) where
  -- the buckets before, of the same table, have no entry of this one
  pub met_earlier : (t : Table) (b n : ℕ) → in_bucket (size_of s t) b (key_of entries n) ≡ true
      → In n (met_in entries s.capacity (buckets_of current other t) (size_of s t) (met_before s current entries t) b)
      → In n (met_before s current entries t)
  met_earlier t b n p i =
      ⊎_elim (λ j. j)
      (λ h.
      let (a, l, j) = h in
      let passes = (here_met entries s.capacity (buckets_of current other t) (size_of s t) (met_before s current entries t) a n j).passes in
      absurd (omega (arith, one_bucket_lem (size_of s t) a b (key_of entries n) passes p)))
      (of_up_to entries s.capacity (buckets_of current other t) (size_of s t) (met_before s current entries t) b n i)

  -- so what a bucket reaches is met there, but for what the table before it had
  reached_there : (t : Table) (b : ℕ) (ns : List ℕ)
      → Reached (in_bucket (size_of s t) b) entries s.capacity (get_or (buckets_of current other t) b 0) ns
      → ((n : ℕ) → In n ns → In n (met_before s current entries t) → ⊥)
      → (n : ℕ) → In n ns → In n (met_at s current other entries t b)
  unfolding met_at followed_in
  reached_there t b ns r new n i =
      reached_met (in_bucket (size_of s t) b) entries s.capacity
      (met_in entries s.capacity (buckets_of current other t) (size_of s t) (met_before s current entries t) b)
      (get_or (buckets_of current other t) b 0) ns r
      (λ m j k. new m j (met_earlier t b m (of_reached (in_bucket (size_of s t) b) entries s.capacity _ ns r m j).2 k)) n i

  -- an entry met before the new table is met in a bucket of the old one
  pub of_old : (n : ℕ) → In n (met_before s current entries Table.New)
      → (a : ℕ) × (a < s.old_size) × In n (met_at s current other entries Table.Old a)
  unfolding met_before met_at buckets_of size_of
  of_old n i =
      ⊎_elim (λ j. absurd j) (λ h. h) (of_up_to entries s.capacity current s.old_size [] s.old_size n i)

  -- in the old table every entry reached
  pub old_met : (b : ℕ) (ns : List ℕ) → Reached (in_bucket s.old_size b) entries s.capacity (get_or current b 0) ns
      → (n : ℕ) → In n ns → In n (met_at s current other entries Table.Old b)
  unfolding size_of buckets_of met_before
  old_met b ns r = reached_there Table.Old b ns r (λ n i j. j)

  -- in the new one every entry reached, where the old one has none of them
  pub new_met : (b : ℕ) (ns : List ℕ) → Reached (in_bucket s.new_size b) entries s.capacity (get_or other b 0) ns
      → ((n a : ℕ) → In n ns → a < s.old_size → In n (met_at s current other entries Table.Old a) → ⊥)
      → (n : ℕ) → In n ns → In n (met_at s current other entries Table.New b)
  unfolding size_of buckets_of
  new_met b ns r apart =
      reached_there Table.New b ns r (λ n i j. let (a, l, k) = of_old n j in apart n a i l k)

  -- and nothing but what is reached
  pub met_reached : (t : Table) (b : ℕ)
      → Reached (in_bucket (size_of s t) b) entries s.capacity (get_or (buckets_of current other t) b 0) (met_at s current other entries t b)
  unfolding met_at followed_in
  met_reached t b =
      followed_reached (in_bucket (size_of s t) b) entries s.capacity s.capacity
      (met_in entries s.capacity (buckets_of current other t) (size_of s t) (met_before s current entries t) b)
      (get_or (buckets_of current other t) b 0)

  -- the first entry met with a key is kept
  pub first_kept : (key n : ℕ) → 0 < n → first_met entries key (met_all s current other entries) ≡ n
      → is_kept s current other entries n ≡ true
  unfolding is_kept
  first_kept key n z e =
      eq-eqb _ n
      (ap (λ (k : ℕ). first_met entries k (met_all s current other entries)) (first_met_key entries key (met_all s current other entries) n z e) ∙ e)

  -- every key met is kept
  pub key_kept : (t : Table) (b n : ℕ) → b < size_of s t → In n (met_at s current other entries t b)
      → (m : ℕ) × (u : Table) × (c : ℕ) × (c < size_of s u) × In m (kept_at s current other entries u c)
      × (key_of entries m ≡ key_of entries n)
  unfolding met its kept Positive
  key_kept t b n l i =
      let all = met_all s current other entries in
      let key = key_of entries n in
      let m = first_met entries key all in
      let z =
      first_met_some entries key all
      (λ k j. let (u, c, h, g) = of_met_all s current other entries k j in (met_facts s current other entries u c k g).0) n
      (in_met_all s current other entries t b n l i) refl in
      let (u, c, h, g) = kept_place s current other entries m z (first_kept key m z refl) in
      (m, u, c, h, g, first_met_key entries key all m z refl)
