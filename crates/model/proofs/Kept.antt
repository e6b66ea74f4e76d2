-- What the repair meets, keeps and frees of any memory: each entry once, one for each key, and its chains written anew.
-- Assumes nothing.
use Prim.Native.Nat.{ℕ, zero, suc, ◌+◌, ◌*◌, ◌<◌, ◌≤◌}
use mathlib.Core.Path.{◌≡◌, refl, sym, ap, subst, ◌∙◌}
use mathlib.Core.Logic.{inl, inr, ⊎_elim}
use mathlib.Core.Bool.{Bool, true, false, not, cond}
use mathlib.Core.List.{List, [], ◌∷◌, ◌++◌}
use mathlib.Core.Option.{Option, some}
use native.Mathlib.Decide.{dec_lt}
use native.Mathlib.Omega.{arith}
use lib.ListN.{length, length-append}
use lib.Dec.{eqb}
use borrow.Author.Tests.{eqb-true, not-true}
use Rattle.cursor.specs.Member.{In, Distinct}
use Rattle.model.specs.declared.State.{State}
use Rattle.model.specs.declared.Table.{Table}
use Rattle.model.specs.Memory.{key_of, value_of, size_of, buckets_of, in_bucket, sum}
use Rattle.model.specs.Iterators.{first_from}
use Rattle.model.proofs.Tests.{true_not_false}
use Rattle.model.proofs.Linked.{Linked, linked_kept}
use Rattle.model.proofs.Lists.{in_left, in_right, in_either, distinct_append, in_keep, of_keep, distinct_keep, pigeonhole, distinct_fits}
use Rattle.model.proofs.Sums.{gathered, length_gathered, in_gathered, of_gathered}
use Rattle.model.specs.Repair.{met_before, met_at, met_all, first_met, is_kept, kept_at, up_from, freed_list, first_or0, chained_all, freed, repaired_entries, is_filled, or_else}
use Rattle.model.proofs.Numbers.{down_from, in_down_from, length_down_from}
use Rattle.model.proofs.Followed.{here_met, here_distinct, before_in, here_in, of_up_to, here_apart}
use Rattle.model.proofs.Relinked.{length_chained_all, key_chained_all, value_chained_all, link_chained_all, chained_all_linked, length_freed, link_freed, key_freed, value_freed, freed_linked}

-- the numbers upwards

pub up_from_range : (n count x : ℕ) → In x (up_from n count) → (n ≤ x) × (x < n + count)
unfolding up_from
up_from_range n zero x i = elim i [ ]
up_from_range n (suc count) x (inl e) = (omega arith, omega arith)
up_from_range n (suc count) x (inr i) = let (a, b) = up_from_range (suc n) count x i in (omega arith, omega arith)

pub in_up_from : (n count x : ℕ) → n ≤ x → x < n + count → In x (up_from n count)
unfolding up_from
in_up_from n zero x h l = absurd (omega arith)
in_up_from n (suc count) x h l =
    elim (dec_lt n x) [ yes k ↦ inr (in_up_from (suc n) count x k (omega arith)) | no k ↦ inl (omega arith) ]

pub up_from_distinct : (n count : ℕ) → Distinct (up_from n count)
unfolding up_from
up_from_distinct n zero = tt
up_from_distinct n (suc count) =
    (λ i. let (a, b) = up_from_range (suc n) count n i in omega arith, up_from_distinct (suc n) count)

-- joined lists that share nothing
distinct_gathered : (f : ℕ → List ℕ) (n : ℕ) → ((b : ℕ) → Distinct (f b))
    → ((a b m : ℕ) → a < b → In m (f a) → In m (f b) → ⊥) → Distinct (gathered f n)
unfolding gathered
distinct_gathered f zero d apart = tt
distinct_gathered f (suc n) d apart =
    distinct_append (gathered f n) (f n) (distinct_gathered f n d apart) (d n)
    (λ m i j. let (a, l, k) = of_gathered f n m i in apart a n m l k j)

-- the first entry with a key is one of the list
pub first_met_in : (entries : List ℕ) (key : ℕ) (ns : List ℕ) (n : ℕ) → 0 < n → first_met entries key ns ≡ n → In n ns
unfolding first_met
first_met_in entries key [] n z e = absurd (omega arith)
first_met_in entries key (m ∷ ns) n z e = by (eqb (key_of entries m) key) e (first_met_in entries key ns n z)
  where
    by : (b : Bool) → cond b m (first_met entries key ns) ≡ n → (first_met entries key ns ≡ n → In n ns) → In n (m ∷ ns)
    by true f rest = inl (sym f)
    by false f rest = inr (rest f)

-- the first filled bucket before an index, or the index
pub index_first : (test : ℕ → Bool) (n left : ℕ)
    → (or_else (n + left) (first_from test n left) ≤ n + left)
    × ((b : ℕ) → n ≤ b → b < or_else (n + left) (first_from test n left) → test b ≡ false)
unfolding or_else first_from
index_first test n zero = (omega arith, λ b l k. absurd (omega arith))
index_first test n (suc left) = by (test n) refl (index_first test (suc n) left)
  where
    later : test n ≡ false → (o : Option ℕ)
        → (or_else (suc n + left) o ≤ suc n + left) × ((b : ℕ) → suc n ≤ b → b < or_else (suc n + left) o → test b ≡ false)
        → (or_else (n + suc left) o ≤ n + suc left) × ((b : ℕ) → n ≤ b → b < or_else (n + suc left) o → test b ≡ false)
    later e o h =
        let same : n + suc left ≡ suc n + left = omega arith in
        rw same (
          h.0,
          λ b l k.
              elim (dec_lt n b) [ yes j ↦ h.1 b j k | no j ↦ let here : n ≡ b = omega arith in subst (λ (i : ℕ). test i ≡ false) here e ],
        )

    by : (t : Bool) → test n ≡ t
        → (or_else (suc n + left) (first_from test (suc n) left) ≤ suc n + left)
        × ((b : ℕ) → suc n ≤ b → b < or_else (suc n + left) (first_from test (suc n) left) → test b ≡ false)
        → (or_else (n + suc left) (cond t (some n) (first_from test (suc n) left)) ≤ n + suc left)
        × ((b : ℕ) → n ≤ b → b < or_else (n + suc left) (cond t (some n) (first_from test (suc n) left)) → test b ≡ false)
    by true e h = (omega arith, λ b l k. absurd (omega arith))
    by false e h = later e (first_from test (suc n) left) h

-- where it lies before the index, it is filled
pub index_drops : (test : ℕ → Bool) (n left : ℕ) → or_else (n + left) (first_from test n left) < n + left
    → test (or_else (n + left) (first_from test n left)) ≡ true
unfolding or_else first_from
index_drops test n zero l = absurd (omega arith)
index_drops test n (suc left) l = by (test n) refl (index_drops test (suc n) left) l
  where
    by : (t : Bool) → test n ≡ t
        → (or_else (suc n + left) (first_from test (suc n) left) < suc n + left
        → test (or_else (suc n + left) (first_from test (suc n) left)) ≡ true)
        → or_else (n + suc left) (cond t (some n) (first_from test (suc n) left)) < n + suc left
        → test (or_else (n + suc left) (cond t (some n) (first_from test (suc n) left))) ≡ true
    by true e rest l = e
    by false e rest l =
        let same : n + suc left ≡ suc n + left = omega arith in
        subst (λ (k : ℕ). or_else k (first_from test (suc n) left) < k → test (or_else k (first_from test (suc n) left)) ≡ true) (sym same) rest l

pub not_filled : (ns : List ℕ) → is_filled ns ≡ false → first_or0 ns ≡ 0
unfolding is_filled first_or0
not_filled [] e = refl
not_filled (n ∷ ns) e = let z : ◌≡◌ {A = ℕ} 0 1 = cc in absurd (omega arith)

module _ (s : State) (current other entries : List ℕ) where
  unfoldable pub met : Table → ℕ → List ℕ
  met = met_at s current other entries

  unfoldable pub its : ℕ → Bool
  its = is_kept s current other entries

  unfoldable pub kept : Table → ℕ → List ℕ
  kept = kept_at s current other entries

  unfoldable pub free : List ℕ
  free = freed_list s current other entries

  -- what is known of an entry met
  pub met_facts : (t : Table) (b n : ℕ) → In n (met t b) → (0 < n) × (n ≤ s.capacity) × (in_bucket (size_of s t) b (key_of entries n) ≡ true)
  unfolding met met_at
  met_facts t b n i =
      let h = here_met entries s.capacity (buckets_of current other t) (size_of s t) (met_before s current entries t) b n i in
      (h.some, h.fits, h.passes)

  pub met_distinct : (t : Table) (b : ℕ) → Distinct (met t b)
  unfolding met met_at
  met_distinct t b = here_distinct entries s.capacity (buckets_of current other t) (size_of s t) (met_before s current entries t) b

  -- two buckets share no entry

  pub met_apart : (t : Table) (a b n : ℕ) → a < b → In n (met t a) → In n (met t b) → ⊥
  unfolding met met_at
  met_apart t a b n l i j =
      here_apart entries s.capacity (buckets_of current other t) (size_of s t) (met_before s current entries t) a b n i j l

  pub tables_apart : (a b n : ℕ) → a < s.old_size → In n (met Table.Old a) → In n (met Table.New b) → ⊥
  unfolding met met_at met_before buckets_of size_of
  tables_apart a b n l i j =
      (here_met entries s.capacity other s.new_size (met_before s current entries Table.New) b n j).new
      (before_in entries s.capacity other s.new_size (met_before s current entries Table.New) b n
      (here_in entries s.capacity current s.old_size [] a s.old_size n l i))

  -- an entry met in a bucket is met
  pub in_met_all : (t : Table) (b n : ℕ) → b < size_of s t → In n (met t b) → In n (met_all s current other entries)
  unfolding met met_at met_all met_before size_of buckets_of
  in_met_all Table.Old b n l i =
      before_in entries s.capacity other s.new_size _ s.new_size n
      (here_in entries s.capacity current s.old_size [] b s.old_size n l i)
  in_met_all Table.New b n l i =
      here_in entries s.capacity other s.new_size (met_before s current entries Table.New) b s.new_size n l i

  -- an entry met at all is met in a bucket
  pub of_met_all : (n : ℕ) → In n (met_all s current other entries) → (t : Table) × (b : ℕ) × (b < size_of s t) × In n (met t b)
  unfolding met met_all met_at met_before buckets_of size_of
  of_met_all n i =
      ⊎_elim
      (λ j.
      ⊎_elim (λ k. absurd k) (λ h. let (b, l, k) = h in (Table.Old, b, l, k))
      (of_up_to entries s.capacity current s.old_size [] s.old_size n j))
      (λ h. let (b, l, k) = h in (Table.New, b, l, k))
      (of_up_to entries s.capacity other s.new_size (met_before s current entries Table.New) s.new_size n i)

  -- an entry kept

  pub kept_met : (t : Table) (b n : ℕ) → In n (kept t b) → In n (met t b) × (its n ≡ true)
  unfolding kept kept_at met its
  kept_met t b n i = of_keep its n (met t b) i

  pub kept_distinct : (t : Table) (b : ℕ) → Distinct (kept t b)
  unfolding kept kept_at its met
  kept_distinct t b = distinct_keep its (met t b) (met_distinct t b)

  pub kept_range : (t : Table) (b n : ℕ) → In n (kept t b) → (0 < n) × (n ≤ s.capacity)
  kept_range t b n i = let (z, l, p) = met_facts t b n (kept_met t b n i).0 in (z, l)

  pub kept_apart : (t : Table) (a b n : ℕ) → a < b → In n (kept t a) → In n (kept t b) → ⊥
  kept_apart t a b n l i j = met_apart t a b n l (kept_met t a n i).0 (kept_met t b n j).0

  pub kept_place : (n : ℕ) → 0 < n → its n ≡ true → (t : Table) × (b : ℕ) × (b < size_of s t) × In n (kept t b)
  unfolding its is_kept kept kept_at met
  kept_place n z e =
      let all = met_all s current other entries in
      let (t, b, l, i) = of_met_all n (first_met_in entries (key_of entries n) all n z (eqb-true (first_met entries (key_of entries n) all) n e)) in
      (t, b, l, in_keep its n (met t b) i e)

  -- one entry for each key
  pub kept_one : (n m : ℕ) → its n ≡ true → its m ≡ true → key_of entries n ≡ key_of entries m → n ≡ m
  unfolding its is_kept
  kept_one n m e f same =
      sym (eqb-true _ n e) ∙ ap (λ (k : ℕ). first_met entries k (met_all s current other entries)) same ∙ eqb-true _ m f

  -- an entry freed

  pub free_not : (n : ℕ) → In n free → (0 < n) × (n ≤ s.capacity) × (its n ≡ false)
  unfolding free freed_list its
  free_not n i =
      let (j, e) = of_keep (λ m. not (its m)) n (up_from 1 s.capacity) i in
      let (a, b) = up_from_range 1 s.capacity n j in
      (omega arith, omega arith, not-true (its n) e)

  pub in_free_lem : (n : ℕ) → 0 < n → n ≤ s.capacity → its n ≡ false → In n free
  unfolding free freed_list its
  in_free_lem n z l e = in_keep (λ m. not (its m)) n (up_from 1 s.capacity) (in_up_from 1 s.capacity n z (omega arith)) (ap not e)

  pub free_distinct : Distinct free
  unfolding free freed_list its
  free_distinct = distinct_keep (λ m. not (its m)) (up_from 1 s.capacity) (up_from_distinct 1 s.capacity)

  pub kept_not_free : (t : Table) (b n : ℕ) → In n (kept t b) → In n free → ⊥
  kept_not_free t b n i j = true_not_false (sym (kept_met t b n i).1 ∙ (free_not n j).2)

  -- How many they are.

  joined : List ℕ
  joined = gathered (kept Table.Old) s.old_size ++ gathered (kept Table.New) s.new_size

  pub all_length : length free + (sum (λ b. length (kept Table.Old b)) s.old_size + sum (λ b. length (kept Table.New b)) s.new_size)
      ≡ s.capacity
  unfolding joined size_of
  all_length =
      omega (
        arith,
        length-append free joined,
        length-append (gathered (kept Table.Old) s.old_size) (gathered (kept Table.New) s.new_size),
        length_gathered (kept Table.Old) s.old_size,
        length_gathered (kept Table.New) s.new_size,
        length_down_from s.capacity,
        distinct_fits (free ++ joined) (down_from s.capacity) distinct within,
        pigeonhole s.capacity (free ++ joined) all,
      )
    where
      of_joined : (n : ℕ) → In n joined → (t : Table) × (b : ℕ) × (b < size_of s t) × In n (kept t b)
      of_joined n i =
          ⊎_elim (λ j. let (b, l, k) = of_gathered (kept Table.Old) s.old_size n j in (Table.Old, b, l, k))
          (λ j. let (b, l, k) = of_gathered (kept Table.New) s.new_size n j in (Table.New, b, l, k))
          (in_either n (gathered (kept Table.Old) s.old_size) (gathered (kept Table.New) s.new_size) i)

      in_joined : (n : ℕ) (t : Table) (b : ℕ) → b < size_of s t → In n (kept t b) → In n joined
      in_joined n Table.Old b l i =
          in_left n (gathered (kept Table.Old) s.old_size) _ (in_gathered (kept Table.Old) s.old_size b n l i)
      in_joined n Table.New b l i =
          in_right n (gathered (kept Table.Old) s.old_size) _ (in_gathered (kept Table.New) s.new_size b n l i)

      distinct : Distinct (free ++ joined)
      distinct =
          distinct_append free joined free_distinct
          (distinct_append (gathered (kept Table.Old) s.old_size) (gathered (kept Table.New) s.new_size)
          (distinct_gathered (kept Table.Old) s.old_size (kept_distinct Table.Old) (kept_apart Table.Old))
          (distinct_gathered (kept Table.New) s.new_size (kept_distinct Table.New) (kept_apart Table.New))
          (λ n i j.
          let (a, l, h) = of_gathered (kept Table.Old) s.old_size n i in
          let (b, k, g) = of_gathered (kept Table.New) s.new_size n j in
          tables_apart a b n l (kept_met Table.Old a n h).0 (kept_met Table.New b n g).0))
          (λ n i j. let (t, b, l, k) = of_joined n j in kept_not_free t b n k i)

      within : (n : ℕ) → In n (free ++ joined) → In n (down_from s.capacity)
      within n i =
          ⊎_elim (λ j. let (z, l, e) = free_not n j in in_down_from s.capacity n z l)
          (λ j. let (t, b, l, k) = of_joined n j in let (z, m) = kept_range t b n k in in_down_from s.capacity n z m)
          (in_either n free joined i)

      all : (n : ℕ) → 0 < n → n ≤ s.capacity → In n (free ++ joined)
      all n z l = by (its n) refl
        where
          by : (b : Bool) → its n ≡ b → In n (free ++ joined)
          by true e = let (t, b, k, i) = kept_place n z e in in_right n free joined (in_joined n t b k i)
          by false e = in_left n free joined (in_free_lem n z l e)

  -- The memory.

  -- with the chains of the old table linked, of both, and with the rest freed
  unfoldable pub old_done : List ℕ
  old_done = chained_all (kept Table.Old) entries s.old_size

  unfoldable pub both_done : List ℕ
  both_done = chained_all (kept Table.New) old_done s.new_size

  unfoldable pub all_done : List ℕ
  all_done = freed both_done free

  pub all_done_lem : all_done ≡ repaired_entries s current other entries
  unfolding all_done both_done old_done repaired_entries kept free
  all_done_lem = refl

  pub length_done : length all_done ≡ length entries
  unfolding all_done both_done old_done
  length_done =
      length_freed both_done free
      ∙ length_chained_all (kept Table.New) old_done s.new_size
      ∙ length_chained_all (kept Table.Old) entries s.old_size

  -- an entry that is not freed keeps its key and value

  pub key_done : (n : ℕ) → (In n free → ⊥) → key_of all_done n ≡ key_of entries n
  unfolding all_done both_done old_done
  key_done n f =
      key_freed both_done free n f
      ∙ key_chained_all (kept Table.New) old_done s.new_size n
      ∙ key_chained_all (kept Table.Old) entries s.old_size n

  pub value_done : (n : ℕ) → (In n free → ⊥) → value_of all_done n ≡ value_of entries n
  unfolding all_done both_done old_done
  value_done n f =
      value_freed both_done free n f
      ∙ value_chained_all (kept Table.New) old_done s.new_size n
      ∙ value_chained_all (kept Table.Old) entries s.old_size n

  module _ (fits : s.capacity * 3 ≤ length entries) where
    pub old_linked : (b : ℕ) → b < s.old_size → Linked all_done s.capacity (first_or0 (kept Table.Old b)) (kept Table.Old b)
    unfolding all_done both_done old_done
    old_linked b l =
        linked_kept both_done all_done s.capacity _ (kept Table.Old b)
        (λ n i. link_freed both_done free n (kept_not_free Table.Old b n i))
        (linked_kept old_done both_done s.capacity _ (kept Table.Old b)
        (λ n i.
        link_chained_all (kept Table.New) old_done s.new_size n
        (λ c k j. tables_apart b c n l (kept_met Table.Old b n i).0 (kept_met Table.New c n j).0))
        (chained_all_linked (kept Table.Old) entries s.capacity s.old_size fits (kept_distinct Table.Old) (kept_range Table.Old)
        (kept_apart Table.Old) b l))

    pub new_linked : (b : ℕ) → b < s.new_size → Linked all_done s.capacity (first_or0 (kept Table.New b)) (kept Table.New b)
    unfolding all_done both_done old_done
    new_linked b l =
        linked_kept both_done all_done s.capacity _ (kept Table.New b)
        (λ n i. link_freed both_done free n (kept_not_free Table.New b n i))
        (chained_all_linked (kept Table.New) old_done s.capacity s.new_size
        (omega (arith, length_chained_all (kept Table.Old) entries s.old_size))
        (kept_distinct Table.New) (kept_range Table.New) (kept_apart Table.New) b l)

    pub free_linked : Linked all_done s.capacity (first_or0 free) free
    unfolding all_done both_done old_done
    free_linked =
        freed_linked both_done s.capacity
        (omega (
          arith,
          length_chained_all (kept Table.New) old_done s.new_size,
          length_chained_all (kept Table.Old) entries s.old_size,
        ))
        free free_distinct (λ n i. let (z, l, e) = free_not n i in (z, l))
