-- The check answers yes exactly if the store is undamaged.
-- Assumes nothing.
use Prim.Native.Nat.{ℕ, zero, suc, ◌+◌, ◌-◌, ◌<◌, ◌≤◌}
use mathlib.Core.Path.{◌≡◌, refl, sym, ap, subst, ◌∙◌}
use mathlib.Core.Logic.{◌≢◌, inl, inr, ⊎_elim, ◌⊎◌}
use mathlib.Core.Bool.{Bool, true, false, ◌&&◌, not}
use mathlib.Core.List.{List, [], ◌∷◌, ◌++◌}
use mathlib.Core.Option.{Option, none, some}
use native.Mathlib.Decide.{dec_lt, ℕ_discrete}
use native.Mathlib.Omega.{arith}
use lib.ListN.{length, get_or, length-append}
use native.Mathlib.Nat.{mod-lt}
use borrow.Author.Tests.{eqb-true, eq-eqb}
use Rattle.cursor.specs.Member.{In, Distinct, keep}
use Rattle.model.specs.declared.State.{State}
use Rattle.model.specs.declared.Table.{Table}
use Rattle.model.specs.declared.Lookup.{Lookup}
use Rattle.model.specs.Keys.{hash, bucket_of}
use Rattle.model.specs.Limits.{largest_exponent, legal_size}
use Rattle.model.proofs.Power.{legal_pos}
use Rattle.model.specs.Memory.{key_of, head_at, budget_at, belongs, size_of, used_of, keys_held, Place, Live, key_place, chain_at, entries_at, listed, sum, Undamaged, last_or}
use Rattle.model.specs.Calls.{sound, lookup, lookup_while, lookup_in, searched, both, first_with}
use Rattle.model.proofs.Tests.{Tells, tells_and, tells_true, tells_eq, tells_same, true_not_false}
use Rattle.model.proofs.Soundness.{Sound, sound_facts}
use Rattle.model.proofs.Linked.{Linked, read_sound, linked_distinct, linked_in_range}
use Rattle.model.proofs.Shared.{in_its_bucket, places_last}
use Rattle.model.proofs.Lists.{in_left, in_right, in_either, distinct_append, in_keep, of_keep, distinct_keep, pigeonhole, distinct_fits, removed}
use Rattle.model.proofs.Sums.{gathered, length_gathered, in_gathered}
use Rattle.invariant.proofs.Shape.{Shape, IsBucket}
use Rattle.invariant.proofs.Places.{bucket_not_free}
use Rattle.invariant.proofs.ToUndamaged.{entries_at_lem}
use Rattle.invariant.proofs.FromUndamaged.{undamaged_shape, fits_held}
use Rattle.invariant.proofs.Lookups.{FirstIn, first_in, lookup_held}
use Rattle.model.specs.Verify.{is_sound, all_sound, table_verified, all_empty, finds, finds_itself, counted, last_fails, free_verified, verified}
use Rattle.model.proofs.Numbers.{down_from, in_down_from, down_from_distinct, length_down_from, length_counted, filled, last_in}

-- The parts of the test.

tells_is_sound : (o : Option (List ℕ)) → Tells (o ≡ some (listed o)) (is_sound o)
unfolding is_sound listed
tells_is_sound none = Tells.fails (λ e. let z : ◌≡◌ {A = ℕ} 0 1 = cc in omega arith)
tells_is_sound (some ns) = Tells.holds refl

below_suc : (P : ℕ → Type 0) (n : ℕ) → ((b : ℕ) → b < n → P b) → P n → (b : ℕ) → b < suc n → P b
below_suc P n f p b l =
    elim (dec_lt b n) [ yes k ↦ f b k | no k ↦ subst P (let e : n ≡ b = omega arith in e) p ]

tells_all_sound : (f : ℕ → Option (List ℕ)) (n : ℕ) → Tells ((b : ℕ) → b < n → f b ≡ some (listed (f b))) (all_sound f n)
unfolding all_sound
tells_all_sound f zero = Tells.holds (λ b l. absurd (omega arith))
tells_all_sound f (suc n) =
    tells_same (λ h. below_suc (λ b. f b ≡ some (listed (f b))) n h.0 h.1) (λ h. (λ b l. h b (omega arith), h n (omega arith)))
    (tells_and (tells_all_sound f n) (tells_is_sound (f n)))

tells_all_empty : (buckets : List ℕ) (n : ℕ) → Tells ((b : ℕ) → b < n → get_or buckets b 0 ≡ 0) (all_empty buckets n)
unfolding all_empty
tells_all_empty buckets zero = Tells.holds (λ b l. absurd (omega arith))
tells_all_empty buckets (suc n) =
    tells_same (λ h. below_suc (λ b. get_or buckets b 0 ≡ 0) n h.0 h.1) (λ h. (λ b l. h b (omega arith), h n (omega arith)))
    (tells_and (tells_all_empty buckets n) (tells_eq (get_or buckets n 0) 0))

-- the last entry, if there is one
pub LastFails : (ℕ → Bool) → List ℕ → Type 0
LastFails test ns = (n : ℕ) → In n ns → test (last_or 0 ns) ≡ false

tells_last : (test : ℕ → Bool) (ns : List ℕ) → Tells (LastFails test ns) (last_fails test ns)
unfolding LastFails last_fails last_or
tells_last test [] = Tells.holds (λ n i. absurd i)
tells_last test (m ∷ ns) = by (test (last_or m ns)) refl
  where
    by : (b : Bool) → test (last_or m ns) ≡ b
        → Tells ((n : ℕ) → In n (m ∷ ns) → test (last_or m ns) ≡ false) (not b)
    by true e = Tells.fails (λ h. true_not_false (sym e ∙ h m (inl refl)))
    by false e = Tells.holds (λ n i. e)

tells_free : (test : ℕ → Bool) (count : ℕ) (o : Option (List ℕ))
    → Tells ((o ≡ some (listed o)) × (length (listed o) ≡ count) × LastFails test (listed o)) (free_verified test count o)
unfolding free_verified listed
tells_free test count none = Tells.fails (λ h. let e = h.0 in let z : ◌≡◌ {A = ℕ} 0 1 = cc in omega arith)
tells_free test count (some ns) =
    tells_same (λ h. (refl, h.0, h.1)) (λ h. (h.1, h.2)) (tells_and (tells_eq (length ns) count) (tells_last test ns))

module _ (s : State) (current other entries : List ℕ) where
  -- a table's chains are sound, and together as long as its count says
  unfoldable pub TableChecks : Table → Type 0
  TableChecks t =
      ((b : ℕ) → b < size_of s t
      → chain_at s current other entries (Place.bucket t b) ≡ some (entries_at s current other entries (Place.bucket t b)))
      × (used_of s t ≡ sum (λ b. length (entries_at s current other entries (Place.bucket t b))) (size_of s t))

  -- what the code finds out, part by part
  pub record Checks : Type 0 where
    pub table : (t : Table) → TableChecks t
    pub passed : (b : ℕ) → b < s.rehash_index → get_or current b 0 ≡ 0
    pub free_sound : chain_at s current other entries Place.free ≡ some (entries_at s current other entries Place.free)
    pub free_long : length (entries_at s current other entries Place.free) ≡ s.capacity - keys_held s
    pub free_apart : LastFails (finds_itself s current other entries) (entries_at s current other entries Place.free)
    pub held : counted (finds_itself s current other entries) s.capacity ≡ keys_held s

  tells_table : (t : Table) → Tells (TableChecks t) (table_verified s current other entries t)
  unfolding table_verified entries_at TableChecks
  tells_table t =
      tells_and (tells_all_sound (λ b. chain_at s current other entries (Place.bucket t b)) (size_of s t)) (tells_eq _ _)

  by_table : TableChecks Table.Old → TableChecks Table.New → (t : Table) → TableChecks t
  by_table a b Table.Old = a
  by_table a b Table.New = b

  tells_checks : Tells Checks (verified s current other entries)
  unfolding verified entries_at
  tells_checks =
      tells_same
      (λ h.
      record {
        table = by_table h.0.0.0.0 h.0.0.0.1;
        passed = h.0.0.1;
        free_sound = h.0.1.0;
        free_long = h.0.1.1;
        free_apart = h.0.1.2;
        held = h.1;
      })
      (λ c. ((((c.table Table.Old, c.table Table.New), c.passed), (c.free_sound, c.free_long, c.free_apart)), c.held))
      (tells_and
      (tells_and
      (tells_and (tells_and (tells_table Table.Old) (tells_table Table.New)) (tells_all_empty current s.rehash_index))
      (tells_free (finds_itself s current other entries) (s.capacity - keys_held s) (chain_at s current other entries Place.free)))
      (tells_eq _ _))

-- What a lookup finds, whatever the memory: an entry with the key, on the chain of the key's bucket in a live table.
module _ (s : State) (current other entries : List ℕ) (facts : Sound s (length current) (length other) (length entries)) where
  -- the bucket that a key calls for

  pub old_key_live : (key : ℕ) → Live s (key_place s key Table.Old)
  unfolding Live bucket_of legal_size key_place size_of
  old_key_live key = mod-lt (hash key) (legal_pos largest_exponent s.old_size facts.old_legal)

  pub new_key_live : (key : ℕ) → s.rehashing ≡ true → Live s (key_place s key Table.New)
  unfolding Live bucket_of legal_size key_place size_of
  new_key_live key e = mod-lt (hash key) (legal_pos largest_exponent s.new_size (facts.rehashing e).new_legal)

  module _ (key : ℕ) where
    FoundIn : Lookup → Type 0
    FoundIn Lookup.Damaged = Unit {0}
    FoundIn Lookup.Absent = Unit {0}
    FoundIn (Lookup.At t before n) =
        Live s (key_place s key t) × In n (entries_at s current other entries (key_place s key t)) × (key_of entries n ≡ key)

    found_in_list : (t : Table) (ns : List ℕ) (r : Lookup) → Live s (key_place s key t)
        → entries_at s current other entries (key_place s key t) ≡ ns → FirstIn entries key t 0 ns r → FoundIn r
    unfolding FoundIn FirstIn
    found_in_list t ns Lookup.Damaged l e h = tt
    found_in_list t ns Lookup.Absent l e h = tt
    found_in_list t ns (Lookup.At u before n) l e (us, vs, split, last, k, same) =
        let i : In n ns = subst (In n) (sym split) (in_right n us (n ∷ vs) (inl refl)) in (
          subst (λ (v : Table). Live s (key_place s key v)) (sym same) l,
          subst (λ (v : Table). In n (entries_at s current other entries (key_place s key v))) (sym same) (subst (In n) (sym e) i),
          k,
        )

    found_in_table : (t : Table) → Live s (key_place s key t) → FoundIn (lookup_in s current other entries key t)
    unfolding lookup_in entries_at searched FoundIn listed
    found_in_table t l = by (chain_at s current other entries (key_place s key t)) refl
      where
        by : (o : Option (List ℕ)) → chain_at s current other entries (key_place s key t) ≡ o
            → FoundIn (searched entries key t 0 o)
        by none e = tt
        by (some ns) e =
            found_in_list t ns (first_with entries key t 0 ns) l (ap listed e) (first_in entries key t 0 ns)

    found_in_both : (old new : Lookup) → FoundIn old → FoundIn new → FoundIn (both old new)
    unfolding both FoundIn
    found_in_both Lookup.Damaged new o h = tt
    found_in_both Lookup.Absent new o h = h
    found_in_both (Lookup.At t before n) Lookup.Damaged o h = tt
    found_in_both (Lookup.At t before n) Lookup.Absent o h = o
    found_in_both (Lookup.At t before n) (Lookup.At t' before' n') o h = o

    found_lookup : FoundIn (lookup s current other entries key)
    unfolding lookup lookup_while
    found_lookup = by s.rehashing refl
      where
        by : (f : Bool) → s.rehashing ≡ f → FoundIn (lookup_while f s current other entries key)
        by false e = found_in_table Table.Old (old_key_live key)
        by true e =
            found_in_both _ _ (found_in_table Table.Old (old_key_live key)) (found_in_table Table.New (new_key_live key e))

  -- an entry that finds itself is in a bucket
  pub itself_there : (n : ℕ) → finds_itself s current other entries n ≡ true
      → (t : Table) × Live s (key_place s (key_of entries n) t)
      × In n (entries_at s current other entries (key_place s (key_of entries n) t))
  unfolding finds_itself finds FoundIn
  itself_there n h = by (lookup s current other entries (key_of entries n)) (found_lookup (key_of entries n)) h
    where
      by : (r : Lookup) → FoundIn (key_of entries n) r → finds n r ≡ true
          → (t : Table) × Live s (key_place s (key_of entries n) t)
          × In n (entries_at s current other entries (key_place s (key_of entries n) t))
      by Lookup.Damaged f e = let z : ◌≡◌ {A = ℕ} 0 1 = cc in absurd (omega arith)
      by Lookup.Absent f e = let z : ◌≡◌ {A = ℕ} 0 1 = cc in absurd (omega arith)
      by (Lookup.At t before m) f e =
          let same = eqb-true m n e in
          (t, f.0, subst (λ (k : ℕ). In k (entries_at s current other entries (key_place s (key_of entries n) t))) same f.1)

-- two entries that a lookup finds are one
finds_one : (n m : ℕ) (r : Lookup) → finds n r ≡ true → finds m r ≡ true → n ≡ m
unfolding finds
finds_one n m Lookup.Damaged e f = let z : ◌≡◌ {A = ℕ} 0 1 = cc in absurd (omega arith)
finds_one n m Lookup.Absent e f = let z : ◌≡◌ {A = ℕ} 0 1 = cc in absurd (omega arith)
finds_one n m (Lookup.At t before k) e f = sym (eqb-true k n e) ∙ eqb-true k m f

-- A store that passes the checks is undamaged.
module _ {s : State} {current other entries : List ℕ} (ok : sound s current other entries ≡ true)
    (c : Checks s current other entries) where
  facts : Sound s (length current) (length other) (length entries)
  facts = sound_facts s current other entries ok

  itself : ℕ → Bool
  itself = finds_itself s current other entries

  at : Place → List ℕ
  at = entries_at s current other entries

  chain_sound : (p : Place) → Live s p → chain_at s current other entries p ≡ some (at p)
  unfolding Live at TableChecks
  chain_sound Place.free l = c.free_sound
  chain_sound (Place.bucket t b) l = (c.table t).0 b l

  chain_linked : (p : Place) → Live s p → Linked entries s.capacity (head_at s current other p) (at p)
  unfolding chain_at
  chain_linked p l =
      (read_sound (belongs s p) entries s.capacity (budget_at s p) (head_at s current other p) (at p) (chain_sound p l)).0

  range : (p : Place) → Live s p → (n : ℕ) → In n (at p) → (0 < n) × (n ≤ s.capacity)
  range p l n i = linked_in_range entries s.capacity (head_at s current other p) n (at p) (chain_linked p l) i

  -- the chains of each table joined, and the entries that find themselves
  joined : Table → List ℕ
  joined t = gathered (λ b. at (Place.bucket t b)) (size_of s t)

  length_joined : (t : Table) → length (joined t) ≡ used_of s t
  unfolding joined at TableChecks
  length_joined t = length_gathered (λ b. at (Place.bucket t b)) (size_of s t) ∙ sym (c.table t).1

  in_joined : (t : Table) (b n : ℕ) → b < size_of s t → In n (at (Place.bucket t b)) → In n (joined t)
  unfolding joined
  in_joined t b n l i = in_gathered (λ a. at (Place.bucket t a)) (size_of s t) b n l i

  selves : List ℕ
  selves = keep itself (down_from s.capacity)

  length_selves : length selves ≡ used_of s Table.Old + used_of s Table.New
  unfolding selves itself keys_held used_of
  length_selves = length_counted itself s.capacity ∙ c.held

  selves_distinct : Distinct selves
  unfolding selves
  selves_distinct = distinct_keep itself (down_from s.capacity) (down_from_distinct s.capacity)

  selves_joined : (n : ℕ) → In n selves → In n (joined Table.Old) ⊎ In n (joined Table.New)
  unfolding selves itself key_place Live at
  selves_joined n i = by (itself_there s current other entries facts n (of_keep itself n (down_from s.capacity) i).1)
    where
      by : (t : Table) × Live s (key_place s (key_of entries n) t)
          × In n (entries_at s current other entries (key_place s (key_of entries n) t))
          → In n (joined Table.Old) ⊎ In n (joined Table.New)
      by (Table.Old, l, j) = inl (in_joined Table.Old _ n l j)
      by (Table.New, l, j) = inr (in_joined Table.New _ n l j)

  -- every entry of a bucket finds itself: else the others would have to be more than they are
  bucket_itself : (t : Table) (b n : ℕ) → b < size_of s t → In n (at (Place.bucket t b)) → itself n ≡ true
  unfolding selves
  bucket_itself t b n l i =
      (of_keep itself n (down_from s.capacity)
      (filled selves (joined Table.Old ++ joined Table.New) selves_distinct
      (λ k j.
      ⊎_elim (in_left k (joined Table.Old) (joined Table.New)) (in_right k (joined Table.Old) (joined Table.New)) (selves_joined k j))
      (omega (
        arith,
        length-append (joined Table.Old) (joined Table.New),
        length_joined Table.Old,
        length_joined Table.New,
        length_selves,
      ))
      n (there t (in_joined t b n l i)))).1
    where
      there : (t : Table) → In n (joined t) → In n (joined Table.Old ++ joined Table.New)
      there Table.Old j = in_left n (joined Table.Old) (joined Table.New) j
      there Table.New j = in_right n (joined Table.Old) (joined Table.New) j

  -- no entry is in both tables: the joined chains without it would still have all that find themselves
  tables_apart : (n : ℕ) → In n (joined Table.Old) → In n (joined Table.New) → ⊥
  tables_apart n i j =
      let (ys, m, rest) = removed n (joined Table.Old) i in
      let fewer = distinct_fits selves (ys ++ joined Table.New) selves_distinct (λ k h. there ys rest k (selves_joined k h)) in
      omega (arith, length-append ys (joined Table.New), length_joined Table.Old, length_joined Table.New, length_selves)
    where
      there : (ys : List ℕ) → ((y : ℕ) → In y (joined Table.Old) → y ≢ n → In y ys) → (k : ℕ)
          → In k (joined Table.Old) ⊎ In k (joined Table.New) → In k (ys ++ joined Table.New)
      there ys rest k (inr h) = in_right k ys (joined Table.New) h
      there ys rest k (inl h) =
          elim (ℕ_discrete k n) [
            | yes e ↦ in_right k ys (joined Table.New) (rw e j)
            | no e ↦ in_left k ys (joined Table.New) (rest k h e)
          ]

  -- no free entry is in a bucket: the last free one would be there too
  free_apart : (t : Table) (b n : ℕ) → b < size_of s t → In n (at Place.free) → In n (at (Place.bucket t b)) → ⊥
  unfolding at itself LastFails Live last_or
  free_apart t b n l i j =
      let last = places_last s current other entries (at Place.free) (at (Place.bucket t b)) Place.free (Place.bucket t b)
      (chain_sound Place.free tt) (chain_sound (Place.bucket t b) l) n i j in
      true_not_false
      (sym (bucket_itself t b (last_or 0 (at Place.free)) l (rw last (last_of (at (Place.bucket t b)) j)))
      ∙ c.free_apart n i)
    where
      last_of : (ns : List ℕ) → In n ns → In (last_or 0 ns) ns
      last_of [] k = elim k [ ]
      last_of (m ∷ ns) k = last_in m ns

  one_place : (n : ℕ) (p q : Place) → Live s p → Live s q → In n (at p) → In n (at q) → p ≡ q
  unfolding Live at
  one_place n Place.free Place.free l k i j = refl
  one_place n Place.free (Place.bucket t b) l k i j = absurd (free_apart t b n k i j)
  one_place n (Place.bucket t b) Place.free l k i j = absurd (free_apart t b n l j i)
  one_place n (Place.bucket Table.Old a) (Place.bucket Table.Old b) l k i j =
      ap (Place.bucket Table.Old)
      (sym (in_its_bucket s current other entries Table.Old a n i) ∙ in_its_bucket s current other entries Table.Old b n j)
  one_place n (Place.bucket Table.New a) (Place.bucket Table.New b) l k i j =
      ap (Place.bucket Table.New)
      (sym (in_its_bucket s current other entries Table.New a n i) ∙ in_its_bucket s current other entries Table.New b n j)
  one_place n (Place.bucket Table.Old a) (Place.bucket Table.New b) l k i j =
      absurd (tables_apart n (in_joined Table.Old a n l i) (in_joined Table.New b n k j))
  one_place n (Place.bucket Table.New a) (Place.bucket Table.Old b) l k i j =
      absurd (tables_apart n (in_joined Table.Old b n k j) (in_joined Table.New a n l i))

  -- the free entries and those that find themselves are all there are
  some_place : (n : ℕ) → 0 < n → n ≤ s.capacity → (p : Place) × Live s p × In n (at p)
  unfolding Live selves itself at IsBucket key_place keys_held used_of
  some_place n z k =
      by
      (in_either n (at Place.free) selves
      (filled (at Place.free ++ selves) (down_from s.capacity) distinct within long n (in_down_from s.capacity n z k)))
    where
      itself_at : (m : ℕ) → In m selves → (p : Place) × Live s p × In m (at p) × IsBucket p
      itself_at m i =
          let (t, l, j) = itself_there s current other entries facts m (of_keep itself m (down_from s.capacity) i).1 in
          (key_place s (key_of entries m) t, l, j, tt)

      distinct : Distinct (at Place.free ++ selves)
      distinct =
          distinct_append (at Place.free) selves
          (linked_distinct entries s.capacity (head_at s current other Place.free) (at Place.free) (chain_linked Place.free tt))
          selves_distinct
          (λ m i j. let (p, l, h, b) = itself_at m j in bucket_not_free p b (one_place m p Place.free l tt h i))

      within : (m : ℕ) → In m (at Place.free ++ selves) → In m (down_from s.capacity)
      within m i =
          ⊎_elim (λ j. let (a, b) = range Place.free tt m j in in_down_from s.capacity m a b)
          (λ j. (of_keep itself m (down_from s.capacity) j).0) (in_either m (at Place.free) selves i)

      long : length (down_from s.capacity) ≤ length (at Place.free ++ selves)
      long =
          omega (
            arith,
            length-append (at Place.free) selves,
            length_down_from s.capacity,
            length_selves,
            c.free_long,
            facts.used_fits,
          )

      by : In n (at Place.free) ⊎ In n selves → (p : Place) × Live s p × In n (at p)
      by (inl i) = (Place.free, tt, i)
      by (inr i) = let (p, l, h, b) = itself_at n i in (p, l, h)

  distinct_keys : (n m : ℕ) (t u : Table) (a b : ℕ) → a < size_of s t → b < size_of s u
      → In n (at (Place.bucket t a)) → In m (at (Place.bucket u b)) → key_of entries n ≡ key_of entries m → n ≡ m
  unfolding itself finds_itself
  distinct_keys n m t u a b l k i j e =
      finds_one n m (lookup s current other entries (key_of entries n)) (bucket_itself t a n l i)
      (rw e (bucket_itself u b m k j))

  checks_undamaged : Undamaged s current other entries
  unfolding at sound TableChecks
  checks_undamaged =
      record {
        state_sound = ok;
        chains_sound = chain_sound;
        on_a_chain = some_place;
        on_one_chain = one_place;
        keys_distinct = distinct_keys;
        passed_empty = c.passed;
        counts = λ t. (c.table t).1;
      }

-- An undamaged store passes the checks.
module _ {s : State} {current other entries : List ℕ} (u : Undamaged s current other entries) where
  shape : Shape s current other entries
  shape = undamaged_shape u

  known : Sound s (length current) (length other) (length entries)
  unfolding sound
  known = sound_facts s current other entries u.state_sound

  self : ℕ → Bool
  self = finds_itself s current other entries

  free_list : List ℕ
  free_list = entries_at s current other entries Place.free

  -- an entry of a bucket finds itself
  held_itself : (n : ℕ) (p : Place) → Live s p → IsBucket p → In n (entries_at s current other entries p) → self n ≡ true
  unfolding self finds_itself finds
  held_itself n p l b i =
      let (t, before, e) = lookup_held shape (key_of entries n) n p l b (subst (In n) (entries_at_lem shape p l) i) refl in
      rw e (eq-eqb n n refl)

  -- and no other
  itself_held : (n : ℕ) → self n ≡ true → (p : Place) × Live s p × IsBucket p × In n (entries_at s current other entries p)
  unfolding self IsBucket key_place
  itself_held n e =
      let (t, l, i) = itself_there s current other entries known n e in (key_place s (key_of entries n) t, l, tt, i)

  selves' : List ℕ
  selves' = keep self (down_from s.capacity)

  free_count : length free_list + (s.old_used + s.new_used) ≡ s.capacity
  unfolding free_list Live
  free_count = omega (arith, ap length (entries_at_lem shape Place.free tt), shape.free_count)

  all_counted : length selves' ≡ s.old_used + s.new_used
  unfolding selves' free_list IsBucket
  all_counted =
      omega (
        arith,
        fits_held u selves' (distinct_keep self (down_from s.capacity) (down_from_distinct s.capacity))
            (λ n i. itself_held n (of_keep self n (down_from s.capacity) i).1),
        pigeonhole s.capacity (free_list ++ selves') (λ n z k. there n z k (u.on_a_chain n z k)),
        length-append free_list selves',
        free_count,
      )
    where
      there : (n : ℕ) → 0 < n → n ≤ s.capacity → (p : Place) × Live s p × In n (entries_at s current other entries p)
          → In n (free_list ++ selves')
      there n z k (Place.free, l, i) = in_left n free_list selves' i
      there n z k (Place.bucket t b, l, i) =
          in_right n free_list selves'
          (in_keep self n (down_from s.capacity) (in_down_from s.capacity n z k) (held_itself n (Place.bucket t b) l tt i))

  last_free : LastFails self free_list
  unfolding LastFails free_list Live last_or
  last_free n i = by (self (last_or 0 free_list)) refl
    where
      last_of : (ns : List ℕ) → In n ns → In (last_or 0 ns) ns
      last_of [] k = elim k [ ]
      last_of (m ∷ ns) k = last_in m ns

      by : (b : Bool) → self (last_or 0 free_list) ≡ b → b ≡ false
      by false e = refl
      by true e =
          let (p, l, b, j) = itself_held (last_or 0 free_list) e in
          absurd (bucket_not_free p b (u.on_one_chain (last_or 0 free_list) p Place.free l tt j (last_of free_list i)))

  undamaged_checks : Checks s current other entries
  unfolding TableChecks Live self free_list keys_held selves'
  undamaged_checks =
      record {
        table = λ t. (λ b l. u.chains_sound (Place.bucket t b) l, u.counts t);
        passed = u.passed_empty;
        free_sound = u.chains_sound Place.free tt;
        free_long = omega (arith, free_count);
        free_apart = last_free;
        held = sym (length_counted self s.capacity) ∙ all_counted;
      }

-- The check answers yes exactly if the store is undamaged.
pub verified_tells : (s : State) (current other entries : List ℕ)
    → Tells (Undamaged s current other entries) (sound s current other entries && verified s current other entries)
unfolding sound
verified_tells s current other entries =
    tells_same (λ h. checks_undamaged h.0 h.1) (λ u. (u.state_sound, undamaged_checks u))
    (tells_and (tells_true (sound s current other entries)) (tells_checks s current other entries))
