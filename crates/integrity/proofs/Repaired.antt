-- A repaired store is undamaged, whatever the memory was: its chains are the entries kept.
-- Assumes nothing.
use Prim.Native.Nat.{ℕ, ◌+◌, ◌*◌, ◌<◌, ◌≤◌}
use mathlib.Core.Path.{◌≡◌, refl, sym, ap, subst, ◌∙◌}
use mathlib.Core.Bool.{Bool, true, false}
use mathlib.Core.List.{List, [], ◌∷◌}
use mathlib.Core.Logic.{inl}
use native.Mathlib.Decide.{dec_lt}
use native.Mathlib.Omega.{arith}
use lib.ListN.{length, get_or}
use borrow.Author.Tests.{eqb-true}
use Rattle.cursor.specs.Member.{In}
use Rattle.model.specs.declared.State.{State}
use Rattle.model.specs.declared.Table.{Table}
use Rattle.model.specs.Keys.{bucket_of}
use Rattle.model.specs.Limits.{legal_size}
use Rattle.model.specs.Memory.{key_of, value_of, size_of, used_of, buckets_of, in_bucket, Place, Live, head_at, sound_state, sum, entries_at, Undamaged}
use Rattle.model.specs.Calls.{sound, state_of, old_new}
use Rattle.model.proofs.Tests.{true_not_false}
use Rattle.model.proofs.Soundness.{Sound, sound_facts, table_fits, index_within}
use Rattle.model.proofs.Linked.{Linked, linked_head, linked_in_range}
use Rattle.invariant.proofs.Shape.{Shape, Home, IsBucket}
use Rattle.invariant.proofs.ToUndamaged.{shape_undamaged, entries_at_lem}
use Rattle.invariant.proofs.States.{sound_again}
use Rattle.model.specs.Repair.{kept_at, freed_list, first_or0, repaired_buckets, repaired_entries, is_filled, repaired_index, repaired_state}
use Rattle.model.proofs.Relinked.{length_chained_all, length_headed, head_headed, key_zeroed, value_zeroed}
use Rattle.model.proofs.Kept.{met, its, kept, free, met_facts, tables_apart, kept_met, kept_apart, kept_place, kept_one, free_not, in_free_lem, kept_not_free, all_length, old_done, both_done, all_done, all_done_lem, length_done, key_done, value_done, old_linked, new_linked, free_linked, kept_range, index_first, index_drops, not_filled}

module _ (s : State) (current other entries : List ℕ) where
  -- The chains, and where each entry is.

  unfoldable pub repaired_at : Place → List ℕ
  repaired_at Place.free = free s current other entries
  repaired_at (Place.bucket t b) = kept s current other entries t b

  one_bucket_lem : (t : Table) (a b n : ℕ) → In n (kept s current other entries t a) → In n (kept s current other entries t b) → a ≡ b
  one_bucket_lem t a b n i j =
      elim (dec_lt a b) [
        | yes h ↦ absurd (kept_apart s current other entries t a b n h i j)
        | no h ↦ elim (dec_lt b a) [ yes g ↦ absurd (kept_apart s current other entries t b a n g j i) | no g ↦ omega arith ]
      ]

  one_place : (n : ℕ) (p q : Place) → Live s p → Live s q → In n (repaired_at p) → In n (repaired_at q) → p ≡ q
  unfolding repaired_at Live size_of
  one_place n Place.free Place.free l k i j = refl
  one_place n Place.free (Place.bucket t b) l k i j = absurd (kept_not_free s current other entries t b n j i)
  one_place n (Place.bucket t b) Place.free l k i j = absurd (kept_not_free s current other entries t b n i j)
  one_place n (Place.bucket Table.Old a) (Place.bucket Table.New b) l k i j =
      absurd (tables_apart s current other entries a b n l (kept_met s current other entries Table.Old a n i).0 (kept_met s current other entries Table.New b n j).0)
  one_place n (Place.bucket Table.New a) (Place.bucket Table.Old b) l k i j =
      absurd (tables_apart s current other entries b a n k (kept_met s current other entries Table.Old b n j).0 (kept_met s current other entries Table.New a n i).0)
  one_place n (Place.bucket Table.Old a) (Place.bucket Table.Old b) l k i j = ap (Place.bucket Table.Old) (one_bucket_lem Table.Old a b n i j)
  one_place n (Place.bucket Table.New a) (Place.bucket Table.New b) l k i j = ap (Place.bucket Table.New) (one_bucket_lem Table.New a b n i j)

  owner_by : (n : ℕ) → Dec (0 < n) → (b : Bool) → its s current other entries n ≡ b → Place
  owner_by n (yes z) true e = let (t, b, l, i) = kept_place s current other entries n z e in Place.bucket t b
  owner_by n (yes z) false e = Place.free
  owner_by n (no z) b e = Place.free

  owner : ℕ → Place
  owner n = owner_by n (dec_lt 0 n) (its s current other entries n) refl

  owned : (n : ℕ) → 0 < n → n ≤ s.capacity → Live s (owner n) × In n (repaired_at (owner n))
  unfolding owner owner_by repaired_at Live
  owned n z l = by (dec_lt 0 n) (its s current other entries n) refl
    where
      by : (d : Dec (0 < n)) (b : Bool) (e : its s current other entries n ≡ b) → Live s (owner_by n d b e) × In n (repaired_at (owner_by n d b e))
      by (yes h) true e = let (t, b, k, i) = kept_place s current other entries n h e in (k, i)
      by (yes h) false e = (tt, in_free_lem s current other entries n z l e)
      by (no h) b e = absurd (h z)

-- The store.
module _ (s : State) (current other entries : List ℕ) (ok : sound s current other entries ≡ true) where
  before : Sound s (length current) (length other) (length entries)
  before = sound_facts s current other entries ok

  after : State
  after = repaired_state s current other entries

  current' : List ℕ
  current' = repaired_buckets s current other entries Table.Old

  other' : List ℕ
  other' = repaired_buckets s current other entries Table.New

  entries' : List ℕ
  entries' = repaired_entries s current other entries

  same_size : (t : Table) → size_of after t ≡ size_of s t
  unfolding after repaired_state state_of size_of
  same_size Table.Old = refl
  same_size Table.New = refl

  live_before : (p : Place) → Live after p → Live s p
  unfolding Live
  live_before Place.free l = tt
  live_before (Place.bucket t b) l = omega (arith, same_size t)

  live_after : (p : Place) → Live s p → Live after p
  unfolding Live
  live_after Place.free l = tt
  live_after (Place.bucket t b) l = omega (arith, same_size t)

  length_buckets : (t : Table) → length (repaired_buckets s current other entries t) ≡ length (buckets_of current other t)
  unfolding repaired_buckets
  length_buckets t = length_headed (kept_at s current other entries t) (buckets_of current other t) (size_of s t)

  length_entries : length entries' ≡ length entries
  unfolding entries'
  length_entries = sym (ap length (all_done_lem s current other entries)) ∙ length_done s current other entries

  new_fits : s.new_size ≤ length other
  unfolding size_of old_new
  new_fits = table_fits s (length current) (length other) (length entries) before Table.New

  index_after : (after.rehash_index ≤ s.rehash_index)
      × ((b : ℕ) → b < after.rehash_index → is_filled (kept_at s current other entries Table.Old b) ≡ false)
  unfolding after repaired_state state_of repaired_index
  index_after =
      let h = index_first (λ b. is_filled (kept_at s current other entries Table.Old b)) 0 s.rehash_index in
      let zero_left : 0 + s.rehash_index ≡ s.rehash_index = omega arith in
      let k = rw zero_left at h in
      (k.0, λ b l. k.1 b (omega arith) l)

  index_old : s.rehash_index ≤ s.old_size
  index_old = index_within s (length current) (length other) (length entries) before

  old_head : (b : ℕ) → b < s.old_size → get_or current' b 0 ≡ first_or0 (kept_at s current other entries Table.Old b)
  unfolding current' repaired_buckets buckets_of size_of
  old_head b l = head_headed (kept_at s current other entries Table.Old) current s.old_size b before.old_fits l

  new_head : (b : ℕ) → b < s.new_size → get_or other' b 0 ≡ first_or0 (kept_at s current other entries Table.New b)
  unfolding other' repaired_buckets buckets_of size_of
  new_head b l = head_headed (kept_at s current other entries Table.New) other s.new_size b new_fits l

  same_capacity : after.capacity ≡ s.capacity
  unfolding after repaired_state state_of
  same_capacity = refl

  same_iterators : after.safe_iterators ≡ s.safe_iterators
  unfolding after repaired_state state_of
  same_iterators = refl

  same_flag : after.rehashing ≡ s.rehashing
  unfolding after repaired_state state_of
  same_flag = refl

  same_old : after.old_size ≡ s.old_size
  unfolding size_of
  same_old = same_size Table.Old

  same_new : after.new_size ≡ s.new_size
  unfolding size_of
  same_new = same_size Table.New

  old_long : length current' ≡ length current
  unfolding current' buckets_of
  old_long = length_buckets Table.Old

  new_long : length other' ≡ length other
  unfolding other' buckets_of
  new_long = length_buckets Table.New

  free_head : after.free_head ≡ first_or0 (freed_list s current other entries)
  unfolding after repaired_state state_of
  free_head = refl

  linked_after : (p : Place) → Live after p
      → Linked entries' s.capacity (head_at after current' other' p) (repaired_at s current other entries p)
  unfolding head_at repaired_at buckets_of kept free entries' Live size_of
  linked_after Place.free l =
      subst (λ (at : ℕ). Linked entries' s.capacity at (freed_list s current other entries)) (sym free_head)
      (subst (λ (e : List ℕ). Linked e s.capacity (first_or0 (freed_list s current other entries)) (freed_list s current other entries)) (all_done_lem s current other entries)
      (free_linked s current other entries before.entries_fit))
  linked_after (Place.bucket Table.Old b) l =
      let k : b < s.old_size = live_before (Place.bucket Table.Old b) l in
      subst (λ (at : ℕ). Linked entries' s.capacity at (kept_at s current other entries Table.Old b)) (sym (old_head b k))
      (subst (λ (e : List ℕ). Linked e s.capacity (first_or0 (kept_at s current other entries Table.Old b)) (kept_at s current other entries Table.Old b)) (all_done_lem s current other entries)
      (old_linked s current other entries before.entries_fit b k))
  linked_after (Place.bucket Table.New b) l =
      let k : b < s.new_size = live_before (Place.bucket Table.New b) l in
      subst (λ (at : ℕ). Linked entries' s.capacity at (kept_at s current other entries Table.New b)) (sym (new_head b k))
      (subst (λ (e : List ℕ). Linked e s.capacity (first_or0 (kept_at s current other entries Table.New b)) (kept_at s current other entries Table.New b)) (all_done_lem s current other entries)
      (new_linked s current other entries before.entries_fit b k))

  range : (n : ℕ) (p : Place) → Live after p → In n (repaired_at s current other entries p) → (0 < n) × (n ≤ s.capacity)
  range n p l i = linked_in_range entries' s.capacity _ n (repaired_at s current other entries p) (linked_after p l) i

  -- keys and values of entries that are kept

  key_after : (t : Table) (b n : ℕ) → In n (kept_at s current other entries t b) → key_of entries' n ≡ key_of entries n
  unfolding entries' kept
  key_after t b n i =
      subst (λ (e : List ℕ). key_of e n ≡ key_of entries n) (all_done_lem s current other entries)
      (key_done s current other entries n (λ j. kept_not_free s current other entries t b n i j))

  value_after : (t : Table) (b n : ℕ) → In n (kept_at s current other entries t b) → value_of entries' n ≡ value_of entries n
  unfolding entries' kept
  value_after t b n i =
      subst (λ (e : List ℕ). value_of e n ≡ value_of entries n) (all_done_lem s current other entries)
      (value_done s current other entries n (λ j. kept_not_free s current other entries t b n i j))

  home_after : (n : ℕ) (p : Place) → Live after p → In n (repaired_at s current other entries p) → Home after (key_of entries' n) p
  unfolding Home repaired_at kept in_bucket
  home_after n Place.free l i = tt
  home_after n (Place.bucket t b) l i = by (kept_met s current other entries t b n i).0
    where
      in_bucket_lem : (size b key : ℕ) → in_bucket size b key ≡ true → bucket_of key size ≡ b
      in_bucket_lem size b key e = eqb-true (bucket_of key size) b e

      by : In n (met s current other entries t b) → bucket_of (key_of entries' n) (size_of after t) ≡ b
      by j =
          rw (key_after t b n i, same_size t)
          (in_bucket_lem (size_of s t) b (key_of entries n) (met_facts s current other entries t b n j).2)

  distinct_after : (n m : ℕ) (p q : Place) → Live after p → Live after q → IsBucket p → IsBucket q
      → In n (repaired_at s current other entries p) → In m (repaired_at s current other entries q)
      → key_of entries' n ≡ key_of entries' m → n ≡ m
  unfolding repaired_at IsBucket kept
  distinct_after n m Place.free q l k a b i j e = absurd a
  distinct_after n m (Place.bucket t c) Place.free l k a b i j e = absurd b
  distinct_after n m (Place.bucket t c) (Place.bucket u d) l k a b i j e =
      kept_one s current other entries n m (kept_met s current other entries t c n i).1 (kept_met s current other entries u d m j).1
      (sym (key_after t c n i) ∙ e ∙ key_after u d m j)

  passed_after : (b : ℕ) → b < after.rehash_index → get_or current' b 0 ≡ 0
  passed_after b l =
      old_head b (omega (arith, index_after.0, index_old)) ∙ not_filled (kept_at s current other entries Table.Old b) (index_after.1 b l)

  counts_after : (t : Table) → used_of after t ≡ sum (λ b. length (repaired_at s current other entries (Place.bucket t b))) (size_of after t)
  unfolding after repaired_state state_of used_of size_of repaired_at kept
  counts_after Table.Old = refl
  counts_after Table.New = refl

  count_after : length (freed_list s current other entries) + (after.old_used + after.new_used) ≡ s.capacity
  unfolding after repaired_state state_of size_of kept free
  count_after = all_length s current other entries

  free_count_after : length (repaired_at s current other entries Place.free) + (after.old_used + after.new_used) ≡ after.capacity
  unfolding repaired_at free
  free_count_after = count_after ∙ sym same_capacity

  no_keys_after : s.new_size ≡ 0 → after.new_used ≡ 0
  unfolding after repaired_state state_of size_of sum
  no_keys_after e =
      ap (sum (λ b. length (kept_at s current other entries Table.New b))) e

  sound_after : sound_state (length current') (length other') (length entries') after ≡ true
  unfolding Live head_at repaired_at after
  sound_after =
      sound_again after current' other' entries' before same_capacity length_entries
      (subst (λ (n : ℕ). legal_size n ≡ true) (sym same_old) before.old_legal)
      (omega (arith, same_old, old_long, before.old_fits))
      (omega (arith, count_after))
      (linked_head entries' s.capacity after.free_head _ (linked_after Place.free (live_after Place.free tt)))
      (omega (arith, same_iterators, before.iterators_fit))
      (λ e.
      let r = before.rehashing (sym same_flag ∙ e) in
      record {
        new_legal = subst (λ (n : ℕ). legal_size n ≡ true) (sym same_new) r.new_legal;
        new_fits = omega (arith, same_new, new_long, r.new_fits);
        sizes_differ = λ f. r.sizes_differ (sym same_old ∙ f ∙ same_new);
        index_fits = omega (arith, same_old, index_after.0, r.index_fits);
      })
      (λ e.
      let r = before.resting (sym same_flag ∙ e) in
      record {
        no_size = same_new ∙ r.no_size;
        no_keys = no_keys_after r.no_size;
        no_index = omega (arith, index_after.0, r.no_index);
      })

  repaired_shape : Shape after current' other' entries'
  unfolding Live
  repaired_shape =
      record {
        state_sound = sound_after;
        at = repaired_at s current other entries;
        linked = λ p l. subst (λ (n : ℕ). Linked entries' n (head_at after current' other' p) (repaired_at s current other entries p)) (sym same_capacity) (linked_after p l);
        owner = owner s current other entries;
        owned =
            λ n z l.
            let (k, i) = owned s current other entries n z (subst (λ (m : ℕ). n ≤ m) same_capacity l) in
            (live_after (owner s current other entries n) k, i);
        owns =
            λ n p l i.
            let (z, k) = range n p l i in
            let (live, j) = owned s current other entries n z k in
            one_place s current other entries n (owner s current other entries n) p live (live_before p l) j i;
        home = home_after;
        keys_distinct = distinct_after;
        passed_empty = passed_after;
        counts = counts_after;
        free_count = free_count_after;
      }

  -- the check accepts it
  pub repaired_undamaged : Undamaged (repaired_state s current other entries) (repaired_buckets s current other entries Table.Old)
      (repaired_buckets s current other entries Table.New) (repaired_entries s current other entries)
  unfolding after current' other' entries'
  repaired_undamaged = shape_undamaged repaired_shape

  -- what is read there are the entries kept
  pub repaired_entries_lem : (t : Table) (b : ℕ) → b < size_of s t
      → entries_at (repaired_state s current other entries) (repaired_buckets s current other entries Table.Old)
      (repaired_buckets s current other entries Table.New) (repaired_entries s current other entries) (Place.bucket t b)
      ≡ kept_at s current other entries t b
  unfolding after current' other' entries' repaired_shape repaired_at kept Live
  repaired_entries_lem t b l = entries_at_lem repaired_shape (Place.bucket t b) (live_after (Place.bucket t b) l)

  -- with their keys and values
  pub repaired_key : (t : Table) (b n : ℕ) → In n (kept_at s current other entries t b)
      → key_of (repaired_entries s current other entries) n ≡ key_of entries n
  unfolding entries'
  repaired_key t b n i = key_after t b n i

  pub repaired_value : (t : Table) (b n : ℕ) → In n (kept_at s current other entries t b)
      → value_of (repaired_entries s current other entries) n ≡ value_of entries n
  unfolding entries'
  repaired_value t b n i = value_after t b n i

  -- the free list there, its keys and values zeroed

  pub repaired_free : entries_at (repaired_state s current other entries) (repaired_buckets s current other entries Table.Old)
      (repaired_buckets s current other entries Table.New) (repaired_entries s current other entries) Place.free
      ≡ freed_list s current other entries
  unfolding after current' other' entries' repaired_shape repaired_at free Live
  repaired_free = entries_at_lem repaired_shape Place.free tt

  done_fits : s.capacity * 3 ≤ length (both_done s current other entries)
  unfolding both_done old_done
  done_fits =
      omega (
        arith,
        length_chained_all (kept s current other entries Table.New) (old_done s current other entries) s.new_size,
        length_chained_all (kept s current other entries Table.Old) entries s.old_size,
        before.entries_fit,
      )

  pub freed_key : (n : ℕ) → In n (freed_list s current other entries) → key_of (repaired_entries s current other entries) n ≡ 0
  unfolding all_done free
  freed_key n i =
      subst (λ (e : List ℕ). key_of e n ≡ 0) (all_done_lem s current other entries)
      (key_zeroed (both_done s current other entries) s.capacity done_fits (freed_list s current other entries) n
      (λ m j. let (z, l, e) = free_not s current other entries m j in (z, l)) i)

  pub freed_value : (n : ℕ) → In n (freed_list s current other entries) → value_of (repaired_entries s current other entries) n ≡ 0
  unfolding all_done free
  freed_value n i =
      subst (λ (e : List ℕ). value_of e n ≡ 0) (all_done_lem s current other entries)
      (value_zeroed (both_done s current other entries) s.capacity done_fits (freed_list s current other entries) n
      (λ m j. let (z, l, e) = free_not s current other entries m j in (z, l)) i)

  pub repaired_index_lem : (b : ℕ) → b < (repaired_state s current other entries).rehash_index
      → is_filled (kept_at s current other entries Table.Old b) ≡ false
  unfolding after
  repaired_index_lem b l = index_after.1 b l

  -- the index stays, or drops to a filled bucket

  pub index_kept : (repaired_state s current other entries).rehash_index ≤ s.rehash_index
  unfolding after
  index_kept = index_after.0

  pub index_dropped : (repaired_state s current other entries).rehash_index < s.rehash_index
      → get_or (repaired_buckets s current other entries Table.Old) (repaired_state s current other entries).rehash_index 0 ≡ 0 → ⊥
  unfolding after current' repaired_state state_of repaired_index is_filled first_or0 kept
  index_dropped l e =
      let zero_left : 0 + s.rehash_index ≡ s.rehash_index = omega arith in
      let filled =
      rw zero_left at (index_drops (λ b. is_filled (kept_at s current other entries Table.Old b)) 0 s.rehash_index) in
      some_head (kept_at s current other entries Table.Old after.rehash_index) (filled l)
      (λ n i. (kept_range s current other entries Table.Old after.rehash_index n i).0)
      (sym (old_head after.rehash_index (omega (arith, index_old))) ∙ e)
    where
      some_head : (ns : List ℕ) → is_filled ns ≡ true → ((n : ℕ) → In n ns → 0 < n) → first_or0 ns ≡ 0 → ⊥
      some_head ns t pos z = true_not_false (sym t ∙ by ns pos z)
        where
          by : (ns : List ℕ) → ((n : ℕ) → In n ns → 0 < n) → first_or0 ns ≡ 0 → is_filled ns ≡ false
          by [] pos z = refl
          by (n ∷ ns) pos z = absurd (omega (arith, pos n (inl refl)))
