-- An undamaged store has a shape: the chains as they are read. The free list's length follows, from above by its budget and
-- from below because every entry is on a chain.
-- Assumes nothing.
use Prim.Native.Nat.{ℕ, ◌+◌, ◌<◌, ◌≤◌}
use mathlib.Core.Path.{◌≡◌, sym, ◌∙◌}
use mathlib.Core.List.{List, ◌++◌}
use native.Mathlib.Decide.{dec_le, dec_lt}
use native.Mathlib.Omega.{arith}
use lib.ListN.{length, length-append}
use Rattle.cursor.specs.Member.{In, Distinct}
use Rattle.model.specs.declared.State.{State}
use Rattle.model.specs.declared.Table.{Table}
use Rattle.model.specs.Memory.{Place, Live, size_of, used_of, keys_held, key_of, head_at, budget_at, belongs, chain_at, entries_at, Undamaged}
use Rattle.model.specs.Calls.{sound}
use Rattle.model.proofs.Soundness.{Sound, sound_facts}
use Rattle.model.proofs.Linked.{Linked, read_sound, linked_in_range}
use Rattle.model.proofs.Shared.{in_its_bucket}
use Rattle.model.proofs.Lists.{in_left, in_right, pigeonhole, distinct_fits}
use Rattle.model.proofs.Sums.{gathered, length_gathered, in_gathered}
use Rattle.invariant.proofs.Shape.{Home, IsBucket, Shape}

module _ {s : State} {current other entries : List ℕ} (u : Undamaged s current other entries) where
  -- the chains as they are read
  chained : Place → List ℕ
  chained = entries_at s current other entries

  -- a chain as read is linked, and within its budget
  chained_linked : (p : Place) → Live s p
      → Linked entries s.capacity (head_at s current other p) (chained p) × (length (chained p) ≤ budget_at s p)
  unfolding chained chain_at
  chained_linked p l =
      let (linked, short, passing) =
      read_sound (belongs s p) entries s.capacity (budget_at s p) (head_at s current other p) (entries_at s current other entries p)
      (u.chains_sound p l) in
      (linked, short)

  -- what the sound state says of its counts
  state : Sound s (length current) (length other) (length entries)
  unfolding sound
  state = sound_facts s current other entries u.state_sound

  -- the chains of a table joined, and of both: as many entries as keys held

  table_entries : Table → List ℕ
  table_entries t = gathered (λ b. chained (Place.bucket t b)) (size_of s t)

  table_length : (t : Table) → length (table_entries t) ≡ used_of s t
  unfolding table_entries chained
  table_length t = length_gathered (λ b. chained (Place.bucket t b)) (size_of s t) ∙ sym (u.counts t)

  bucket_entries : List ℕ
  bucket_entries = table_entries Table.Old ++ table_entries Table.New

  buckets_length : length bucket_entries ≡ s.old_used + s.new_used
  unfolding bucket_entries used_of
  buckets_length =
      omega (
        arith,
        length-append (table_entries Table.Old) (table_entries Table.New),
        table_length Table.Old,
        table_length Table.New,
      )

  in_table : (n : ℕ) (t : Table) → In n (table_entries t) → In n bucket_entries
  unfolding bucket_entries
  in_table n Table.Old i = in_left n (table_entries Table.Old) (table_entries Table.New) i
  in_table n Table.New i = in_right n (table_entries Table.Old) (table_entries Table.New) i

  in_buckets : (n : ℕ) (p : Place) → Live s p → IsBucket p → In n (chained p) → In n bucket_entries
  unfolding table_entries Live IsBucket
  in_buckets n Place.free l t i = absurd t
  in_buckets n (Place.bucket t b) l k i =
      in_table n t (in_gathered (λ c. chained (Place.bucket t c)) (size_of s t) b n l i)

  -- different entries of live buckets are no more than the keys held
  pub fits_held : (ns : List ℕ) → Distinct ns
      → ((n : ℕ) → In n ns → (p : Place) × Live s p × IsBucket p × In n (entries_at s current other entries p))
      → length ns ≤ s.old_used + s.new_used
  unfolding chained
  fits_held ns d each =
      omega (
        arith,
        buckets_length,
        distinct_fits ns bucket_entries d (λ n i. let (p, l, b, j) = each n i in in_buckets n p l b j),
      )

  -- an entry of any live place is on the free list or in a bucket
  in_all : (n : ℕ) (p : Place) → Live s p → In n (chained p) → In n (chained Place.free ++ bucket_entries)
  unfolding IsBucket
  in_all n Place.free l i = in_left n (chained Place.free) bucket_entries i
  in_all n (Place.bucket t b) l i = in_right n (chained Place.free) bucket_entries (in_buckets n (Place.bucket t b) l tt i)

  -- the free list is as long as the capacity less the keys held
  free_length_lem : length (chained Place.free) + (s.old_used + s.new_used) ≡ s.capacity
  unfolding budget_at keys_held chained Live
  free_length_lem =
      let all =
      pigeonhole s.capacity (chained Place.free ++ bucket_entries)
      (λ n z k. let (p, l, i) = u.on_a_chain n z k in in_all n p l i) in
      omega (
        arith,
        all,
        length-append (chained Place.free) bucket_entries,
        buckets_length,
        (chained_linked Place.free tt).1,
        state.used_fits,
      )

  -- the place of an entry; for a number that is no entry's, the free list
  owner_by : (n : ℕ) → Dec (0 < n) → Dec (n ≤ s.capacity) → Place
  owner_by n (yes z) (yes k) = (u.on_a_chain n z k).0
  owner_by n (yes z) (no k) = Place.free
  owner_by n (no z) d = Place.free

  owned_by : (n : ℕ) (d : Dec (0 < n)) (e : Dec (n ≤ s.capacity)) → 0 < n → n ≤ s.capacity
      → Live s (owner_by n d e) × In n (chained (owner_by n d e))
  unfolding owner_by chained
  owned_by n (yes z) (yes k) a b = let (p, l, i) = u.on_a_chain n z k in (l, i)
  owned_by n (yes z) (no k) a b = absurd (k b)
  owned_by n (no z) d a b = absurd (z a)

  -- the owner of every number
  owner_of : ℕ → Place
  owner_of n = owner_by n (dec_lt 0 n) (dec_le n s.capacity)

  -- it is live and has the entry
  owner_of_holds : (n : ℕ) → 0 < n → n ≤ s.capacity → Live s (owner_of n) × In n (chained (owner_of n))
  unfolding owner_of
  owner_of_holds n z k = owned_by n (dec_lt 0 n) (dec_le n s.capacity) z k

  -- no other place has it
  owner_of_only : (n : ℕ) (p : Place) → Live s p → In n (chained p) → owner_of n ≡ p
  unfolding chained
  owner_of_only n p l i =
      let (z, k) = linked_in_range entries s.capacity (head_at s current other p) n (chained p) (chained_linked p l).0 i in
      let (live, there) = owner_of_holds n z k in
      u.on_one_chain n (owner_of n) p live l there i

  -- the shape's clauses go by the place

  home_at : (n : ℕ) (p : Place) → Live s p → In n (chained p) → Home s (key_of entries n) p
  unfolding Home Live chained
  home_at n Place.free l i = tt
  home_at n (Place.bucket t b) l i = in_its_bucket s current other entries t b n i

  distinct_at : (n m : ℕ) (p q : Place) → Live s p → Live s q → IsBucket p → IsBucket q → In n (chained p) → In m (chained q)
      → key_of entries n ≡ key_of entries m → n ≡ m
  unfolding IsBucket Live chained
  distinct_at n m Place.free q l k a b i j e = absurd a
  distinct_at n m (Place.bucket t c) Place.free l k a b i j e = absurd b
  distinct_at n m (Place.bucket t c) (Place.bucket u' d) l k a b i j e = u.keys_distinct n m t u' c d l k i j e

  -- an undamaged store has a shape
  pub undamaged_shape : Shape s current other entries
  unfolding chained
  undamaged_shape =
      record {
        state_sound = u.state_sound;
        at = chained;
        linked = λ p l. (chained_linked p l).0;
        owner = owner_of;
        owned = owner_of_holds;
        owns = owner_of_only;
        home = home_at;
        keys_distinct = distinct_at;
        passed_empty = u.passed_empty;
        counts = u.counts;
        free_count = free_length_lem;
      }
