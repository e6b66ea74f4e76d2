-- The passes together leave what the definition says.
-- Assumes nothing.
use Prim.Native.Nat.{ℕ, zero, suc, ◌+◌, ◌*◌, ◌≤◌, ◌<◌}
use mathlib.Core.Path.{◌≡◌, refl, sym, ap, ◌∙◌}
use mathlib.Core.Logic.{inl}
use mathlib.Core.Bool.{Bool, true, false, not}
use mathlib.Core.List.{List, [], ◌∷◌}
use mathlib.Core.Option.{Option, some}
use native.Mathlib.Decide.{dec_lt}
use native.Mathlib.Omega.{arith}
use lib.ListN.{length, get_or, replicate, length-replicate, get_or-replicate}
use lib.Seq.{ext_get_or}
use lib.Dec.{eqb}
use borrow.Author.Tests.{ne_eqb, eqb-true}
use Rattle.cursor.specs.Member.{In, any, among}
use Rattle.model.specs.declared.State.{State}
use Rattle.model.specs.declared.Table.{Table}
use Rattle.model.specs.Memory.{key_of, in_bucket, size_of, buckets_of, listed, sum}
use Rattle.model.specs.Calls.{old_new}
use Rattle.model.specs.Iterators.{first_from}
use Rattle.model.proofs.Soundness.{Sound, table_fits, index_within}
use Rattle.model.proofs.Linked.{Linked, linked_kept, read_complete}
use Rattle.memory.specs.Length.{bucket_chain}
use Rattle.model.proofs.Sums.{sum_same}
use Rattle.model.specs.Repair.{met_before, met_at, met_all, is_kept, kept_at, freed_list, first_or0, chained_all, headed, is_filled, or_else, repaired_buckets, repaired_entries, repaired_index}
use Rattle.model.proofs.Followed.{here_in}
use Rattle.model.proofs.Relinked.{length_chained_all, link_chained_all, length_headed, head_headed}
use Rattle.model.proofs.Kept.{first_met_in, met, its, kept, free, met_facts, met_distinct, met_apart, tables_apart, kept_met, kept_range, kept_place, in_free_lem, free_not, all_length, kept_distinct, kept_not_free, key_done, length_done, all_done_lem, old_linked, new_linked}
use Rattle.repair_passes.specs.Passes.{Work, buckets_in, entries_in, marks_in, mark_of, cut_up_to, finds_first, decided, Chained, pruned_up_to, head_down, entries_down, lengths, first_filled}
use Rattle.repair_passes.proofs.ByMarks.{Marks}
use Rattle.repair_passes.proofs.Agreeing.{agree_self, agree_key, agree_chained_all, agree_freed, agree_all}
use Rattle.repair_passes.proofs.CutChains.{UpTo, CutTo, cut_all}
use Rattle.repair_passes.proofs.Firsts.{short_enough, finds_kept}
use Rattle.repair_passes.proofs.PruneChains as PruneChains
use Rattle.repair_passes.proofs.PruneChains.{head_beyond, KeptMarks, decided_marks, pruned_all, freed_head, freed_entries}

-- heads set, whatever they were
headed_same : (f : ℕ → List ℕ) (e e' : List ℕ) (n : ℕ) → length e ≡ length e' → n ≤ length e
    → ((i : ℕ) → n ≤ i → get_or e i 0 ≡ get_or e' i 0) → headed f e n ≡ headed f e' n
headed_same f e e' n long l same =
    ext_get_or 0 (headed f e n) (headed f e' n) (length_headed f e n ∙ long ∙ sym (length_headed f e' n))
    (λ i k.
    elim (dec_lt i n) [
      | yes j ↦ head_headed f e n i l j ∙ sym (head_headed f e' n i (omega arith) j)
      | no j ↦ head_beyond f e n i (omega arith) ∙ same i (omega arith) ∙ sym (head_beyond f e' n i (omega arith))
    ])

first_same : (f g : ℕ → Bool) (n left : ℕ) → ((b : ℕ) → b < n + left → f b ≡ g b) → first_from f n left ≡ first_from g n left
unfolding first_from
first_same f g n zero h = refl
first_same f g n (suc left) h = rw (h n (omega arith), first_same f g (suc n) left (λ b l. h b (omega arith)))

filled_head : (ns : List ℕ) → ((n : ℕ) → In n ns → 0 < n) → not (eqb (first_or0 ns) 0) ≡ is_filled ns
unfolding first_or0 is_filled
filled_head [] p = refl
filled_head (n ∷ ns) p = let z = p n (inl refl) in rw (ne_eqb n 0 (λ e. omega arith))

module _ (s : State) (current other entries : List ℕ) (facts : Sound s (length current) (length other) (length entries)) (room : ℕ)
    (big : s.capacity ≤ room) where
  fits : (t : Table) → size_of s t ≤ length (buckets_of current other t)
  unfolding buckets_of old_new
  fits Table.Old = table_fits s (length current) (length other) (length entries) facts Table.Old
  fits Table.New = table_fits s (length current) (length other) (length entries) facts Table.New

  no_marks : Marks s.capacity (replicate room 0) []
  unfolding mark_of among any
  no_marks zero z l = absurd (omega arith)
  no_marks (suc n) z l = rw (get_or-replicate {A = ℕ} room n 0 0 (omega arith))

  -- The first pass: over the old table, and then over the new one.

  unfoldable pub old_work : Work
  old_work = cut_up_to s.capacity s.old_size s.old_size (Work.work current entries (replicate room 0))

  -- what it starts from in a table
  unfoldable pub entries_for : Table → List ℕ
  entries_for Table.Old = entries
  entries_for Table.New = entries_in old_work

  unfoldable pub marks_for : Table → List ℕ
  marks_for Table.Old = replicate room 0
  marks_for Table.New = marks_in old_work

  unfoldable pub work_of : Table → Work
  work_of t = cut_up_to s.capacity (size_of s t) (size_of s t) (Work.work (buckets_of current other t) (entries_for t) (marks_for t))

  abbrev CutFor : Table → Type 0
  CutFor t =
      CutTo entries s.capacity (buckets_of current other t) (size_of s t) (met_before s current entries t) (entries_for t) (size_of s t) (work_of t)

  old_cut : CutFor Table.Old
  unfolding work_of entries_for marks_for met_before
  old_cut =
      cut_all entries s.capacity (buckets_of current other Table.Old) (size_of s Table.Old) [] entries facts.entries_fit
      (fits Table.Old) (λ n f. refl) (replicate room 0) (omega (arith, length-replicate {A = ℕ} room 0)) no_marks
      (agree_self (UpTo s.capacity) entries)

  cut_for : (t : Table) → CutFor t
  unfolding work_of entries_for marks_for old_work met_before size_of buckets_of
  cut_for Table.Old = old_cut
  cut_for Table.New =
      cut_all entries s.capacity other s.new_size (met_before s current entries Table.New) (entries_in old_work) facts.entries_fit
      (fits Table.New)
      (λ n f. old_cut.links n (λ a k i. f (here_in entries s.capacity current s.old_size [] a s.old_size n k i)))
      (marks_in old_work) old_cut.marks_long old_cut.marks old_cut.agree

  -- what it leaves

  unfoldable pub heads : Table → List ℕ
  heads t = buckets_in (work_of t)

  unfoldable pub cut_entries : List ℕ
  cut_entries = entries_in (work_of Table.New)

  same_keys : (n : ℕ) → key_of cut_entries n ≡ key_of entries n
  unfolding cut_entries
  same_keys n = agree_key (cut_for Table.New).agree n

  cut_linked : (t : Table) (b : ℕ) → b < size_of s t
      → Linked cut_entries s.capacity (get_or (heads t) b 0) (met_at s current other entries t b)
  unfolding cut_entries heads met_at met entries_for marks_for old_work work_of met_before size_of buckets_of
  cut_linked Table.Old b l =
      rw ((cut_for Table.Old).heads b l)
      (linked_kept (entries_in (work_of Table.Old)) (entries_in (work_of Table.New)) s.capacity _ _
      (λ n i. (cut_for Table.New).links n (λ a k j. tables_apart s current other entries b a n l i j))
      ((cut_for Table.Old).linked b l))
  cut_linked Table.New b l = rw ((cut_for Table.New).heads b l) ((cut_for Table.New).linked b l)

  -- The second: the marks are those of the entries kept.

  unfoldable pub marks : List ℕ
  marks = decided (finds_first s (heads Table.Old) (heads Table.New) cut_entries) (marks_in (work_of Table.New)) s.capacity

  kept_marks : KeptMarks s.capacity marks (is_kept s current other entries)
  unfolding marks met_all buckets_of size_of is_kept
  kept_marks =
      decided_marks (finds_first s (heads Table.Old) (heads Table.New) cut_entries) (is_kept s current other entries)
      (marks_in (work_of Table.New)) (met_all s current other entries) s.capacity (cut_for Table.New).marks_long (cut_for Table.New).marks
      (finds_kept s current other entries heads cut_entries facts same_keys cut_linked)
      (λ n z e. first_met_in entries (key_of entries n) (met_all s current other entries) n z (eqb-true _ n e))

  -- The third: over the old table, and then over the new one.

  abbrev pub kept_in : Table → ℕ → List ℕ
  kept_in = kept_at s current other entries

  unfoldable pub links_for : Table → List ℕ
  links_for Table.Old = cut_entries
  links_for Table.New = chained_all (kept_in Table.Old) cut_entries (size_of s Table.Old)

  unfoldable pub links_after : Table → List ℕ
  links_after t = chained_all (kept_in t) (links_for t) (size_of s t)

  met_short : (t : Table) (b : ℕ) → length (met_at s current other entries t b) ≤ s.capacity
  unfolding met
  met_short t b =
      short_enough s.capacity (met_at s current other entries t b) (met_distinct s current other entries t b)
      (λ n i. let (z, l, p) = met_facts s current other entries t b n i in (z, l))

  still_linked : (t : Table) (b : ℕ) → b < size_of s t
      → Linked (links_for t) s.capacity (get_or (heads t) b 0) (met_at s current other entries t b)
  unfolding links_for kept met size_of
  still_linked Table.Old b l = cut_linked Table.Old b l
  still_linked Table.New b l =
      linked_kept cut_entries (chained_all (kept_in Table.Old) cut_entries s.old_size) s.capacity (get_or (heads Table.New) b 0)
      (met_at s current other entries Table.New b)
      (λ n i.
      link_chained_all (kept_in Table.Old) cut_entries s.old_size n
      (λ a k j. tables_apart s current other entries a b n k (kept_met s current other entries Table.Old a n j).0 i))
      (cut_linked Table.New b l)

  pub prune_table : (t : Table)
      → pruned_up_to marks s.capacity (size_of s t) (Chained.chains (heads t) (links_for t))
      ≡ Chained.chains (repaired_buckets s current other entries t) (links_after t)
  unfolding links_after kept_at met PruneChains.kept repaired_buckets heads
  prune_table t =
      pruned_all marks s.capacity (is_kept s current other entries) kept_marks (met_at s current other entries t) (heads t) (links_for t)
      (size_of s t) (met_distinct s current other entries t) (met_short t) (met_apart s current other entries t) (still_linked t) (size_of s t)
      (omega arith)
      ∙ ap (λ (hs : List ℕ). Chained.chains hs (links_after t)) (same_heads t)
    where
      same_heads : (t : Table) → headed (kept_in t) (heads t) (size_of s t) ≡ headed (kept_in t) (buckets_of current other t) (size_of s t)
      same_heads t =
          headed_same (kept_in t) (heads t) (buckets_of current other t) (size_of s t) (cut_for t).long
          (let l = (cut_for t).long in omega (arith, fits t)) (cut_for t).others

  -- The fourth.

  pub free_head : head_down marks s.capacity 0 ≡ first_or0 (freed_list s current other entries)
  unfolding freed_list
  free_head = freed_head marks s.capacity (is_kept s current other entries) kept_marks

  pub free_entries_lem : entries_down marks s.capacity 0 (links_after Table.New) ≡ repaired_entries s current other entries
  unfolding repaired_entries links_after links_for freed_list kept free its size_of cut_entries
  free_entries_lem =
      freed_entries marks s.capacity (is_kept s current other entries) kept_marks (links_after Table.New)
      ∙ agree_all _ _ _ none
      (agree_freed s.capacity _ _ _ (freed_list s current other entries)
      (agree_chained_all s.capacity _ (kept_in Table.New) _ _
      (agree_chained_all s.capacity (UpTo s.capacity) (kept_in Table.Old) cut_entries entries (cut_for Table.New).agree cut_long
      (kept_range s current other entries Table.Old) s.old_size)
      old_long (kept_range s current other entries Table.New) s.new_size)
      new_long (λ n i. let (z, l, e) = free_not s current other entries n i in (z, l)))
    where
      cut_long : s.capacity * 3 ≤ length cut_entries
      cut_long = let l = (cut_for Table.New).agree.long in omega (arith, facts.entries_fit)

      old_long : s.capacity * 3 ≤ length (links_for Table.New)
      old_long = omega (arith, cut_long, length_chained_all (kept_in Table.Old) cut_entries s.old_size)

      new_long : s.capacity * 3 ≤ length (links_after Table.New)
      new_long = omega (arith, old_long, length_chained_all (kept_in Table.New) (links_for Table.New) s.new_size)

      none : (n : ℕ) → 0 < n
          → ((UpTo s.capacity n × ((a : ℕ) → a < s.old_size → In n (kept_in Table.Old a) → ⊥))
          × ((a : ℕ) → a < s.new_size → In n (kept_in Table.New a) → ⊥))
          × (In n (freed_list s current other entries) → ⊥)
          → ⊥
      none n z (((l, f), g), h) = by (is_kept s current other entries n) refl
        where
          place : (t : Table) (b : ℕ) → b < size_of s t → In n (kept_in t b) → ⊥
          place Table.Old b k i = f b k i
          place Table.New b k i = g b k i

          by : (t : Bool) → is_kept s current other entries n ≡ t → ⊥
          by true e = let (t, b, k, i) = kept_place s current other entries n z e in place t b k i
          by false e = h (in_free_lem s current other entries n z l e)

  -- The counts and the index: the chains that are left are the lists kept.

  pub few : (t : Table) → sum (λ b. length (kept_in t b)) (size_of s t) ≤ s.capacity
  unfolding kept free size_of
  few Table.Old = omega (arith, all_length s current other entries)
  few Table.New = omega (arith, all_length s current other entries)

  head_kept : (t : Table) (b : ℕ) → b < size_of s t → get_or (repaired_buckets s current other entries t) b 0 ≡ first_or0 (kept_in t b)
  unfolding repaired_buckets
  head_kept t b l = head_headed (kept_in t) (buckets_of current other t) (size_of s t) b (fits t) l

  kept_linked : (t : Table) (b : ℕ) → b < size_of s t
      → Linked (repaired_entries s current other entries) s.capacity (first_or0 (kept_in t b)) (kept_in t b)
  unfolding kept size_of
  kept_linked Table.Old b l = rw (← all_done_lem s current other entries) (old_linked s current other entries facts.entries_fit b l)
  kept_linked Table.New b l = rw (← all_done_lem s current other entries) (new_linked s current other entries facts.entries_fit b l)

  kept_passes : (t : Table) (b n : ℕ) → In n (kept_in t b)
      → in_bucket (size_of s t) b (key_of (repaired_entries s current other entries) n) ≡ true
  unfolding kept
  kept_passes t b n i =
      rw (← all_done_lem s current other entries, key_done s current other entries n (kept_not_free s current other entries t b n i))
      (met_facts s current other entries t b n (kept_met s current other entries t b n i).0).2

  read_kept : (t : Table) (b : ℕ) → b < size_of s t
      → bucket_chain (size_of s t) (repaired_entries s current other entries) s.capacity s.capacity
      (repaired_buckets s current other entries t) b
      ≡ some (kept_in t b)
  unfolding kept
  read_kept t b l =
      read_complete (in_bucket (size_of s t) b) (repaired_entries s current other entries) s.capacity s.capacity _ (kept_in t b)
      (rw (head_kept t b l) (kept_linked t b l)) (kept_passes t b)
      (short_enough s.capacity (kept_in t b) (kept_distinct s current other entries t b) (kept_range s current other entries t b))

  pub kept_count : (t : Table)
      → lengths (repaired_buckets s current other entries t) (repaired_entries s current other entries) s.capacity (size_of s t) (size_of s t)
      ≡ sum (λ b. length (kept_in t b)) (size_of s t)
  unfolding lengths listed
  kept_count t =
      sum_same
      (λ b.
      length
      (listed
      (bucket_chain (size_of s t) (repaired_entries s current other entries) s.capacity s.capacity
      (repaired_buckets s current other entries t) b)))
      (λ b. length (kept_in t b)) (size_of s t) (λ b l. ap (λ (o : Option (List ℕ)). length (listed o)) (read_kept t b l))

  pub same_index : first_filled (repaired_buckets s current other entries Table.Old) s.rehash_index
      ≡ repaired_index (kept_in Table.Old) s.rehash_index
  unfolding first_filled repaired_index kept size_of
  same_index =
      ap (or_else s.rehash_index)
      (first_same (λ b. not (eqb (get_or (repaired_buckets s current other entries Table.Old) b 0) 0)) (λ b. is_filled (kept_in Table.Old b)) 0
      s.rehash_index
      (λ b l.
      rw (head_kept Table.Old b (omega (arith, index_within s (length current) (length other) (length entries) facts)))
      (filled_head (kept_in Table.Old b) (λ n i. (kept_range s current other entries Table.Old b n i).0))))

  -- The lengths stay.

  pub buckets_room : (t : Table) → size_of s t ≤ length (repaired_buckets s current other entries t)
  unfolding repaired_buckets
  buckets_room t = omega (arith, length_headed (kept_in t) (buckets_of current other t) (size_of s t), fits t)

  pub entries_room : s.capacity * 3 ≤ length (repaired_entries s current other entries)
  entries_room =
      omega (arith, facts.entries_fit, length_done s current other entries, ap length (all_done_lem s current other entries))
