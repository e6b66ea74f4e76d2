-- The stages of a repair from the passes, and the repair from the stages.
-- Assumes nothing.
use Prim.Native.Nat.{ℕ, zero, suc, ◌≤◌}
use mathlib.Core.Path.{◌≡◌, refl, sym, ap, subst, ◌∙◌}
use mathlib.Core.List.{List, [], ◌∷◌}
use native.Mathlib.Omega.{arith}
use lib.ListN.{length, get_or, replicate, length-set}
use Rattle.model.specs.declared.State.{State}
use Rattle.model.specs.declared.Table.{Table}
use Rattle.model.specs.Limits.{largest_capacity}
use Rattle.model.specs.Memory.{size_of, buckets_of, last_or}
use Rattle.model.specs.Calls.{After, state_of, old_new}
use Rattle.model.proofs.Soundness.{Sound, table_legal, table_fits, index_within}
use Rattle.model.specs.Repair.{first_or0, freed_list, repaired_state, repaired_buckets, repaired_entries, repaired}
use Rattle.model.proofs.Fields.{length_set_link}
use Rattle.repair_passes.specs.Passes.{Tabled, Work, met_by_marks, cut, cut_one, buckets_in, entries_in, marks_in, cut_up_to, finds_first, decided, Chained, heads_of, links_of, pruned_up_to, head_down, entries_down, lengths, Countable, first_filled, Buffers, cut_and_marked, rebuilt, recounted, repaired_store}
use Rattle.repair_passes.proofs.Marking.{length_mark_all}
use Rattle.repair_passes.proofs.PruneChains.{length_decided}
use Rattle.repair_passes.proofs.Passed as passed
use Rattle.std.specs.Prelude.{Ok}

-- what a sound state says of the tables

module _ (s : State) (current other entries : ℕ) (h : Sound s current other entries) (marks : ℕ) (m : s.capacity ≤ marks) where
  tabled : (t : Table) → Tabled s.capacity (size_of s t) (old_new current other t) entries marks
  tabled t =
      record {
        legal = table_legal s current other entries h t;
        buckets_fit = table_fits s current other entries h t;
        entries_fit = h.entries_fit;
        marks_fit = m;
      }

  pub old_tabled : Tabled s.capacity s.old_size current entries marks
  unfolding size_of old_new
  old_tabled = tabled Table.Old

  pub new_tabled : Tabled s.capacity s.new_size other entries marks
  unfolding size_of old_new
  new_tabled = tabled Table.New

pub new_room : (s : State) (current other entries : ℕ) → Sound s current other entries → s.new_size ≤ other
unfolding size_of old_new
new_room s current other entries h = table_fits s current other entries h Table.New

-- the stages

pub cut_and_marked_by : (s : State) (c o e m c₁ e₁ m₁ o₁ e₂ m₂ m₃ : List ℕ)
    → Work.work c₁ e₁ m₁ ≡ cut_up_to s.capacity s.old_size s.old_size (Work.work c e m)
    → Work.work o₁ e₂ m₂ ≡ cut_up_to s.capacity s.new_size s.new_size (Work.work o e₁ m₁)
    → m₃ ≡ decided (finds_first s c₁ o₁ e₂) m₂ s.capacity
    → Buffers.buffers c₁ o₁ e₂ m₃ ≡ cut_and_marked s c o e m
unfolding cut_and_marked buckets_in entries_in marks_in
cut_and_marked_by s c o e m c₁ e₁ m₁ o₁ e₂ m₂ m₃ a b d = rw (← a, ← b, d)

pub rebuilt_by : (s : State) (m c o e c₁ e₁ o₁ e₂ e₃ : List ℕ) (h : ℕ)
    → Chained.chains c₁ e₁ ≡ pruned_up_to m s.capacity s.old_size (Chained.chains c e)
    → Chained.chains o₁ e₂ ≡ pruned_up_to m s.capacity s.new_size (Chained.chains o e₁)
    → h ≡ head_down m s.capacity 0 → e₃ ≡ entries_down m s.capacity 0 e₂
    → After.after h c₁ o₁ e₃ ≡ rebuilt s m c o e
unfolding rebuilt heads_of links_of
rebuilt_by s m c o e c₁ e₁ o₁ e₂ e₃ h a b d f = rw (← a, ← b, d, f)

pub recounted_by : (s : State) (c o e : List ℕ) (free old new index : ℕ)
    → old ≡ lengths c e s.capacity s.old_size s.old_size
    → new ≡ lengths o e s.capacity s.new_size s.new_size
    → index ≡ first_filled c s.rehash_index
    → state_of s.second_is_current (size_of s) (old_new old new) s.rehashing index free s.capacity s.resize_allowed
    s.safe_iterators
    ≡ recounted s c o e free
unfolding recounted
recounted_by s c o e free old new index a b d = rw (a, b, d)

-- the call's answer
pub answered : (s : State) (c o e c₁ o₁ e₁ : List ℕ) (q : State) → After.after q c₁ o₁ e₁ ≡ repaired_store s c o e
    → After.after (Ok q) c₁ o₁ e₁ ≡ repaired s c o e
unfolding repaired_store repaired
answered s c o e c₁ o₁ e₁ q h = cc

-- all of it

buffers_parts : {c o e m c' o' e' m' : List ℕ} → Buffers.buffers c o e m ≡ Buffers.buffers c' o' e' m'
    → (c ≡ c') × (o ≡ o') × (e ≡ e') × (m ≡ m')
buffers_parts h = (cc, cc, cc, cc)

after_parts : {n n' : ℕ} {c o e c' o' e' : List ℕ} → After.after n c o e ≡ After.after n' c' o' e'
    → (n ≡ n') × (c ≡ c') × (o ≡ o') × (e ≡ e')
after_parts h = (cc, cc, cc, cc)

module _ (s : State) (c o e : List ℕ) (facts : Sound s (length c) (length o) (length e)) (room : ℕ) (big : s.capacity ≤ room)
    (c₁ o₁ e₁ m₁ : List ℕ) (t : Buffers.buffers c₁ o₁ e₁ m₁ ≡ cut_and_marked s c o e (replicate room 0))
    (h : ℕ) (c₂ o₂ e₂ : List ℕ) (r : After.after h c₂ o₂ e₂ ≡ rebuilt s m₁ c₁ o₁ e₁) where
  rebuilt_all : rebuilt s m₁ c₁ o₁ e₁
      ≡ After.after (first_or0 (freed_list s c o e)) (repaired_buckets s c o e Table.Old) (repaired_buckets s c o e Table.New)
      (repaired_entries s c o e)
  unfolding cut_and_marked rebuilt heads_of links_of passed.old_work passed.entries_for passed.marks_for passed.work_of passed.heads
      passed.cut_entries passed.marks passed.links_for passed.links_after size_of buckets_of
  rebuilt_all =
      let (a, b, d, f) = buffers_parts t in
      rw (a, b, d, f)
      (rw (
        passed.prune_table s c o e facts room big Table.Old,
        passed.prune_table s c o e facts room big Table.New,
        passed.free_head s c o e facts room big,
        passed.free_entries_lem s c o e facts room big,
      ))

  parts : (h ≡ first_or0 (freed_list s c o e)) × (c₂ ≡ repaired_buckets s c o e Table.Old)
      × (o₂ ≡ repaired_buckets s c o e Table.New) × (e₂ ≡ repaired_entries s c o e)
  parts = after_parts (r ∙ rebuilt_all)

  -- what counting asks

  its_buckets : (t : Table) → buckets_of c₂ o₂ t ≡ repaired_buckets s c o e t
  unfolding buckets_of
  its_buckets Table.Old = parts.1
  its_buckets Table.New = parts.2

  countable : (t : Table) → Countable (buckets_of c₂ o₂ t) e₂ s.capacity (size_of s t)
  countable t =
      record {
        legal = table_legal s (length c) (length o) (length e) facts t;
        buckets_fit = rw (its_buckets t) (passed.buckets_room s c o e facts room big t);
        entries_fit = rw parts.3 (passed.entries_room s c o e facts room big);
        few = rw (its_buckets t, parts.3) (omega (arith, passed.kept_count s c o e facts room big t, passed.few s c o e facts room big t));
      }

  pub old_countable : Countable c₂ e₂ s.capacity s.old_size
  unfolding buckets_of size_of
  old_countable = countable Table.Old

  pub new_countable : Countable o₂ e₂ s.capacity s.new_size
  unfolding buckets_of size_of
  new_countable = countable Table.New

  pub index_countable : s.rehash_index ≤ length c₂
  unfolding size_of
  index_countable =
      rw parts.1
      (omega (
        arith,
        passed.buckets_room s c o e facts room big Table.Old,
        index_within s (length c) (length o) (length e) facts,
      ))

  pub repaired_by_lem : (q : State) → q ≡ recounted s c₂ o₂ e₂ h → After.after q c₂ o₂ e₂ ≡ repaired_store s c o e
  unfolding repaired_store recounted repaired_state state_of old_new size_of
  repaired_by_lem q k =
      let (p, a, b, d) = parts in
      rw (k, p, a, b, d)
      (rw (
        passed.kept_count s c o e facts room big Table.Old,
        passed.kept_count s c o e facts room big Table.New,
        passed.same_index s c o e facts room big,
      ))

-- Lengths stay.

pub length_cut : (e ns : List ℕ) → length (cut e ns) ≡ length e
unfolding cut
length_cut e [] = refl
length_cut e (n ∷ ns) = length_set_link e (last_or n ns) 0

pub record Lengths (c e m c' e' m' : List ℕ) : Type 0 where
  pub buckets : length c' ≡ length c
  pub entries : length e' ≡ length e
  pub marks : length m' ≡ length m

one_lengths : (capacity size b : ℕ) (w : Work)
    → Lengths (buckets_in w) (entries_in w) (marks_in w) (buckets_in (cut_one capacity size b w)) (entries_in (cut_one capacity size b w))
    (marks_in (cut_one capacity size b w))
unfolding cut_one buckets_in entries_in marks_in
one_lengths capacity size b (Work.work c e m) =
    record {
      buckets = length-set c b _;
      entries = length_cut e (met_by_marks e capacity size b capacity m (get_or c b 0));
      marks = length_mark_all m (met_by_marks e capacity size b capacity m (get_or c b 0));
    }

cut_lengths : (capacity size b : ℕ) (w : Work)
    → Lengths (buckets_in w) (entries_in w) (marks_in w) (buckets_in (cut_up_to capacity size b w)) (entries_in (cut_up_to capacity size b w))
    (marks_in (cut_up_to capacity size b w))
unfolding cut_up_to
cut_lengths capacity size zero w = record { buckets = refl; entries = refl; marks = refl }
cut_lengths capacity size (suc b) w =
    let before = cut_lengths capacity size b w in
    let here = one_lengths capacity size b (cut_up_to capacity size b w) in
    record {
      buckets = here.buckets ∙ before.buckets;
      entries = here.entries ∙ before.entries;
      marks = here.marks ∙ before.marks;
    }

work_lengths : (capacity size : ℕ) (c e m c₁ e₁ m₁ : List ℕ) → Work.work c₁ e₁ m₁ ≡ cut_up_to capacity size size (Work.work c e m)
    → Lengths c e m c₁ e₁ m₁
unfolding buckets_in entries_in marks_in
work_lengths capacity size c e m c₁ e₁ m₁ a =
    subst
    (λ (w : Work).
    Lengths c e m (buckets_in w) (entries_in w) (marks_in w))
    (sym a) (cut_lengths capacity size size (Work.work c e m))

resound : (s : State) (c o e c' o' e' : ℕ) → c' ≡ c → o' ≡ o → e' ≡ e → Sound s c o e → Sound s c' o' e'
resound s c o e c' o' e' a b d h = rw (a, b, d) h

module _ (s : State) (c o e m : List ℕ) (h : Sound s (length c) (length o) (length e)) (f : s.capacity ≤ length m)
    (c₁ e₁ m₁ : List ℕ) (a : Work.work c₁ e₁ m₁ ≡ cut_up_to s.capacity s.old_size s.old_size (Work.work c e m)) where
  pub second_tabled : Tabled s.capacity s.new_size (length o) (length e₁) (length m₁)
  second_tabled =
      let l = work_lengths s.capacity s.old_size c e m c₁ e₁ m₁ a in
      new_tabled s (length c) (length o) (length e₁) (resound s _ _ _ _ _ _ refl refl l.entries h) (length m₁)
      (omega (arith, l.marks))

  module _ (o₁ e₂ m₂ : List ℕ) (b : Work.work o₁ e₂ m₂ ≡ cut_up_to s.capacity s.new_size s.new_size (Work.work o e₁ m₁)) where
    pub cut_sound : Sound s (length c₁) (length o₁) (length e₂)
    cut_sound =
        let l = work_lengths s.capacity s.old_size c e m c₁ e₁ m₁ a in
        let k = work_lengths s.capacity s.new_size o e₁ m₁ o₁ e₂ m₂ b in
        resound s _ _ _ _ _ _ l.buckets k.buckets (k.entries ∙ l.entries) h

    pub cut_marks : s.capacity ≤ length m₂
    cut_marks =
        let l = work_lengths s.capacity s.old_size c e m c₁ e₁ m₁ a in
        let k = work_lengths s.capacity s.new_size o e₁ m₁ o₁ e₂ m₂ b in
        omega (arith, l.marks, k.marks)

-- of the first stage
module _ (s : State) (c o e m : List ℕ) (h : Sound s (length c) (length o) (length e)) (f : s.capacity ≤ length m)
    (c₁ o₁ e₁ m₁ : List ℕ) (t : Buffers.buffers c₁ o₁ e₁ m₁ ≡ cut_and_marked s c o e m) where
  pub marked_sound : Sound s (length c₁) (length o₁) (length e₁)
  unfolding cut_and_marked buckets_in entries_in marks_in
  marked_sound =
      let (a, b, d, g) = buffers_parts t in
      let l = cut_lengths s.capacity s.old_size s.old_size (Work.work c e m) in
      let w = cut_up_to s.capacity s.old_size s.old_size (Work.work c e m) in
      let k = cut_lengths s.capacity s.new_size s.new_size (Work.work o (entries_in w) (marks_in w)) in
      resound s _ _ _ _ _ _ (ap length a ∙ l.buckets) (ap length b ∙ k.buckets) (ap length d ∙ k.entries ∙ l.entries) h

  pub marked_long : s.capacity ≤ length m₁
  unfolding cut_and_marked buckets_in entries_in marks_in
  marked_long =
      let (a, b, d, g) = buffers_parts t in
      let l = cut_lengths s.capacity s.old_size s.old_size (Work.work c e m) in
      let w = cut_up_to s.capacity s.old_size s.old_size (Work.work c e m) in
      let k = cut_lengths s.capacity s.new_size s.new_size (Work.work o (entries_in w) (marks_in w)) in
      let v = cut_up_to s.capacity s.new_size s.new_size (Work.work o (entries_in w) (marks_in w)) in
      omega (
        arith,
        ap length g,
        length_decided (finds_first s (buckets_in w) (buckets_in v) (entries_in v)) (marks_in v) s.capacity,
        k.marks,
        l.marks,
      )

-- there are as many marks as a store can have entries
pub enough_marks : (s : State) (c o e : ℕ) → Sound s c o e → s.capacity ≤ largest_capacity
enough_marks s c o e h = h.capacity_limit
