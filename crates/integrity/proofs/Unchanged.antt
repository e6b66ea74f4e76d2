-- Repairing an undamaged store changes no bucket's chain, and no key or value held.
-- Assumes nothing.
use Prim.Native.Nat.{ℕ, zero, suc, ◌<◌, ◌≤◌}
use mathlib.Core.Path.{◌≡◌, refl, sym, ap, subst, ◌∙◌}
use mathlib.Core.Logic.{inl, inr, ⊎_elim}
use mathlib.Core.Bool.{Bool, true, false, cond}
use mathlib.Core.List.{List, [], ◌∷◌}
use native.Mathlib.Omega.{arith}
use lib.ListN.{length, get_or}
use lib.Dec.{eqb}
use borrow.Author.Tests.{eq-eqb, eqb-true, eqb-false}
use Rattle.cursor.specs.Member.{In}
use Rattle.model.specs.declared.State.{State}
use Rattle.model.specs.declared.Table.{Table}
use Rattle.model.specs.Memory.{key_of, value_of, size_of, used_of, buckets_of, in_bucket, Place, Live, belongs, budget_at, head_at, chain_at, entries_at, Undamaged}
use Rattle.model.specs.Calls.{sound}
use Rattle.model.proofs.Soundness.{Sound, sound_facts}
use Rattle.model.proofs.Linked.{read_sound, linked_distinct}
use Rattle.model.proofs.Lists.{keep_all}
use Rattle.model.specs.Repair.{followed_in, met_in, met_before, met_at, met_all, first_met, is_kept, kept_at, repaired_buckets, repaired_entries, repaired_state}
use Rattle.model.proofs.Followed.{followed_whole, of_up_to}
use Rattle.model.proofs.Kept.{in_met_all, of_met_all, met}
use Rattle.integrity.proofs.Repaired.{repaired_entries_lem, repaired_key, repaired_value}

-- where no other entry of a list has its key, an entry is the first with it
only_first : (entries : List ℕ) (n : ℕ) (ns : List ℕ) → In n ns → ((m : ℕ) → In m ns → key_of entries m ≡ key_of entries n → m ≡ n)
    → first_met entries (key_of entries n) ns ≡ n
unfolding first_met
only_first entries n [] i only = elim i [ ]
only_first entries n (m ∷ ns) i only =
    by (eqb (key_of entries m) (key_of entries n)) refl i (λ j. only_first entries n ns j (λ k h e. only k (inr h) e))
  where
    by : (b : Bool) → eqb (key_of entries m) (key_of entries n) ≡ b → In n (m ∷ ns)
        → (In n ns → first_met entries (key_of entries n) ns ≡ n)
        → cond b m (first_met entries (key_of entries n) ns) ≡ n
    by true e j rest = only m (inl refl) (eqb-true (key_of entries m) (key_of entries n) e)
    by false e (inl same) rest = absurd (eqb-false (key_of entries m) (key_of entries n) e (ap (key_of entries) (sym same)))
    by false e (inr j) rest = rest j

-- a table holds no more keys than there are entries
pub few : {s : State} {current other entries : ℕ} → Sound s current other entries → (t : Table) → used_of s t ≤ s.capacity
unfolding used_of
few facts Table.Old = omega (arith, facts.used_fits)
few facts Table.New = omega (arith, facts.used_fits)

module _ {s : State} {current other entries : List ℕ} (u : Undamaged s current other entries) where
  at : Table → ℕ → List ℕ
  at t b = entries_at s current other entries (Place.bucket t b)

  facts : Sound s (length current) (length other) (length entries)
  unfolding sound
  facts = sound_facts s current other entries u.state_sound

  one_bucket_lem : (n : ℕ) (t v : Table) (a b : ℕ) → a < size_of s t → b < size_of s v → In n (at t a) → In n (at v b)
      → Place.bucket t a ≡ Place.bucket v b
  unfolding at Live
  one_bucket_lem n t v a b l k i j = u.on_one_chain n (Place.bucket t a) (Place.bucket v b) l k i j

  -- a bucket's chain is met whole, where none of it was met before
  whole : (t : Table) (b : ℕ) (before : List ℕ) → b < size_of s t → ((n : ℕ) → In n (at t b) → In n before → ⊥)
      → followed_in entries s.capacity (buckets_of current other t) (size_of s t) before b ≡ at t b
  unfolding followed_in at chain_at belongs budget_at head_at Live
  whole t b before l apart =
      let (linked, short, passing) =
      read_sound (in_bucket (size_of s t) b) entries s.capacity (used_of s t) (get_or (buckets_of current other t) b 0) (at t b)
      (u.chains_sound (Place.bucket t b) l) in
      followed_whole (in_bucket (size_of s t) b) entries s.capacity s.capacity before (get_or (buckets_of current other t) b 0) (at t b)
      linked passing apart (linked_distinct entries s.capacity _ (at t b) linked) (omega (arith, few facts t))

  module _ (t : Table) (before : List ℕ) (apart : (b n : ℕ) → b < size_of s t → In n (at t b) → In n before → ⊥) where
    here : ℕ → List ℕ
    here b =
        followed_in entries s.capacity (buckets_of current other t) (size_of s t)
        (met_in entries s.capacity (buckets_of current other t) (size_of s t) before b) b

    -- each bucket in turn
    each : (k b : ℕ) → b < k → b < size_of s t → here b ≡ at t b
    unfolding here
    each zero b h l = absurd (omega arith)
    each (suc k) b h l =
        whole t b (met_in entries s.capacity (buckets_of current other t) (size_of s t) before b) l
        (λ n i j.
        ⊎_elim (apart b n l i)
        (λ e.
        let (a, less, there) = e in
        let same = one_bucket_lem n t t a b (omega arith) l (subst (In n) (each k a (omega arith) (omega arith)) there) i in
        let z : a ≡ b = cc in
        omega arith)
        (of_up_to entries s.capacity (buckets_of current other t) (size_of s t) before b n j))

  old_met : (b : ℕ) → b < s.old_size → met_at s current other entries Table.Old b ≡ at Table.Old b
  unfolding met_at met_before size_of here
  old_met b l = each Table.Old [] (λ c n k i j. j) (suc b) b (omega arith) l

  new_met : (b : ℕ) → b < s.new_size → met_at s current other entries Table.New b ≡ at Table.New b
  unfolding met_at met_before size_of buckets_of here
  new_met b l = each Table.New (met_before s current entries Table.New) apart (suc b) b (omega arith) l
    where
      apart : (c n : ℕ) → c < s.new_size → In n (at Table.New c) → In n (met_before s current entries Table.New) → ⊥
      apart c n k i j =
          ⊎_elim (λ h. h)
          (λ e.
          let (a, less, there) = e in
          let same = one_bucket_lem n Table.Old Table.New a c less k (subst (In n) (old_met a less) there) i in
          let z : ◌≡◌ {A = ℕ} 0 1 = cc in
          omega arith)
          (of_up_to entries s.capacity current s.old_size [] s.old_size n j)

  same_met : (t : Table) (b : ℕ) → b < size_of s t → met_at s current other entries t b ≡ at t b
  unfolding size_of
  same_met Table.Old b l = old_met b l
  same_met Table.New b l = new_met b l

  -- an entry of a bucket is met, and is the first with its key

  all_kept : (t : Table) (b n : ℕ) → b < size_of s t → In n (met_at s current other entries t b) → is_kept s current other entries n ≡ true
  unfolding is_kept at met
  all_kept t b n l i =
      eq-eqb _ n
      (only_first entries n (met_all s current other entries) (in_met_all s current other entries t b n l i)
      (λ m j e.
      let (v, c, k, h) = of_met_all s current other entries m j in
      u.keys_distinct m n v t c b k l (subst (In m) (same_met v c k) h) (subst (In n) (same_met t b l) i) e))

  same_kept : (t : Table) (b : ℕ) → b < size_of s t → kept_at s current other entries t b ≡ at t b
  unfolding kept_at
  same_kept t b l =
      keep_all (is_kept s current other entries) (met_at s current other entries t b) (λ n i. all_kept t b n l i) ∙ same_met t b l

  -- no bucket's chain changes
  pub same_chain : (t : Table) (b : ℕ) → b < size_of s t
      → entries_at (repaired_state s current other entries) (repaired_buckets s current other entries Table.Old)
      (repaired_buckets s current other entries Table.New) (repaired_entries s current other entries) (Place.bucket t b)
      ≡ entries_at s current other entries (Place.bucket t b)
  unfolding at sound
  same_chain t b l = repaired_entries_lem s current other entries u.state_sound t b l ∙ same_kept t b l

  -- no key and no value of an entry in a bucket

  pub same_key : (t : Table) (b n : ℕ) → b < size_of s t → In n (entries_at s current other entries (Place.bucket t b))
      → key_of (repaired_entries s current other entries) n ≡ key_of entries n
  unfolding at sound
  same_key t b n l i =
      repaired_key s current other entries u.state_sound t b n (subst (In n) (sym (same_kept t b l)) i)

  pub same_value : (t : Table) (b n : ℕ) → b < size_of s t → In n (entries_at s current other entries (Place.bucket t b))
      → value_of (repaired_entries s current other entries) n ≡ value_of entries n
  unfolding at sound
  same_value t b n l i =
      repaired_value s current other entries u.state_sound t b n (subst (In n) (sym (same_kept t b l)) i)

  -- all of it is kept
  pub all_kept_there : (t : Table) (b : ℕ) → b < size_of s t
      → kept_at s current other entries t b ≡ entries_at s current other entries (Place.bucket t b)
  unfolding at
  all_kept_there t b l = same_kept t b l
