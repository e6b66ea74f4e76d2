-- Where every bucket's chain is sound, the repair changes the answer of no find: of the entries with a key it keeps the one
-- that a find finds, the first of the old table's bucket, or else of the new one's. An old bucket's chain is met whole. A new
-- bucket's is met up to the first entry that an old one has: from there on the two chains are one, and what stands there is
-- found in the old one already.
-- Assumes nothing.
use Prim.Native.Nat.{ℕ, zero, suc, ◌<◌, ◌≤◌}
use mathlib.Core.Path.{◌≡◌, refl, sym, ap, subst, ◌∙◌}
use mathlib.Core.Logic.{inl, inr, ⊎_elim}
use mathlib.Core.Bool.{Bool, true, false, ◌&&◌, not, cond}
use mathlib.Core.List.{List, [], ◌∷◌, ◌++◌, append-nil}
use mathlib.Core.Option.{Option, some}
use native.Mathlib.Omega.{arith}
use lib.ListN.{length, get_or}
use lib.Dec.{leb, eqb}
use borrow.Author.Tests.{eqb-true, le-leb}
use Rattle.cursor.specs.Member.{In, Distinct, among, keep}
use Rattle.model.specs.declared.State.{State}
use Rattle.model.specs.declared.Table.{Table}
use Rattle.model.specs.declared.Lookup.{Lookup}
use Rattle.model.specs.declared.Error.{Error}
use Rattle.model.specs.Keys.{bucket_of}
use Rattle.model.specs.Memory.{link_of, key_of, value_of, size_of, used_of, buckets_of, in_bucket, Place, Live, key_place, head_at, budget_at, belongs, chain_at}
use Rattle.model.specs.Calls.{sound, state_of, first_with, searched, both, lookup_in, lookup_while, lookup, held, found}
use Rattle.model.specs.Repair.{followed, followed_in, met_in, met_before, met_at, met_all, first_met, is_kept, kept_at, repaired_buckets, repaired_entries, repaired_state}
use Rattle.model.proofs.Tests.{true_not_false, told}
use Rattle.model.proofs.Soundness.{Sound, sound_facts}
use Rattle.model.proofs.Linked.{Linked, Passing, read_sound, linked_unique, linked_distinct, linked_in_range}
use Rattle.model.proofs.Lists.{no_member, in_right, tells_among}
use Rattle.model.proofs.Kept.{met, its, kept, met_facts, kept_place}
use Rattle.model.proofs.FirstMet.{or_first, or_none, Positive, first_met_keys, first_met_append, first_met_none, first_met_some, met_for, first_resting, first_rehashing}
use Rattle.integrity.proofs.Verified.{old_key_live, new_key_live}
use Rattle.integrity.proofs.Repaired.{repaired_undamaged, repaired_entries_lem, repaired_key, repaired_value}
use Rattle.integrity.proofs.Unchanged.{few}
use Rattle.integrity.proofs.NothingLost.{met_earlier, of_old, first_kept}
use Rattle.std.specs.Prelude.{Result, Ok, Err}

-- What a lookup finds, as a number.

-- this entry, or for 0 none
unfoldable Finds : Lookup → ℕ → Type 0
Finds Lookup.Damaged n = ⊥
Finds Lookup.Absent n = n ≡ 0
Finds (Lookup.At t before m) n = (m ≡ n) × (0 < n)

first_finds : (entries : List ℕ) (key : ℕ) (t : Table) (before : ℕ) (ns : List ℕ) → Positive ns
    → Finds (first_with entries key t before ns) (first_met entries key ns)
unfolding first_with first_met Finds Positive
first_finds entries key t before [] p = refl
first_finds entries key t before (m ∷ ns) p =
    by (eqb (key_of entries m) key) (first_finds entries key t m ns (λ n i. p n (inr i)))
  where
    by : (b : Bool) → Finds (first_with entries key t m ns) (first_met entries key ns)
        → Finds (cond b (Lookup.At t before m) (first_with entries key t m ns)) (cond b m (first_met entries key ns))
    by true h = (refl, p m (inl refl))
    by false h = h

both_finds : (a b : Lookup) (x y : ℕ) → Finds a x → Finds b y → Finds (both a b) (or_first x y)
unfolding both or_first Finds
both_finds Lookup.Damaged b x y h k = absurd h
both_finds Lookup.Absent b zero y h k = k
both_finds Lookup.Absent b (suc x) y h k = absurd (omega arith)
both_finds (Lookup.At t before n) b zero y h k = absurd (omega arith)
both_finds (Lookup.At t before n) Lookup.Damaged (suc x) y h k = absurd k
both_finds (Lookup.At t before n) Lookup.Absent (suc x) y h k = h
both_finds (Lookup.At t before n) (Lookup.At t' before' n') (suc x) y h k = h

-- and so what a find answers
unfoldable answer : List ℕ → ℕ → Result ℕ Error
answer entries zero = Err Error.Absent
answer entries (suc n) = Ok (value_of entries (suc n))

found_finds : (entries : List ℕ) (a : Lookup) (n : ℕ) → Finds a n → found entries a ≡ answer entries n
unfolding found held answer Finds
found_finds entries Lookup.Damaged n h = absurd h
found_finds entries Lookup.Absent zero h = refl
found_finds entries Lookup.Absent (suc n) h = absurd (omega arith)
found_finds entries (Lookup.At t before m) zero h = absurd (omega arith)
found_finds entries (Lookup.At t before m) (suc n) h = ap (λ (k : ℕ). Ok (value_of entries k)) h.0

-- in a key's bucket, whose chain is sound
table_finds : (s : State) (current other entries : List ℕ) (key : ℕ) (t : Table) (ns : List ℕ)
    → chain_at s current other entries (key_place s key t) ≡ some ns
    → Finds (lookup_in s current other entries key t) (first_met entries key ns)
unfolding lookup_in searched chain_at Positive
table_finds s current other entries key t ns e =
    let p = key_place s key t in
    let linked = (read_sound (belongs s p) entries s.capacity (budget_at s p) (head_at s current other p) ns e).0 in
    subst (λ (o : Option (List ℕ)). Finds (searched entries key t 0 o) (first_met entries key ns)) (sym e)
    (first_finds entries key t 0 ns (λ n i. (linked_in_range entries s.capacity _ n ns linked i).0))

-- two pairs with the same first; the second counts where there is no first
or_same : (x x' y y' : ℕ) → x ≡ x' → (x' ≡ 0 → y ≡ y') → or_first x y ≡ or_first x' y'
unfolding or_first
or_same x zero y y' e f = ap (λ (k : ℕ). or_first k y) e ∙ f refl
or_same x (suc x') y y' e f = ap (λ (k : ℕ). or_first k y) e

-- a list of which some are kept, the first with the key among them
first_met_keep : (test : ℕ → Bool) (entries : List ℕ) (key : ℕ) (ns : List ℕ)
    → ((n : ℕ) → In n ns → first_met entries key ns ≡ n → test n ≡ true)
    → first_met entries key (keep test ns) ≡ first_met entries key ns
unfolding first_met keep
first_met_keep test entries key [] f = refl
first_met_keep test entries key (m ∷ ns) f =
    by (eqb (key_of entries m) key) refl (test m) refl (first_met_keep test entries key ns)
  where
    here : (b : Bool) → eqb (key_of entries m) key ≡ b → (ks : List ℕ)
        → cond (eqb (key_of entries m) key) m (first_met entries key ks) ≡ cond b m (first_met entries key ks)
    here b e ks = ap (λ (c : Bool). cond c m (first_met entries key ks)) e

    by : (b : Bool) → eqb (key_of entries m) key ≡ b → (c : Bool) → test m ≡ c
        → (((n : ℕ) → In n ns → first_met entries key ns ≡ n → test n ≡ true)
        → first_met entries key (keep test ns) ≡ first_met entries key ns)
        → first_met entries key (cond c (m ∷ keep test ns) (keep test ns)) ≡ cond b m (first_met entries key ns)
    by true e true g rest = here true e (keep test ns)
    by true e false g rest = absurd (true_not_false (sym (f m (inl refl) (here true e ns)) ∙ g))
    by false e true g rest = here false e (keep test ns) ∙ rest (λ n i h. f n (inr i) (here false e ns ∙ h))
    by false e false g rest = rest (λ n i h. f n (inr i) (here false e ns ∙ h))

-- Chains.

-- the first of a chain that is not empty is its head
head_in : (entries : List ℕ) (most at : ℕ) (ns : List ℕ) → Linked entries most at ns → (n : ℕ) → In n ns → In at ns
unfolding Linked
head_in entries most at [] h n i = elim i [ ]
head_in entries most at (m ∷ ns) h n i = inl h.0

-- an entry of a chain heads a part of it
chain_rest : (entries : List ℕ) (most at n : ℕ) (ns : List ℕ) → Linked entries most at ns → In n ns
    → (ms : List ℕ) × Linked entries most n ms × ((k : ℕ) → In k ms → In k ns)
unfolding Linked
chain_rest entries most at n [] h i = elim i [ ]
chain_rest entries most at n (m ∷ ns) h (inl e) = (m ∷ ns, (e, h.1, h.2, h.3), λ k i. i)
chain_rest entries most at n (m ∷ ns) h (inr i) =
    let (ms, l, sub) = chain_rest entries most (link_of entries m) n ns h.3 i in (ms, l, λ k j. inr (sub k j))

-- a chain is met up to an entry met before
followed_front : (test : ℕ → Bool) (entries : List ℕ) (capacity fuel : ℕ) (before : List ℕ) (at : ℕ) (ns : List ℕ)
    → Linked entries capacity at ns → Passing test entries ns → Distinct ns → length ns ≤ fuel
    → (stop : ℕ) × (vs : List ℕ) × (ns ≡ followed test entries capacity fuel before at ++ vs) × Linked entries capacity stop vs
    × ((v : ℕ) → In v vs → In stop before)
unfolding followed Linked
followed_front test entries capacity zero before at [] h p d l = (at, [], refl, h, λ v i. absurd i)
followed_front test entries capacity zero before at (n ∷ ns) h p d l = absurd (omega arith)
followed_front test entries capacity (suc fuel) before zero [] h p d l = (0, [], refl, h, λ v i. absurd i)
followed_front test entries capacity (suc fuel) before (suc m) [] h p d l = absurd (omega arith)
followed_front test entries capacity (suc fuel) before zero (n ∷ ns) h p d l = absurd (omega arith)
followed_front test entries capacity (suc fuel) before (suc m) (n ∷ ns) h p d l =
    by (among (suc m) before) refl
    (followed_front test entries capacity fuel (suc m ∷ before) (link_of entries (suc m)) ns
    (subst (λ (k : ℕ). Linked entries capacity (link_of entries k) ns) (sym h.0) h.3) (λ k i. p k (inr i)) d.1 (omega arith))
  where
    rest : List ℕ
    rest = followed test entries capacity fuel (suc m ∷ before) (link_of entries (suc m))

    by : (b : Bool) → among (suc m) before ≡ b
        → (stop : ℕ) × (vs : List ℕ) × (ns ≡ rest ++ vs) × Linked entries capacity stop vs × ((v : ℕ) → In v vs → In stop (suc m ∷ before))
        → (stop : ℕ) × (vs : List ℕ)
        × (n ∷ ns ≡ cond (leb (suc m) capacity && not (among (suc m) before) && test (key_of entries (suc m))) (suc m ∷ rest) [] ++ vs)
        × Linked entries capacity stop vs
        × ((v : ℕ) → In v vs → In stop before)
    by true e more =
        rw (le-leb (suc m) capacity (omega arith), e)
        (suc m, n ∷ ns, refl, h, λ v i. told (tells_among (suc m) before) e)
    by false e (stop, vs, same, k, w) =
        rw (le-leb (suc m) capacity (omega arith), e, p (suc m) (inl h.0)) (
          stop,
          vs,
          ap (λ (j : ℕ). j ∷ ns) (sym h.0) ∙ ap (λ (ks : List ℕ). suc m ∷ ks) same,
          k,
          λ v i.
              ⊎_elim
              (λ f.
              let there = subst (In stop) (sym same) (in_right stop rest vs (head_in entries capacity stop vs k v i)) in
              absurd (d.0 (subst (λ (j : ℕ). In j ns) (f ∙ h.0) there)))
              (λ j. j) (w v i),
        )

module _ (s : State) (current other entries : List ℕ) (ok : sound s current other entries ≡ true) where
  facts : Sound s (length current) (length other) (length entries)
  facts = sound_facts s current other entries ok

  -- a bucket's chain is met up to an entry that the table before had
  chain_front : (t : Table) (b : ℕ) (ns : List ℕ) → chain_at s current other entries (Place.bucket t b) ≡ some ns
      → (stop : ℕ) × (vs : List ℕ) × (ns ≡ met_at s current other entries t b ++ vs) × Linked entries s.capacity stop vs
      × ((v : ℕ) → In v vs → In stop (met_before s current entries t))
  unfolding chain_at belongs budget_at head_at met_at followed_in
  chain_front t b ns e =
      let before = met_in entries s.capacity (buckets_of current other t) (size_of s t) (met_before s current entries t) b in
      let head = get_or (buckets_of current other t) b 0 in
      let (linked, short, passing) = read_sound (in_bucket (size_of s t) b) entries s.capacity (used_of s t) head ns e in
      let (stop, vs, same, k, w) =
      followed_front (in_bucket (size_of s t) b) entries s.capacity s.capacity before head ns linked passing
      (linked_distinct entries s.capacity head ns linked) (omega (arith, few facts t)) in (
        stop,
        vs,
        same,
        k,
        λ v i.
            met_earlier s current other entries t b stop
            (passing stop (subst (In stop) (sym same) (in_right stop (met_at s current other entries t b) vs (head_in entries s.capacity stop vs k v i)))) (w v i),
      )

  -- so in the old table it is met whole
  old_whole : (b : ℕ) (ns : List ℕ) → chain_at s current other entries (Place.bucket Table.Old b) ≡ some ns
      → ns ≡ met_at s current other entries Table.Old b
  unfolding met_before
  old_whole b ns e =
      let (stop, vs, same, k, w) = chain_front Table.Old b ns e in
      same ∙ ap (λ (ms : List ℕ). met_at s current other entries Table.Old b ++ ms) (no_member vs w) ∙ append-nil _

  -- the repaired store

  s' : State
  s' = repaired_state s current other entries

  c' : List ℕ
  c' = repaired_buckets s current other entries Table.Old

  o' : List ℕ
  o' = repaired_buckets s current other entries Table.New

  e' : List ℕ
  e' = repaired_entries s current other entries

  -- The first entry with a key, of all that are met, and of those in the key's bucket of a table.
  module _ (key : ℕ) where
    first_all : ℕ
    first_all = first_met entries key (met_all s current other entries)

    first_for : Table → ℕ
    first_for t = first_met entries key (met_for s current other entries t key)

    for_positive : (t : Table) → Positive (met_for s current other entries t key)
    unfolding Positive met_for met
    for_positive t n i = (met_facts s current other entries t (bucket_of key (size_of s t)) n i).0

    -- of the old table's bucket, if that has one
    first_there : (n : ℕ) → 0 < n → first_for Table.Old ≡ n → first_all ≡ n
    unfolding first_all first_for or_first
    first_there zero z e = absurd (omega arith)
    first_there (suc n) z e = by s.rehashing refl
      where
        by : (f : Bool) → s.rehashing ≡ f → first_all ≡ suc n
        by false r = first_resting s current other entries facts key r ∙ e
        by true r = first_rehashing s current other entries facts key r ∙ ap (λ (x : ℕ). or_first x (first_for Table.New)) e

    -- or else of the new one's
    first_else : s.rehashing ≡ true → first_for Table.Old ≡ 0 → first_all ≡ first_for Table.New
    unfolding first_all first_for or_first
    first_else r e = first_rehashing s current other entries facts key r ∙ ap (λ (x : ℕ). or_first x (first_for Table.New)) e

    -- a store finds the first of all, where the chains of the key's buckets have the same first
    store_finds : (q : State) (c o e : List ℕ) (f : Bool) → s.rehashing ≡ f
        → (ns : List ℕ) × (chain_at q c o e (key_place q key Table.Old) ≡ some ns) × (first_met e key ns ≡ first_for Table.Old)
        → (f ≡ true
        → (ms : List ℕ) × (chain_at q c o e (key_place q key Table.New) ≡ some ms)
        × (first_for Table.Old ≡ 0 → first_met e key ms ≡ first_for Table.New))
        → Finds (lookup_while f q c o e key) first_all
    unfolding lookup_while first_all first_for
    store_finds q c o e false r (ns, h, old) new =
        subst (Finds (lookup_in q c o e key Table.Old)) (old ∙ sym (first_resting s current other entries facts key r))
        (table_finds q c o e key Table.Old ns h)
    store_finds q c o e true r (ns, h, old) new =
        let (ms, k, else) = new refl in
        subst (Finds (both (lookup_in q c o e key Table.Old) (lookup_in q c o e key Table.New)))
        (or_same _ _ _ _ old else ∙ sym (first_rehashing s current other entries facts key r))
        (both_finds _ _ _ _ (table_finds q c o e key Table.Old ns h) (table_finds q c o e key Table.New ms k))

    -- Before: the chains of the key's buckets.
    module _ (chains : (t : Table) (b : ℕ) → b < size_of s t → (ns : List ℕ) × (chain_at s current other entries (Place.bucket t b) ≡ some ns)) where
      -- what stands behind an entry that the old table has, it has too: a key there is in the old table's bucket
      unmet_old : (stop : ℕ) (vs : List ℕ) → Linked entries s.capacity stop vs → In stop (met_before s current entries Table.New)
          → (v : ℕ) → In v vs → key_of entries v ≡ key → In v (met_for s current other entries Table.Old key)
      unfolding chain_at belongs budget_at head_at size_of met met_for in_bucket
      unmet_old stop vs k w v i same_key =
          let (a, l, j) = of_old s current other entries stop w in
          let (ns, e) = chains Table.Old a l in
          let same = old_whole a ns e in
          let linked = (read_sound (in_bucket s.old_size a) entries s.capacity (used_of s Table.Old) (head_at s current other (Place.bucket Table.Old a)) ns e).0 in
          let (ms, h, sub) = chain_rest entries s.capacity _ stop ns linked (subst (In stop) (sym same) j) in
          let there : In v (met_at s current other entries Table.Old a) =
          subst (In v) same (sub v (subst (In v) (linked_unique entries s.capacity stop vs ms k h) i)) in
          let its_bucket : bucket_of (key_of entries v) s.old_size ≡ a =
          eqb-true (bucket_of (key_of entries v) s.old_size) a (met_facts s current other entries Table.Old a v there).2 in
          subst (λ (c : ℕ). In v (met_at s current other entries Table.Old c))
          (sym its_bucket ∙ ap (λ (n : ℕ). bucket_of n s.old_size) same_key) there

      old_before : (ns : List ℕ) → chain_at s current other entries (key_place s key Table.Old) ≡ some ns
          → first_met entries key ns ≡ first_for Table.Old
      unfolding key_place first_for met_for
      old_before ns e = ap (first_met entries key) (old_whole (bucket_of key (size_of s Table.Old)) ns e)

      new_before : (ns : List ℕ) → chain_at s current other entries (key_place s key Table.New) ≡ some ns
          → first_for Table.Old ≡ 0 → first_met entries key ns ≡ first_for Table.New
      unfolding key_place first_for met_for
      new_before ns e none_old =
          let b = bucket_of key (size_of s Table.New) in
          let (stop, vs, same, k, w) = chain_front Table.New b ns e in
          ap (first_met entries key) same
          ∙ first_met_append entries key (met_for s current other entries Table.New key) vs (for_positive Table.New)
          ∙ ap (or_first (first_for Table.New))
          (first_met_none entries key vs
          (λ v i h.
          let some_old =
          first_met_some entries key (met_for s current other entries Table.Old key) (for_positive Table.Old) v
          (unmet_old stop vs k (w v i) v i h) h in
          omega arith))
          ∙ or_none (first_for Table.New)

      before_finds : Finds (lookup s current other entries key) first_all
      unfolding lookup key_place Live
      before_finds =
          let (ns, e) = chains Table.Old (bucket_of key (size_of s Table.Old)) (old_key_live s current other entries facts key) in
          store_finds s current other entries s.rehashing refl (ns, e, old_before ns e)
          (λ r. let (ms, h) = chains Table.New (bucket_of key (size_of s Table.New)) (new_key_live s current other entries facts key r) in (ms, h, new_before ms h))

    -- After: the entries kept there.

    kept_for : Table → List ℕ
    kept_for t = kept_at s current other entries t (bucket_of key (size_of s t))

    -- they are read there
    read_after : (t : Table) → bucket_of key (size_of s t) < size_of s t → chain_at s' c' o' e' (key_place s' key t) ≡ some (kept_for t)
    unfolding s' c' o' e' kept_for key_place Live size_of repaired_state state_of
    read_after Table.Old l =
        (repaired_undamaged s current other entries ok).chains_sound (Place.bucket Table.Old (bucket_of key s.old_size)) l
        ∙ ap some (repaired_entries_lem s current other entries ok Table.Old (bucket_of key s.old_size) l)
    read_after Table.New l =
        (repaired_undamaged s current other entries ok).chains_sound (Place.bucket Table.New (bucket_of key s.new_size)) l
        ∙ ap some (repaired_entries_lem s current other entries ok Table.New (bucket_of key s.new_size) l)

    -- with the same keys, and with the first of the bucket, if it is the first of all
    kept_first : (t : Table) → ((n : ℕ) → 0 < n → first_for t ≡ n → first_all ≡ n) → first_met e' key (kept_for t) ≡ first_for t
    unfolding e' kept_for kept_at first_for first_all met_for met
    kept_first t f =
        let b = bucket_of key (size_of s t) in
        first_met_keys e' entries key (kept_for t) (λ n i. repaired_key s current other entries ok t b n i)
        ∙ first_met_keep (is_kept s current other entries) entries key (met_at s current other entries t b)
        (λ n i h.
        let z = (met_facts s current other entries t b n i).0 in
        first_kept s current other entries key n z (f n z h))

    after_finds : Finds (lookup s' c' o' e' key) first_all
    unfolding lookup s' repaired_state state_of key_place Live
    after_finds =
        store_finds s' c' o' e' s.rehashing refl
        (kept_for Table.Old, read_after Table.Old (old_key_live s current other entries facts key), kept_first Table.Old first_there)
        (λ r. (
          kept_for Table.New,
          read_after Table.New (new_key_live s current other entries facts key r),
          λ none_old. kept_first Table.New (λ n z h. first_else r none_old ∙ h),
        ))

    -- with the same value
    same_answer : (n : ℕ) → first_all ≡ n → answer e' n ≡ answer entries n
    unfolding answer first_all its kept e'
    same_answer zero e = refl
    same_answer (suc n) e =
        let z : 0 < suc n = omega arith in
        let (t, b, l, i) = kept_place s current other entries (suc n) z (first_kept s current other entries key (suc n) z e) in
        ap Ok (repaired_value s current other entries ok t b (suc n) i)

  -- every find answers what it did
  pub same_find : ((t : Table) (b : ℕ) → b < size_of s t → (ns : List ℕ) × (chain_at s current other entries (Place.bucket t b) ≡ some ns))
      → (key : ℕ)
      → found (repaired_entries s current other entries)
      (lookup (repaired_state s current other entries) (repaired_buckets s current other entries Table.Old)
      (repaired_buckets s current other entries Table.New) (repaired_entries s current other entries) key)
      ≡ found entries (lookup s current other entries key)
  unfolding s' c' o' e'
  same_find chains key =
      found_finds e' _ (first_all key) (after_finds key)
      ∙ same_answer key (first_all key) refl
      ∙ sym (found_finds entries _ (first_all key) (before_finds key chains))
