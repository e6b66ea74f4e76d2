-- A rehash step keeps the shape: the entries of a bucket of the old table move, head to end, each to the head of its bucket
-- in the new one. Each move is one relink; the code writes the old bucket's head once, at the end. A step that only passes
-- empty buckets keeps the shape too.
-- Assumes nothing.
use Prim.Native.Nat.{ℕ, suc, ◌+◌, ◌-◌, ◌<◌, ◌≤◌}
use mathlib.Core.Path.{◌≡◌, refl, sym, ap, subst, subst₃, ◌∙◌}
use mathlib.Core.Logic.{◌⊎◌, inl, inr}
use mathlib.Core.Bool.{true}
use mathlib.Core.List.{List, [], ◌∷◌}
use native.Mathlib.Omega.{arith}
use native.Mathlib.Decide.{ℕ_discrete}
use lib.ListN.{length, get_or, set}
use lib.Seq.{get_or-set_same, get_or-set_other, set-set, set-get_or}
use Rattle.cursor.specs.Member.{In}
use Rattle.model.specs.declared.State.{State}
use Rattle.model.specs.Keys.{bucket_of}
use Rattle.model.specs.declared.Table.{Table}
use Rattle.model.specs.Memory.{Place, Live, head_at, size_of, used_of, buckets_of, keys_held, key_place, link_of, key_of, value_of, set_link, sum}
use Rattle.model.specs.Calls.{After, Chains, push, moved, state_of, old_new, recounted, retabled, advanced}
use Rattle.model.proofs.Linked.{Linked}
use Rattle.model.proofs.Sums.{term_in_sum}
use Rattle.invariant.proofs.Shape.{Home, IsBucket, Shape, facts}
use Rattle.invariant.proofs.States.{sound_again, live_kept, home_kept}
use Rattle.invariant.proofs.Places.{one, in_table, LiveTable, key_live}
use Rattle.invariant.proofs.LinkedChains.{shape_linked}
use Rattle.model.proofs.Fields.{key_set_link}
use Rattle.model.proofs.Moved.{moved_key, moved_value}
use Rattle.invariant.proofs.Cells.{Cell, memory, buckets_in, read, write}
use Rattle.invariant.proofs.Relink.{last_cell, Relinked, Moved, relink}
use Rattle.invariant.proofs.RelinkWrites.{rewired, rewired_keeps, shape_rewired}
use Rattle.invariant.proofs.StoreAfter.{HeldIn, StoreAfter}

-- One entry, the first of bucket b.

module _ {s : State} {current other entries : List ℕ} (shape : Shape s current other entries)
    (rehashing : s.rehashing ≡ true) (b n : ℕ) (ns : List ℕ) (below : b < s.old_size)
    (chain : shape.at (Place.bucket Table.Old b) ≡ n ∷ ns) (old new : ℕ) (one_less : old + 1 ≡ s.old_used)
    (one_more : new ≡ s.new_used + 1) where
  -- where it goes
  abbrev to : Place
  to = Place.bucket Table.New (bucket_of (key_of entries n) s.new_size)

  abbrev from : Place
  from = Place.bucket Table.Old b

  counts_changed : (t : Table) → old_new old new t + in_table t from ≡ used_of s t + in_table t to
  unfolding old_new in_table one used_of
  counts_changed Table.Old = omega arith
  counts_changed Table.New = omega arith

  relinked : Relinked s (memory s current other entries) (rewired (memory s current other entries) (Cell.head from) to n)
      shape.at (old_new old new) from to n [] ns
  unfolding memory Live Home IsBucket last_cell size_of key_place LiveTable
  relinked =
      let m = memory s current other entries in
      let live = key_live shape (key_of entries n) Table.New (λ e. rehashing) in
      let differ : from ≡ to → ⊥ = λ e. let z : ◌≡◌ {A = ℕ} 0 1 = cc in omega arith in
      let its_key : (k : ℕ) → _ = λ k. (rewired_keeps m (Cell.head from) to n k).0 in
      record {
        chain = chain;
        from_live = below;
        to_live = live;
        apart = differ;
        cells = shape_rewired shape from to n [] ns chain below live differ;
        keys_kept = λ k d. its_key k;
        at_home = ap (λ (k : ℕ). bucket_of k s.new_size) (its_key n);
        key_alone =
            λ u k t l h i e.
            shape.keys_distinct k n t from l below h tt i
            (subst (λ (ms : List ℕ). In n ms) (sym chain) (inl refl)) (sym e ∙ its_key n);
        not_passed = λ a l e. let z : ◌≡◌ {A = ℕ} 0 1 = cc in omega arith;
        changed = counts_changed;
      }

  -- the old bucket's head is the next entry
  move_one : (shape' : Shape (recounted s s.free_head (old_new old new)) (set current b (link_of entries n))
      (set other (bucket_of (key_of entries n) s.new_size) n)
      (set_link entries n (get_or other (bucket_of (key_of entries n) s.new_size) 0)))
      × Moved s shape.at shape'.at from to n [] ns
  unfolding memory rewired write read buckets_in buckets_of
  move_one =
      relink shape (rewired (memory s current other entries) (Cell.head from) to n) (old_new old new) from to n [] ns relinked

-- The whole chain.

-- what is where, after some entries went each to its place, and before
record Went (s : State) (at at' : Place → List ℕ) (moves : List ℕ) (to : ℕ → Place) : Type 0 where
  there : (n : ℕ) → In n moves → In n (at' (to n))
  before : (n : ℕ) (t : Place) → Live s t → In n (at' t) → (In n moves × (t ≡ to n)) ⊎ ((In n moves → ⊥) × In n (at t))
  after : (n : ℕ) (t : Place) → (In n moves → ⊥) → In n (at t) → In n (at' t)

-- one entry went, then the others
went_on : {s s' : State} {at at' at'' : Place → List ℕ} {p : Place} {to to' : ℕ → Place} {n : ℕ} {ns : List ℕ}
    → ((t : Place) → Live s t → Live s' t) → Moved s at at' p (to n) n [] ns
    → ((k : ℕ) → to' k ≡ to k) → Went s' at' at'' ns to' → Went s at at'' (n ∷ ns) to
went_on {s} {s'} {at} {at'} {at''} {p} {to} {to'} {n} {ns} live moved same_to rest =
    record { there = there; before = before; after = after }
  where
    there : (k : ℕ) → In k (n ∷ ns) → In k (at'' (to k))
    there k (inl e) =
        subst (λ (i : ℕ). In i (at'' (to i))) (sym e) (rest.after n (to n) moved.gone moved.there)
    there k (inr i) = subst (λ (t : Place). In k (at'' t)) (same_to k) (rest.there k i)

    before : (k : ℕ) (t : Place) → Live s t → In k (at'' t)
        → (In k (n ∷ ns) × (t ≡ to k)) ⊎ ((In k (n ∷ ns) → ⊥) × In k (at t))
    before k t l i = second (rest.before k t (live t l) i)
      where
        first : (In k ns → ⊥) → ((k ≡ n) × (t ≡ to n)) ⊎ ((k ≡ n → ⊥) × In k (at t))
            → (In k (n ∷ ns) × (t ≡ to k)) ⊎ ((In k (n ∷ ns) → ⊥) × In k (at t))
        first d (inl h) = inl (inl h.0, h.1 ∙ ap to (sym h.0))
        first d (inr h) = inr ((λ j. elim j [ inl e ↦ h.0 e | inr j ↦ d j ]), h.1)

        second : (In k ns × (t ≡ to' k)) ⊎ ((In k ns → ⊥) × In k (at' t))
            → (In k (n ∷ ns) × (t ≡ to k)) ⊎ ((In k (n ∷ ns) → ⊥) × In k (at t))
        second (inl h) = inl (inr h.0, h.1 ∙ same_to k)
        second (inr h) = first h.0 (moved.before k t l h.1)

    after : (k : ℕ) (t : Place) → (In k (n ∷ ns) → ⊥) → In k (at t) → In k (at'' t)
    after k t d i = rest.after k t (λ j. d (inr j)) (moved.after k t (λ e. d (inl e)) i)

-- where an entry goes
goes_to : State → List ℕ → ℕ → Place
goes_to s entries n = Place.bucket Table.New (bucket_of (key_of entries n) s.new_size)

-- the new table and the entries, once some entries have moved
abbrev pub after : State → List ℕ → List ℕ → List ℕ → Chains
after s other entries ns = moved s.new_size ns (record { buckets = other; entries = entries })

-- the same sizes
same_sizes : (s : State) (free : ℕ) (used : Table → ℕ) (t : Table) → size_of (recounted s free used) t ≡ size_of s t
unfolding recounted state_of size_of
same_sizes s free used Table.Old = refl
same_sizes s free used Table.New = refl

move_all : (ns : List ℕ) {s : State} {current other entries : List ℕ} (shape : Shape s current other entries)
    → s.rehashing ≡ true → (b : ℕ) → b < s.old_size → shape.at (Place.bucket Table.Old b) ≡ ns → (old new : ℕ)
    → old + length ns ≡ s.old_used → new ≡ s.new_used + length ns
    → (shape' : Shape (recounted s s.free_head (old_new old new)) (set current b 0) (after s other entries ns).buckets
    (after s other entries ns).entries)
    × Went s shape.at shape'.at ns (goes_to s entries)
unfolding moved push recounted state_of old_new size_of buckets_of Linked head_at Live goes_to
move_all [] {s} {current} {other} {entries} shape rehashing b below chain old new less more =
    let empty : get_or current b 0 ≡ 0 =
    shape_linked shape (Place.bucket Table.Old b) below [] chain in
    let same_old : s.old_used ≡ old = omega arith in
    let same_new : s.new_used ≡ new = omega arith in
    subst₃
    (λ (l : List ℕ) (i j : ℕ).
    (shape' : Shape (recounted s s.free_head (old_new i j)) l other entries)
    × Went s shape.at shape'.at [] (goes_to s entries))
    (sym (ap (set current b) (sym empty) ∙ set-get_or current b 0)) same_old same_new
    (shape, record { there = λ n i. absurd i; before = λ n t l i. inr ((λ j. j), i); after = λ n t d i. i })
move_all (n ∷ ns) {s} {current} {other} {entries} shape rehashing b below chain old new less more =
    let (first, gone) =
    move_one shape rehashing b n ns below chain (old + length ns) (s.new_used + 1) (omega arith) refl in
    let s' = recounted s s.free_head (old_new (old + length ns) (s.new_used + 1)) in
    let entries' = set_link entries n (get_or other (bucket_of (key_of entries n) s.new_size) 0) in
    let (rest, went) = move_all ns first rehashing b below gone.left old new refl (omega arith) in
    subst
    (λ (l : List ℕ).
    (shape' : Shape (recounted s s.free_head (old_new old new)) l (after s other entries (n ∷ ns)).buckets
    (after s other entries (n ∷ ns)).entries)
    × Went s shape.at shape'.at (n ∷ ns) (goes_to s entries))
    (set-set current b (link_of entries n) 0) (
      rest,
      went_on {s' = s'} {at' = first.at} {p = Place.bucket Table.Old b} {to = goes_to s entries} {to' = goes_to s' entries'}
          (live_kept s s' (same_sizes s s.free_head (old_new (old + length ns) (s.new_used + 1)))) gone
          (λ k. ap (λ (i : ℕ). Place.bucket Table.New (bucket_of i s.new_size)) (key_set_link entries n k _)) went,
    )

-- The rehash goes on from bucket i, with the same counts: every bucket before it is empty.

module _ (s : State) (used : Table → ℕ) (same_used : (t : Table) → used t ≡ used_of s t) (i : ℕ) where
  abbrev reindexed : State
  reindexed = retabled s s.second_is_current (size_of s) used true i

  same_head : (current other : List ℕ) (t : Place) → head_at s current other t ≡ head_at reindexed current other t
  unfolding head_at retabled state_of
  same_head current other Place.free = refl
  same_head current other (Place.bucket t b) = refl

  kept_size : (t : Table) → size_of reindexed t ≡ size_of s t
  unfolding retabled state_of size_of
  kept_size Table.Old = refl
  kept_size Table.New = refl

  kept_used : (t : Table) → used_of reindexed t ≡ used_of s t
  unfolding retabled state_of used_of
  kept_used Table.Old = same_used Table.Old
  kept_used Table.New = same_used Table.New

  kept_keys : used Table.Old + used Table.New ≡ s.old_used + s.new_used
  unfolding used_of
  kept_keys = omega (arith, same_used Table.Old, same_used Table.New)

  reindex : {current other entries : List ℕ} → Shape s current other entries → s.rehashing ≡ true
      → i ≤ s.old_size → ((a : ℕ) → a < i → get_or current a 0 ≡ 0) → Shape reindexed current other entries
  unfolding retabled state_of size_of
  reindex {current} {other} {entries} shape rehashing fits empty =
      let state = facts shape in
      let before = state.rehashing rehashing in
      let to = live_kept s reindexed kept_size in
      let back = live_kept reindexed s (λ t. sym (kept_size t)) in
      record {
        state_sound =
            sound_again reindexed current other entries state refl refl state.old_legal state.old_fits
            (omega (arith, kept_keys, state.used_fits)) state.free_fits state.iterators_fit
            (λ e.
            record {
              new_legal = before.new_legal;
              new_fits = before.new_fits;
              sizes_differ = before.sizes_differ;
              index_fits = fits;
            })
            (λ e. let z : ◌≡◌ {A = ℕ} 0 1 = cc in absurd (omega arith));
        at = shape.at;
        linked =
            λ t l.
            subst (λ (k : ℕ). Linked entries s.capacity k (shape.at t)) (same_head current other t)
            (shape.linked t (back t l));
        owner = shape.owner;
        owned = λ n h k. let (live, there) = shape.owned n h k in (to (shape.owner n) live, there);
        owns = λ n t l. shape.owns n t (back t l);
        home = λ n t l h. home_kept s reindexed kept_size (key_of entries n) t (shape.home n t (back t l) h);
        keys_distinct = λ n k t u l l'. shape.keys_distinct n k t u (back t l) (back u l');
        passed_empty = empty;
        counts =
            λ t.
            kept_used t
            ∙ shape.counts t
            ∙ ap (sum (λ b. length (shape.at (Place.bucket t b)))) (sym (kept_size t));
        free_count = omega (arith, kept_keys, shape.free_count);
      }

-- what a place holds once the chain of bucket b has moved
abbrev pub HeldThen : State → List ℕ → (Place → List ℕ) → ℕ → Place → ℕ → ℕ → Type 0
HeldThen s entries at b t k v =
    ((t ≡ Place.bucket Table.Old b → ⊥) × HeldIn entries (at t) k v) ⊎ ((t ≡ key_place s k Table.New) × HeldIn entries (at (Place.bucket Table.Old b)) k v)

-- The outcome of a step that moves the chain of bucket b, where every bucket before it is empty.
module _ {s : State} {current other entries : List ℕ} (shape : Shape s current other entries)
    (rehashing : s.rehashing ≡ true) (b : ℕ) (below : b < s.old_size)
    (empty : (a : ℕ) → a < b → get_or current a 0 ≡ 0) where
  abbrev ns : List ℕ
  ns = shape.at (Place.bucket Table.Old b)

  abbrev entries' : List ℕ
  entries' = (after s other entries ns).entries

  no_more : length ns ≤ s.old_used
  unfolding used_of size_of
  no_more =
      omega (arith, shape.counts Table.Old, term_in_sum (λ i. length (shape.at (Place.bucket Table.Old i))) s.old_size b below)

  passed : (a : ℕ) → a < suc b → get_or (set current b 0) a 0 ≡ 0
  passed a l =
      elim (ℕ_discrete a b) [
        | yes e ↦
            subst (λ (k : ℕ). get_or (set current b 0) k 0 ≡ 0) (sym e)
            (get_or-set_same current b 0 0 (let f = (facts shape).old_fits in omega arith))
        | no d ↦ get_or-set_other current b a 0 0 d ∙ empty a (omega arith)
      ]

  abbrev HoldsThen : Place → ℕ → ℕ → Type 0
  HoldsThen = HeldThen s entries shape.at b

  module _ (at' : Place → List ℕ) (went : Went s shape.at at' ns (goes_to s entries)) where
    held_only : (t : Place) → Live s t → (k v : ℕ) → HeldIn entries' (at' t) k v → HoldsThen t k v
    unfolding goes_to key_place size_of
    held_only t l k v h = go (went.before h.entry t l h.there)
      where
        its_key : key_of entries h.entry ≡ k
        its_key = sym (moved_key s.new_size ns (record { buckets = other; entries = entries }) h.entry) ∙ h.its_key

        its_value : value_of entries h.entry ≡ v
        its_value = sym (moved_value s.new_size ns (record { buckets = other; entries = entries }) h.entry) ∙ h.its_value

        go : (In h.entry ns × (t ≡ goes_to s entries h.entry))
            ⊎ ((In h.entry ns → ⊥) × In h.entry (shape.at t)) → HoldsThen t k v
        go (inl e) =
            inr (
              e.1 ∙ ap (λ (i : ℕ). key_place s i Table.New) its_key,
              record { entry = h.entry; there = e.0; its_key = its_key; its_value = its_value },
            )
        go (inr e) =
            inl (
              (λ f. e.0 (subst (λ (z : Place). In h.entry (shape.at z)) f e.1)),
              record { entry = h.entry; there = e.1; its_key = its_key; its_value = its_value },
            )

    held_all : (t : Place) → Live s t → (k v : ℕ) → HoldsThen t k v → HeldIn entries' (at' t) k v
    unfolding goes_to key_place Live size_of
    held_all t l k v (inl (d, h)) =
        record {
          entry = h.entry;
          there =
              went.after h.entry t
              (λ i. d (sym (shape.owns h.entry t l h.there) ∙ shape.owns h.entry (Place.bucket Table.Old b) below i))
              h.there;
          its_key = moved_key s.new_size ns (record { buckets = other; entries = entries }) h.entry ∙ h.its_key;
          its_value = moved_value s.new_size ns (record { buckets = other; entries = entries }) h.entry ∙ h.its_value;
        }
    held_all t l k v (inr (e, h)) =
        record {
          entry = h.entry;
          there =
              subst (λ (z : Place). In h.entry (at' z))
              (ap (λ (i : ℕ). key_place s i Table.New) h.its_key ∙ sym e) (went.there h.entry h.there);
          its_key = moved_key s.new_size ns (record { buckets = other; entries = entries }) h.entry ∙ h.its_key;
          its_value = moved_value s.new_size ns (record { buckets = other; entries = entries }) h.entry ∙ h.its_value;
        }

  -- (the state then, before it is asked whether the rehash is over)
  pub moved_store : StoreAfter s (λ t. t)
      (After.after (advanced s (length (shape.at (Place.bucket Table.Old b))) (suc b)) (set current b 0)
      (after s other entries (shape.at (Place.bucket Table.Old b))).buckets
      (after s other entries (shape.at (Place.bucket Table.Old b))).entries) (keys_held s) (suc b)
      (HeldThen s entries shape.at b)
  unfolding advanced retabled recounted state_of old_new size_of used_of keys_held reindex
  moved_store =
      let (all, went) =
      move_all ns shape rehashing b below refl (s.old_used - length ns) (s.new_used + length ns)
      (omega (arith, no_more)) refl in
      record {
        state = advanced s (length ns) (suc b);
        current = set current b 0;
        other = (after s other entries ns).buckets;
        entries = entries';
        is = refl;
        shape = reindex moved_state_lem used same_used (suc b) all rehashing below passed;
        same = record { current = refl; capacity = refl; sizes = same_size; rehashing = sym rehashing; allowed = refl; iterators = refl };
        keys_held_lem = omega (arith, no_more);
        index_is = refl;
        held_only = λ t l i. held_only all.at went t l;
        held_all = λ t l i. held_all all.at went t l;
      }
    where
      used : Table → ℕ
      used = old_new (s.old_used - length ns) (s.new_used + length ns)

      moved_state_lem : State
      moved_state_lem = recounted s s.free_head used

      same_used : (t : Table) → used t ≡ used_of moved_state_lem t
      same_used Table.Old = refl
      same_used Table.New = refl

      same_size : (t : Table) → size_of (advanced s (length ns) (suc b)) t ≡ size_of s t
      same_size Table.Old = refl
      same_size Table.New = refl

-- The outcome of a step that passes empty buckets up to bucket b.
pub passed_store : {s : State} {current other entries : List ℕ} (shape : Shape s current other entries) → s.rehashing ≡ true
    → (b : ℕ) → b ≤ s.old_size → ((a : ℕ) → a < b → get_or current a 0 ≡ 0)
    → StoreAfter s (λ t. t) (After.after (advanced s 0 b) current other entries) (keys_held s) b
    (λ t. HeldIn entries (shape.at t))
unfolding advanced retabled state_of old_new size_of used_of keys_held reindex
passed_store {s} {current} {other} {entries} shape rehashing b below empty =
    record {
      state = advanced s 0 b;
      current = current;
      other = other;
      entries = entries;
      is = refl;
      shape = reindex s (old_new (s.old_used - 0) (s.new_used + 0)) same_used b shape rehashing below empty;
      same = record { current = refl; capacity = refl; sizes = same_size; rehashing = sym rehashing; allowed = refl; iterators = refl };
      keys_held_lem = omega arith;
      index_is = refl;
      held_only = λ t l i k v h. h;
      held_all = λ t l i k v h. h;
    }
  where
    same_used : (t : Table) → old_new (s.old_used - 0) (s.new_used + 0) t ≡ used_of s t
    same_used Table.Old = omega arith
    same_used Table.New = omega arith

    same_size : (t : Table) → size_of (advanced s 0 b) t ≡ size_of s t
    same_size Table.Old = refl
    same_size Table.New = refl
