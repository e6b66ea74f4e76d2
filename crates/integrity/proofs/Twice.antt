-- Repairing a repaired store changes nothing at all.
-- Assumes nothing.
use Prim.Native.Nat.{ℕ, zero, suc, ◌+◌, ◌*◌, ◌<◌}
use mathlib.Core.Path.{◌≡◌, refl, sym, ap, subst, ◌∙◌}
use mathlib.Core.Logic.{inl, inr}
use mathlib.Core.Bool.{Bool, true, false, not}
use mathlib.Core.List.{List, [], ◌∷◌}
use mathlib.Core.Option.{none}
use native.Mathlib.Omega.{arith}
use lib.ListN.{length, get_or, set}
use lib.Seq.{set-get_or}
use Rattle.cursor.specs.Member.{In, keep}
use Rattle.model.specs.declared.State.{State}
use Rattle.model.specs.declared.Table.{Table}
use Rattle.model.specs.Memory.{link_of, key_of, value_of, set_link, set_key, set_value, set_entry, size_of, buckets_of, Place, Live, belongs, budget_at, head_at, chain_at, entries_at, sum, Undamaged}
use Rattle.model.specs.Calls.{sound, state_of}
use Rattle.model.proofs.Soundness.{sound_facts, index_within}
use Rattle.model.specs.Iterators.{first_from}
use Rattle.model.proofs.Linked.{Linked, read_sound}
use Rattle.model.proofs.Sums.{sum_same}
use Rattle.model.specs.Repair.{is_kept, kept_at, freed_list, up_from, first_or0, chained, chained_all, headed, freed, is_filled, or_else, repaired_buckets, repaired_entries, repaired_index, repaired_state}
use Rattle.model.proofs.Kept.{its, kept, kept_met, kept_place, up_from_range}
use Rattle.integrity.proofs.Repaired.{repaired_undamaged, repaired_entries_lem, repaired_free, freed_key, freed_value, repaired_index_lem}
use Rattle.integrity.proofs.Unchanged.{all_kept_there}

-- writing what is there

linked_head0 : (e : List ℕ) (most at : ℕ) (ns : List ℕ) → Linked e most at ns → at ≡ first_or0 ns
unfolding Linked first_or0
linked_head0 e most at [] h = h
linked_head0 e most at (n ∷ ns) h = h.0

link_there : (e : List ℕ) (n x : ℕ) → link_of e n ≡ x → set_link e n x ≡ e
unfolding link_of set_link
link_there e zero x h = refl
link_there e (suc n) x h = ap (set e (n * 3)) (sym h) ∙ set-get_or e (n * 3) 0

key_there : (e : List ℕ) (n x : ℕ) → key_of e n ≡ x → set_key e n x ≡ e
unfolding key_of set_key
key_there e zero x h = refl
key_there e (suc n) x h = ap (set e (n * 3 + 1)) (sym h) ∙ set-get_or e (n * 3 + 1) 0

value_there : (e : List ℕ) (n x : ℕ) → value_of e n ≡ x → set_value e n x ≡ e
unfolding value_of set_value
value_there e zero x h = refl
value_there e (suc n) x h = ap (set e (n * 3 + 2)) (sym h) ∙ set-get_or e (n * 3 + 2) 0

chained_there : (e : List ℕ) (most at : ℕ) (ns : List ℕ) → Linked e most at ns → chained e ns ≡ e
unfolding chained Linked
chained_there e most at [] h = refl
chained_there e most at (n ∷ ns) h =
    ap (λ (x : List ℕ). chained x ns) (link_there e n (first_or0 ns) (linked_head0 e most (link_of e n) ns h.3))
    ∙ chained_there e most (link_of e n) ns h.3

all_there : (f : ℕ → List ℕ) (at : ℕ → ℕ) (e : List ℕ) (most : ℕ) → (n : ℕ) → ((b : ℕ) → b < n → Linked e most (at b) (f b)) → chained_all f e n ≡ e
unfolding chained_all
all_there f at e most zero h = refl
all_there f at e most (suc n) h =
    ap (λ (x : List ℕ). chained x (f n)) (all_there f at e most n (λ b l. h b (omega arith)))
    ∙ chained_there e most (at n) (f n) (h n (omega arith))

headed_there : (f : ℕ → List ℕ) (e : List ℕ) (n : ℕ) → ((b : ℕ) → b < n → get_or e b 0 ≡ first_or0 (f b)) → headed f e n ≡ e
unfolding headed
headed_there f e zero h = refl
headed_there f e (suc n) h =
    ap (λ (x : List ℕ). set x n (first_or0 (f n))) (headed_there f e n (λ b l. h b (omega arith)))
    ∙ ap (set e n) (sym (h n (omega arith)))
    ∙ set-get_or e n 0

freed_there : (e : List ℕ) (most at : ℕ) (ns : List ℕ) → Linked e most at ns → ((n : ℕ) → In n ns → key_of e n ≡ 0)
    → ((n : ℕ) → In n ns → value_of e n ≡ 0) → freed e ns ≡ e
unfolding freed Linked set_entry
freed_there e most at [] h k v = refl
freed_there e most at (n ∷ ns) h k v =
    ap (λ (x : List ℕ). set_value (set_key (set_link x n (first_or0 ns)) n 0) n 0)
    (freed_there e most (link_of e n) ns h.3 (λ m i. k m (inr i)) (λ m i. v m (inr i)))
    ∙ ap (λ (x : List ℕ). set_value (set_key x n 0) n 0) (link_there e n (first_or0 ns) (linked_head0 e most (link_of e n) ns h.3))
    ∙ ap (λ (x : List ℕ). set_value x n 0) (key_there e n 0 (k n (inl refl)))
    ∙ value_there e n 0 (v n (inl refl))

keep_same : (f g : ℕ → Bool) (ns : List ℕ) → ((n : ℕ) → In n ns → f n ≡ g n) → keep f ns ≡ keep g ns
unfolding keep
keep_same f g [] h = refl
keep_same f g (n ∷ ns) h = rw (h n (inl refl), keep_same f g ns (λ m i. h m (inr i)))

pub none_first : (test : ℕ → Bool) (n left : ℕ) → ((b : ℕ) → b < n + left → test b ≡ false) → first_from test n left ≡ none
unfolding first_from
none_first test n zero h = refl
none_first test n (suc left) h = rw (h n (omega arith)) (none_first test (suc n) left (λ b l. h b (omega arith)))

same_bool : (a b : Bool) → (a ≡ true → b ≡ true) → (b ≡ true → a ≡ true) → a ≡ b
same_bool true b f g = sym (f refl)
same_bool false true f g = g refl
same_bool false false f g = refl

module _ (s : State) (current other entries : List ℕ) (ok : sound s current other entries ≡ true) where
  unfoldable pub s' : State
  s' = repaired_state s current other entries

  unfoldable pub c' : List ℕ
  c' = repaired_buckets s current other entries Table.Old

  unfoldable pub o' : List ℕ
  o' = repaired_buckets s current other entries Table.New

  unfoldable pub e' : List ℕ
  e' = repaired_entries s current other entries

  u : Undamaged s' c' o' e'
  unfolding s' c' o' e'
  u = repaired_undamaged s current other entries ok

  same_size : (t : Table) → size_of s' t ≡ size_of s t
  unfolding s' repaired_state state_of size_of
  same_size Table.Old = refl
  same_size Table.New = refl

  same_capacity : s'.capacity ≡ s.capacity
  unfolding s' repaired_state state_of
  same_capacity = refl

  -- the same entries are kept

  kept_again : (t : Table) (b : ℕ) → b < size_of s t → kept_at s' c' o' e' t b ≡ kept_at s current other entries t b
  unfolding s' c' o' e'
  kept_again t b l =
      all_kept_there u t b (subst (λ (n : ℕ). b < n) (sym (same_size t)) l) ∙ repaired_entries_lem s current other entries ok t b l

  is_again : (n : ℕ) → 0 < n → is_kept s' c' o' e' n ≡ is_kept s current other entries n
  unfolding its kept
  is_again n z =
      same_bool (is_kept s' c' o' e' n) (is_kept s current other entries n)
      (λ h.
      let (t, b, l, i) = kept_place s' c' o' e' n z h in
      let k = subst (λ (m : ℕ). b < m) (same_size t) l in
      (kept_met s current other entries t b n (subst (In n) (kept_again t b k) i)).1)
      (λ h.
      let (t, b, l, i) = kept_place s current other entries n z h in
      (kept_met s' c' o' e' t b n (subst (In n) (sym (kept_again t b l)) i)).1)

  free_again : freed_list s' c' o' e' ≡ freed_list s current other entries
  unfolding freed_list
  free_again =
      ap (λ (n : ℕ). keep (λ m. not (is_kept s' c' o' e' m)) (up_from 1 n)) same_capacity
      ∙ keep_same (λ m. not (is_kept s' c' o' e' m)) (λ m. not (is_kept s current other entries m)) (up_from 1 s.capacity)
      (λ n i. ap not (is_again n (let (a, b) = up_from_range 1 s.capacity n i in omega arith)))

  -- and stand where they are

  linked_there : (p : Place) → Live s' p → Linked e' s'.capacity (head_at s' c' o' p) (entries_at s' c' o' e' p)
  unfolding chain_at
  linked_there p l = (read_sound (belongs s' p) e' s'.capacity (budget_at s' p) (head_at s' c' o' p) _ (u.chains_sound p l)).0

  linked_kept' : (t : Table) (b : ℕ) → b < size_of s' t → Linked e' s'.capacity (get_or (buckets_of c' o' t) b 0) (kept_at s' c' o' e' t b)
  unfolding head_at Live
  linked_kept' t b l =
      subst (Linked e' s'.capacity (get_or (buckets_of c' o' t) b 0)) (sym (all_kept_there u t b l)) (linked_there (Place.bucket t b) l)

  buckets_again : (t : Table) → repaired_buckets s' c' o' e' t ≡ buckets_of c' o' t
  unfolding repaired_buckets
  buckets_again t =
      headed_there (kept_at s' c' o' e' t) (buckets_of c' o' t) (size_of s' t)
      (λ b l. linked_head0 e' s'.capacity (get_or (buckets_of c' o' t) b 0) (kept_at s' c' o' e' t b) (linked_kept' t b l))

  entries_again : repaired_entries s' c' o' e' ≡ e'
  unfolding repaired_entries size_of buckets_of Live s' c' o' e'
  entries_again =
      ap (λ (x : List ℕ). freed (chained_all (kept_at s' c' o' e' Table.New) x s'.new_size) (freed_list s' c' o' e'))
      (all_there (kept_at s' c' o' e' Table.Old) (λ b. get_or c' b 0) e' s'.capacity s'.old_size (linked_kept' Table.Old))
      ∙ ap (λ (x : List ℕ). freed x (freed_list s' c' o' e'))
      (all_there (kept_at s' c' o' e' Table.New) (λ b. get_or o' b 0) e' s'.capacity s'.new_size (linked_kept' Table.New))
      ∙ ap (freed e') free_again
      ∙ freed_there e' s'.capacity (head_at s' c' o' Place.free) (freed_list s current other entries) free_linked keys values
    where
      free_linked : Linked e' s'.capacity (head_at s' c' o' Place.free) (freed_list s current other entries)
      free_linked = subst (Linked e' s'.capacity (head_at s' c' o' Place.free)) free_there (linked_there Place.free tt)
        where
          free_there : entries_at s' c' o' e' Place.free ≡ freed_list s current other entries
          free_there = repaired_free s current other entries ok

      keys : (n : ℕ) → In n (freed_list s current other entries) → key_of e' n ≡ 0
      keys n i = freed_key s current other entries ok n i

      values : (n : ℕ) → In n (freed_list s current other entries) → value_of e' n ≡ 0
      values n i = freed_value s current other entries ok n i

  -- the counts, the index and the first free entry too

  count_again : (t : Table) → sum (λ b. length (kept_at s' c' o' e' t b)) (size_of s' t)
      ≡ sum (λ b. length (kept_at s current other entries t b)) (size_of s t)
  count_again t =
      ap (sum (λ b. length (kept_at s' c' o' e' t b))) (same_size t)
      ∙ sum_same (λ b. length (kept_at s' c' o' e' t b)) (λ b. length (kept_at s current other entries t b)) (size_of s t)
      (λ b l. ap length (kept_again t b l))

  below : (b : ℕ) → b < s'.rehash_index → b < s.old_size
  unfolding sound size_of
  below b l =
      omega (
        arith,
        index_within s' (length c') (length o') (length e') (sound_facts s' c' o' e' u.state_sound),
        same_size Table.Old,
      )

  index_again : repaired_index (kept_at s' c' o' e' Table.Old) s'.rehash_index ≡ s'.rehash_index
  unfolding repaired_index or_else s' size_of
  index_again =
      ap (or_else s'.rehash_index) (none_first (λ b. is_filled (kept_at s' c' o' e' Table.Old b)) 0 s'.rehash_index each)
    where
      each : (b : ℕ) → b < 0 + s'.rehash_index → is_filled (kept_at s' c' o' e' Table.Old b) ≡ false
      each b l =
          let k : b < s'.rehash_index = omega arith in
          ap is_filled (kept_again Table.Old b (below b k)) ∙ repaired_index_lem s current other entries ok b k

  old_again : sum (λ b. length (kept_at s' c' o' e' Table.Old b)) s'.old_size ≡ s'.old_used
  unfolding size_of s' repaired_state state_of
  old_again = count_again Table.Old

  new_again : sum (λ b. length (kept_at s' c' o' e' Table.New b)) s'.new_size ≡ s'.new_used
  unfolding size_of s' repaired_state state_of
  new_again = count_again Table.New

  head_again : first_or0 (freed_list s' c' o' e') ≡ s'.free_head
  unfolding s' repaired_state state_of
  head_again = ap first_or0 free_again

  state_again : repaired_state s' c' o' e' ≡ s'
  unfolding repaired_state state_of size_of
  state_again = same s' old_again new_again index_again head_again
    where
      same : (q : State) {a b i h : ℕ} → a ≡ q.old_used → b ≡ q.new_used → i ≡ q.rehash_index → h ≡ q.free_head
          → ◌≡◌ {A = State}
          (record {
            second_is_current = q.second_is_current;
            old_size = q.old_size;
            new_size = q.new_size;
            old_used = a;
            new_used = b;
            rehashing = q.rehashing;
            rehash_index = i;
            free_head = h;
            capacity = q.capacity;
            resize_allowed = q.resize_allowed;
            safe_iterators = q.safe_iterators;
          })
          q
      same q w x y z = rw (w, x, y, z)

  -- whatever is made of the state, the buckets and the entries
  pub repaired_again : {A : Type 0} (f : State → List ℕ → List ℕ → List ℕ → A) (t : State) (c o e : List ℕ)
      → t ≡ repaired_state s current other entries → c ≡ repaired_buckets s current other entries Table.Old
      → o ≡ repaired_buckets s current other entries Table.New → e ≡ repaired_entries s current other entries
      → f (repaired_state t c o e) (repaired_buckets t c o e Table.Old) (repaired_buckets t c o e Table.New) (repaired_entries t c o e)
      ≡ f t c o e
  unfolding s' c' o' e' buckets_of
  repaired_again f t c o e x y z v =
      rw (x, y, z, v, state_again, buckets_again Table.Old, buckets_again Table.New, entries_again)
