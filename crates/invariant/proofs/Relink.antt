-- One entry leaves the chain of one place and is pushed at the head of another's, every other cell kept. Add, delete and
-- the move of an entry are each this; what it does to a shape is proved here, once.
-- Assumes nothing.
use Prim.Native.Nat.{ℕ, ◌+◌, ◌<◌, ◌≤◌}
use mathlib.Core.Path.{◌≡◌, refl, sym, ap, subst, ◌∙◌}
use mathlib.Core.Logic.{◌⊎◌, inl, inr}
use mathlib.Core.Bool.{true, false}
use mathlib.Core.List.{List, [], ◌∷◌, ◌++◌}
use native.Mathlib.Omega.{arith}
use native.Mathlib.Decide.{ℕ_discrete}
use lib.ListN.{length, get_or, length-append}
use Rattle.cursor.specs.Member.{In, Distinct}
use Rattle.model.specs.declared.State.{State}
use Rattle.model.specs.declared.Table.{Table}
use Rattle.model.specs.Memory.{Place, Live, head_at, size_of, used_of, buckets_of, link_of, key_of, sound_state, sum}
use Rattle.model.specs.Calls.{state_of, recounted}
use Rattle.model.proofs.Linked.{Linked, linked_kept, linked_head, linked_empty}
use Rattle.model.proofs.Lists.{in_left, in_right, first_distinct, parts_apart, in_middle, in_with, in_without, taken_out}
use Rattle.model.proofs.Sums.{sum_changed}
use Rattle.invariant.proofs.Shape.{Home, IsBucket, Shape, facts}
use Rattle.invariant.proofs.States.{sound_again, live_kept, home_kept}
use Rattle.invariant.proofs.Places.{same, indicator, in_table, in_one, free_indicator, indicators}
use Rattle.invariant.proofs.LinkedChains.{shape_linked, shape_distinct, shape_range}
use Rattle.invariant.proofs.Cells.{Memory, Cell, memory, buckets_in, read, SameLengths, read_head}

-- The cell that leads to what follows some entries, from a first cell.
unfoldable pub last_cell : Cell → List ℕ → Cell
last_cell c [] = c
last_cell c (u ∷ us) = last_cell (Cell.link u) us

-- behind at least one entry it is the link of one of them
pub last_link : (u : ℕ) (us : List ℕ) → (w : ℕ) × In w (u ∷ us) × (last_cell (Cell.link u) us ≡ Cell.link w)
unfolding last_cell
last_link u [] = (u, inl refl, refl)
last_link u (v ∷ us) = let (w, i, e) = last_link v us in (w, inr i, e)

pub not_head : (n : ℕ) (p : Place) → Cell.link n ≡ Cell.head p → ⊥
not_head n p e = let z : ◌≡◌ {A = ℕ} 0 1 = cc in omega arith

-- from a place's head, it is that head or the link of one of them
pub last_is_link : (p : Place) (us : List ℕ) (n : ℕ) → Cell.link n ≡ last_cell (Cell.head p) us → In n us
unfolding last_cell
last_is_link p [] n e = absurd (not_head n p e)
last_is_link p (u ∷ us) n e =
    let (w, i, f) = last_link u us in subst (λ (k : ℕ). In k (u ∷ us)) (cc) i

pub last_is_head : (p r : Place) (us : List ℕ) → Cell.head r ≡ last_cell (Cell.head p) us → r ≡ p
unfolding last_cell
last_is_head p r [] e = cc
last_is_head p r (u ∷ us) e =
    let (w, i, f) = last_link u us in absurd (not_head w r (sym f ∙ sym e))

-- heads and links: the cell c before entry x gets its link, and x goes to the head of place q
pub record Rewired (m m' : Memory) (c : Cell) (q : Place) (x : ℕ) : Type 0 where
  pub unlinked : read m' c ≡ read m (Cell.link x)
  pub pushed : read m' (Cell.head q) ≡ x
  pub pushed_link : read m' (Cell.link x) ≡ read m (Cell.head q)
  pub kept : (d : Cell) → (d ≡ c → ⊥) → (d ≡ Cell.head q → ⊥) → (d ≡ Cell.link x → ⊥) → read m' d ≡ read m d
  pub lengths : SameLengths m m'

-- what the change says: entry x of the chain us ++ x ∷ vs of place p goes to the head of place q
pub record Relinked (s : State) (m m' : Memory) (at : Place → List ℕ) (used : Table → ℕ) (p q : Place) (x : ℕ)
    (us vs : List ℕ) : Type 0 where
  -- the chain that it leaves
  pub chain : at p ≡ us ++ x ∷ vs
  pub from_live : Live s p
  pub to_live : Live s q
  pub apart : p ≡ q → ⊥
  -- heads and links
  pub cells : Rewired m m' (last_cell (Cell.head p) us) q x
  -- keys
  pub keys_kept : (n : ℕ) → (n ≡ x → ⊥) → key_of m'.entries n ≡ key_of m.entries n
  pub at_home : Home s (key_of m'.entries x) q
  pub key_alone : IsBucket q → (n : ℕ) (r : Place) → Live s r → IsBucket r → In n (at r)
      → key_of m'.entries x ≡ key_of m.entries n → n ≡ x
  -- the buckets passed by a rehash, and the counts
  pub not_passed : (b : ℕ) → b < s.rehash_index → q ≡ Place.bucket Table.Old b → ⊥
  pub changed : (t : Table) → used t + in_table t p ≡ used_of s t + in_table t q

-- the chain left, and what is where, after the change and before
pub record Moved (s : State) (at at' : Place → List ℕ) (p q : Place) (x : ℕ) (us vs : List ℕ) : Type 0 where
  pub left : at' p ≡ us ++ vs
  pub gone : In x (us ++ vs) → ⊥
  pub there : In x (at' q)
  pub before : (n : ℕ) (t : Place) → Live s t → In n (at' t)
      → ((n ≡ x) × (t ≡ q)) ⊎ ((n ≡ x → ⊥) × In n (at t))
  pub after : (n : ℕ) (t : Place) → (n ≡ x → ⊥) → In n (at t) → In n (at' t)

-- the chain of a place afterwards
chosen : {A B : Type 0} → Dec A → Dec B → List ℕ → List ℕ → List ℕ → List ℕ
chosen (yes a) b left joined kept = left
chosen (no a) (yes b) left joined kept = joined
chosen (no a) (no b) left joined kept = kept

placed : {A : Type 0} → Dec A → Place → Place → Place
placed (yes a) q r = q
placed (no a) q r = r

module _ {s : State} {current other entries : List ℕ} (shape : Shape s current other entries) (m' : Memory) (used : Table → ℕ)
    (p q : Place) (x : ℕ) (us vs : List ℕ)
    (r : Relinked s (memory s current other entries) m' shape.at used p q x us vs) where
  -- before the change

  listed_there : In x (shape.at p)
  listed_there = subst (λ (ns : List ℕ). In x ns) (sym r.chain) (in_middle x us vs)

  its_owner : shape.owner x ≡ p
  its_owner = shape.owns x p r.from_live listed_there

  from_linked : Linked entries s.capacity (head_at s current other p) (us ++ x ∷ vs)
  from_linked = shape_linked shape p r.from_live (us ++ x ∷ vs) r.chain

  no_repeats : Distinct (us ++ x ∷ vs)
  no_repeats = subst (λ (ns : List ℕ). Distinct ns) r.chain (shape_distinct shape p r.from_live)

  in_range : (0 < x) × (x ≤ s.capacity)
  in_range = shape_range shape p r.from_live x listed_there

  in_from : (n : ℕ) → In n (us ++ x ∷ vs) → In n (shape.at p)
  in_from n i = subst (λ (ns : List ℕ). In n ns) (sym r.chain) i

  -- an entry of another chain is another entry
  not_x : (n : ℕ) (t : Place) → Live s t → (t ≡ p → ⊥) → In n (shape.at t) → n ≡ x → ⊥
  not_x n t l d i e = d (sym (shape.owns n t l i) ∙ ap shape.owner e ∙ its_owner)

  -- nor is its link the last cell
  not_last : (n : ℕ) (t : Place) → Live s t → (t ≡ p → ⊥) → In n (shape.at t) → Cell.link n ≡ last_cell (Cell.head p) us → ⊥
  not_last n t l d i e =
      d
      (sym (shape.owns n t l i)
      ∙ shape.owns n p r.from_live (in_from n (in_left n us (x ∷ vs) (last_is_link p us n e))))

  -- Afterwards.

  relinked_at : Place → List ℕ
  relinked_at t = chosen (same t p) (same t q) (us ++ vs) (x ∷ shape.at q) (shape.at t)

  relinked_owner : ℕ → Place
  relinked_owner n = placed (ℕ_discrete n x) q (shape.owner n)

  -- who is where

  member_before : (n : ℕ) (t : Place) → Live s t → In n (relinked_at t)
      → ((n ≡ x) × (t ≡ q)) ⊎ ((n ≡ x → ⊥) × In n (shape.at t))
  unfolding relinked_at chosen
  member_before n t l = go (same t p) (same t q)
    where
      go : (d : Dec (t ≡ p)) (d' : Dec (t ≡ q)) → In n (chosen d d' (us ++ vs) (x ∷ shape.at q) (shape.at t))
          → ((n ≡ x) × (t ≡ q)) ⊎ ((n ≡ x → ⊥) × In n (shape.at t))
      go (yes e) d' i =
          inr (
            taken_out n x us vs no_repeats i,
            subst (λ (z : Place). In n (shape.at z)) (sym e) (in_from n (in_with n x vs us i)),
          )
      go (no d) (yes e) (inl h) = inl (h, e)
      go (no d) (yes e) (inr i) =
          inr (
            not_x n q r.to_live (λ f. r.apart (sym f)) i,
            subst (λ (z : Place). In n (shape.at z)) (sym e) i,
          )
      go (no d) (no d') i = inr (not_x n t l d i, i)

  member_after : (n : ℕ) (t : Place) → (n ≡ x → ⊥) → In n (shape.at t) → In n (relinked_at t)
  unfolding relinked_at chosen
  member_after n t f i = go (same t p) (same t q)
    where
      go : (d : Dec (t ≡ p)) (d' : Dec (t ≡ q)) → In n (chosen d d' (us ++ vs) (x ∷ shape.at q) (shape.at t))
      go (yes e) d' =
          in_without n x vs us
          (subst (λ (ns : List ℕ). In n ns) r.chain (subst (λ (z : Place). In n (shape.at z)) e i)) f
      go (no d) (yes e) = inr (subst (λ (z : Place). In n (shape.at z)) e i)
      go (no d) (no d') = i

  pushed_there : In x (relinked_at q)
  unfolding relinked_at chosen
  pushed_there = go (same q p) (same q q)
    where
      go : (d : Dec (q ≡ p)) (d' : Dec (q ≡ q)) → In x (chosen d d' (us ++ vs) (x ∷ shape.at q) (shape.at q))
      go (yes e) d' = absurd (r.apart (sym e))
      go (no d) (yes e) = inl refl
      go (no d) (no d') = absurd (d' refl)

  -- heads and links

  head_after : (t : Place) → read m' (Cell.head t) ≡ head_at (recounted s m'.free used) m'.current m'.other t
  unfolding memory recounted state_of
  head_after t = read_head (recounted s m'.free used) m'.current m'.other m'.entries t

  link_kept : (n : ℕ) → (Cell.link n ≡ last_cell (Cell.head p) us → ⊥) → (n ≡ x → ⊥)
      → link_of m'.entries n ≡ link_of entries n
  unfolding read memory
  link_kept n last other = r.cells.kept (Cell.link n) last (not_head n q) (λ e. other (cc))

  link_elsewhere : (t : Place) → Live s t → (t ≡ p → ⊥) → (n : ℕ) → In n (shape.at t)
      → link_of m'.entries n ≡ link_of entries n
  link_elsewhere t l d n i = link_kept n (not_last n t l d i) (not_x n t l d i)

  link_behind : (n : ℕ) → In n vs → link_of m'.entries n ≡ link_of entries n
  link_behind n i =
      link_kept n
      (λ e. parts_apart n us (x ∷ vs) no_repeats (last_is_link p us n e) (inr i))
      (taken_out n x us vs no_repeats (in_right n us vs i))

  -- the chain that it leaves, from any of its cells
  left_linked : (c : Cell) (ws : List ℕ) → last_cell c ws ≡ last_cell (Cell.head p) us
      → (c ≡ Cell.head q → ⊥) → (c ≡ Cell.link x → ⊥) → ((w : ℕ) → In w ws → c ≡ Cell.link w → ⊥)
      → Distinct ws → ((w : ℕ) → In w ws → w ≡ x → ⊥)
      → Linked entries s.capacity (read (memory s current other entries) c) (ws ++ x ∷ vs)
      → Linked m'.entries s.capacity (read m' c) (ws ++ vs)
  unfolding Linked last_cell read memory
  left_linked c [] last to_head its_link later distinct others h =
      subst (λ (k : ℕ). Linked m'.entries s.capacity k vs) (sym (ap (read m') last ∙ r.cells.unlinked))
      (linked_kept entries m'.entries s.capacity (link_of entries x) vs link_behind h.3)
  left_linked c (w ∷ ws) last to_head its_link later distinct others h =
      let (k, i, e) = last_link w ws in
      let not_last : c ≡ last_cell (Cell.head p) us → ⊥ = λ f. later k i (f ∙ sym last ∙ e) in (
        r.cells.kept c not_last to_head its_link ∙ h.0,
        h.1,
        h.2,
        left_linked (Cell.link w) ws last (not_head w q) (λ f. others w (inl refl) (cc))
            (λ v j f. distinct.0 (subst (λ (a : ℕ). In a ws) (cc) j)) distinct.1 (λ v j. others v (inr j)) h.3,
      )

  -- the chain that it joins
  pushed_linked : Linked m'.entries s.capacity (read m' (Cell.head q)) (x ∷ shape.at q)
  unfolding Linked read
  pushed_linked = (
    r.cells.pushed,
    in_range.0,
    in_range.1,
    subst (λ (k : ℕ). Linked m'.entries s.capacity k (shape.at q))
        (sym (r.cells.pushed_link ∙ read_head s current other entries q))
        (linked_kept entries m'.entries s.capacity (head_at s current other q) (shape.at q)
        (link_elsewhere q r.to_live (λ f. r.apart (sym f))) (shape.linked q r.to_live)),
  )

  chain_after : (t : Place) → Live s t → Linked m'.entries s.capacity (read m' (Cell.head t)) (relinked_at t)
  unfolding relinked_at chosen
  chain_after t l = go (same t p) (same t q)
    where
      go : (d : Dec (t ≡ p)) (d' : Dec (t ≡ q))
          → Linked m'.entries s.capacity (read m' (Cell.head t))
          (chosen d d' (us ++ vs) (x ∷ shape.at q) (shape.at t))
      go (yes e) d' =
          subst (λ (z : Place). Linked m'.entries s.capacity (read m' (Cell.head z)) (us ++ vs)) (sym e)
          (left_linked (Cell.head p) us refl (λ f. r.apart (cc)) (λ f. not_head x p (sym f))
          (λ w i f. not_head w p (sym f)) (first_distinct us (x ∷ vs) no_repeats)
          (λ w i. taken_out w x us vs no_repeats (in_left w us vs i))
          (subst (λ (k : ℕ). Linked entries s.capacity k (us ++ x ∷ vs)) (sym (read_head s current other entries p))
          from_linked))
      go (no d) (yes e) =
          subst (λ (z : Place). Linked m'.entries s.capacity (read m' (Cell.head z)) (x ∷ shape.at q)) (sym e)
          pushed_linked
      go (no d) (no d') =
          subst (λ (k : ℕ). Linked m'.entries s.capacity k (shape.at t))
          (sym
          (r.cells.kept (Cell.head t) (λ f. d (last_is_head p t us f)) (λ f. d' (cc)) (λ f. not_head x t (sym f))
          ∙ read_head s current other entries t))
          (linked_kept entries m'.entries s.capacity (head_at s current other t) (shape.at t)
          (link_elsewhere t l d) (shape.linked t l))

  -- counts

  count_at : (t : Place) → length (relinked_at t) + indicator (same t p) ≡ length (shape.at t) + indicator (same t q)
  unfolding relinked_at chosen indicator
  count_at t = go (same t p) (same t q)
    where
      go : (d : Dec (t ≡ p)) (d' : Dec (t ≡ q))
          → length (chosen d d' (us ++ vs) (x ∷ shape.at q) (shape.at t)) + indicator d
          ≡ length (shape.at t) + indicator d'
      go (yes e) (yes e') = absurd (r.apart (sym e ∙ e'))
      go (yes e) (no d') =
          omega (
            arith,
            length-append us vs,
            length-append us (x ∷ vs),
            ap length (ap shape.at e ∙ r.chain),
          )
      go (no d) (yes e) = omega (arith, ap length (ap shape.at e))
      go (no d) (no d') = refl

  count_after : (t : Table) → used t ≡ sum (λ b. length (relinked_at (Place.bucket t b))) (size_of s t)
  count_after t =
      omega (
        arith,
        r.changed t,
        shape.counts t,
        indicators s t p r.from_live,
        indicators s t q r.to_live,
        sum_changed (λ b. length (shape.at (Place.bucket t b))) (λ b. length (relinked_at (Place.bucket t b)))
            (λ b. indicator (same (Place.bucket t b) p)) (λ b. indicator (same (Place.bucket t b) q)) (size_of s t)
            (λ b. count_at (Place.bucket t b)),
      )

  free_count_after : length (relinked_at Place.free) + (used Table.Old + used Table.New) ≡ s.capacity
  unfolding used_of
  free_count_after =
      omega (
        arith,
        r.changed Table.Old,
        r.changed Table.New,
        shape.free_count,
        count_at Place.free,
        free_indicator p,
        free_indicator q,
        in_one p,
        in_one q,
      )

  -- owners

  owned_after : (n : ℕ) → 0 < n → n ≤ s.capacity → Live s (relinked_owner n) × In n (relinked_at (relinked_owner n))
  unfolding relinked_owner placed
  owned_after n l h = go (ℕ_discrete n x)
    where
      go : (d : Dec (n ≡ x)) → Live s (placed d q (shape.owner n)) × In n (relinked_at (placed d q (shape.owner n)))
      go (yes e) = (r.to_live, subst (λ (k : ℕ). In k (relinked_at q)) (sym e) pushed_there)
      go (no d) =
          let (live, there) = shape.owned n l h in (live, member_after n (shape.owner n) d there)

  owns_after : (n : ℕ) (t : Place) → Live s t → In n (relinked_at t) → relinked_owner n ≡ t
  unfolding relinked_owner placed
  owns_after n t l i = go (ℕ_discrete n x) (member_before n t l i)
    where
      go : (d : Dec (n ≡ x)) → ((n ≡ x) × (t ≡ q)) ⊎ ((n ≡ x → ⊥) × In n (shape.at t)) → placed d q (shape.owner n) ≡ t
      go (yes e) (inl h) = sym h.1
      go (yes e) (inr h) = absurd (h.0 e)
      go (no d) (inl h) = absurd (d h.0)
      go (no d) (inr h) = shape.owns n t l h.1

  -- keys

  home_after : (n : ℕ) (t : Place) → Live s t → In n (relinked_at t) → Home s (key_of m'.entries n) t
  unfolding memory
  home_after n t l i = go (member_before n t l i)
    where
      go : ((n ≡ x) × (t ≡ q)) ⊎ ((n ≡ x → ⊥) × In n (shape.at t)) → Home s (key_of m'.entries n) t
      go (inl h) =
          subst (λ (k : ℕ). Home s (key_of m'.entries k) t) (sym h.0)
          (subst (λ (z : Place). Home s (key_of m'.entries x) z) (sym h.1) r.at_home)
      go (inr h) = subst (λ (k : ℕ). Home s k t) (sym (r.keys_kept n h.0)) (shape.home n t l h.1)

  keys_after_lem : (n k : ℕ) (t u : Place) → Live s t → Live s u → IsBucket t → IsBucket u
      → In n (relinked_at t) → In k (relinked_at u) → key_of m'.entries n ≡ key_of m'.entries k → n ≡ k
  unfolding memory
  keys_after_lem n k t u lt lu bt bu i j e = go (member_before n t lt i) (member_before k u lu j)
    where
      go : ((n ≡ x) × (t ≡ q)) ⊎ ((n ≡ x → ⊥) × In n (shape.at t))
          → ((k ≡ x) × (u ≡ q)) ⊎ ((k ≡ x → ⊥) × In k (shape.at u)) → n ≡ k
      go (inl h) (inl g) = h.0 ∙ sym g.0
      go (inl h) (inr g) =
          absurd
          (g.0
          (r.key_alone (subst IsBucket h.1 bt) k u lu bu g.1
          (ap (key_of m'.entries) (sym h.0) ∙ e ∙ r.keys_kept k g.0)))
      go (inr h) (inl g) =
          absurd
          (h.0
          (r.key_alone (subst IsBucket g.1 bu) n t lt bt h.1
          (ap (key_of m'.entries) (sym g.0) ∙ sym e ∙ r.keys_kept n h.0)))
      go (inr h) (inr g) =
          shape.keys_distinct n k t u lt lu bt bu h.1 g.1
          (sym (r.keys_kept n h.0) ∙ e ∙ r.keys_kept k g.0)

  -- buckets passed

  passed_after : (b : ℕ) → b < s.rehash_index → get_or m'.current b 0 ≡ 0
  unfolding read memory buckets_in buckets_of head_at
  passed_after b l =
      r.cells.kept (Cell.head (Place.bucket Table.Old b)) not_left (λ e. r.not_passed b l (cc)) (λ e. not_head x (Place.bucket Table.Old b) (sym e))
      ∙ shape.passed_empty b l
    where
      not_left : Cell.head (Place.bucket Table.Old b) ≡ last_cell (Cell.head p) us → ⊥
      not_left e =
          let here = last_is_head p (Place.bucket Table.Old b) us e in
          subst (λ (ns : List ℕ). In x ns)
          (linked_empty entries s.capacity (head_at s current other p) (us ++ x ∷ vs) from_linked
          (ap (head_at s current other) (sym here) ∙ shape.passed_empty b l))
          (in_middle x us vs)

  -- the state

  none_new : s.rehashing ≡ false → used Table.New ≡ 0
  unfolding sum size_of
  none_new e =
      count_after Table.New
      ∙ ap (sum (λ b. length (relinked_at (Place.bucket Table.New b)))) ((facts shape).resting e).no_size

  state_after : sound_state (length m'.current) (length m'.other) (length m'.entries)
      (recounted s m'.free used) ≡ true
  unfolding Live read memory recounted state_of size_of buckets_in buckets_of
  state_after =
      let before = facts shape in
      let lengths = r.cells.lengths in
      sound_again (recounted s m'.free used) m'.current m'.other m'.entries before refl lengths.entries_length
      before.old_legal (omega (arith, before.old_fits, lengths.buckets_length Table.Old))
      (omega (arith, free_count_after))
      (linked_head m'.entries s.capacity m'.free (relinked_at Place.free) (chain_after Place.free tt))
      before.iterators_fit
      (λ e.
      let rehash = before.rehashing e in
      record {
        new_legal = rehash.new_legal;
        new_fits = omega (arith, rehash.new_fits, lengths.buckets_length Table.New);
        sizes_differ = rehash.sizes_differ;
        index_fits = rehash.index_fits;
      })
      (λ e. record { no_size = (before.resting e).no_size; no_keys = none_new e; no_index = (before.resting e).no_index })

  same_sizes : (t : Table) → size_of (recounted s m'.free used) t ≡ size_of s t
  unfolding recounted state_of size_of
  same_sizes Table.Old = refl
  same_sizes Table.New = refl

  counts_kept : (t : Table)
      → used_of (recounted s m'.free used) t
      ≡ sum (λ b. length (relinked_at (Place.bucket t b))) (size_of (recounted s m'.free used) t)
  unfolding recounted state_of size_of used_of
  counts_kept Table.Old = count_after Table.Old
  counts_kept Table.New = count_after Table.New

  -- the shape afterwards
  relinked_shape : Shape (recounted s m'.free used) m'.current m'.other m'.entries
  unfolding recounted state_of used_of size_of
  relinked_shape =
      let s' = recounted s m'.free used in
      let sizes : (t : Table) → size_of s' t ≡ size_of s t = same_sizes in
      let sizes' : (t : Table) → size_of s t ≡ size_of s' t = λ t. sym (same_sizes t) in
      record {
        state_sound = state_after;
        at = relinked_at;
        linked =
            λ t l.
            subst (λ (k : ℕ). Linked m'.entries s.capacity k (relinked_at t)) (head_after t)
            (chain_after t (live_kept s' s sizes' t l));
        owner = relinked_owner;
        owned =
            λ n h k.
            let (live, there) = owned_after n h k in (live_kept s s' sizes (relinked_owner n) live, there);
        owns = λ n t l. owns_after n t (live_kept s' s sizes' t l);
        home =
            λ n t l i.
            home_kept s s' sizes (key_of m'.entries n) t (home_after n t (live_kept s' s sizes' t l) i);
        keys_distinct =
            λ n k t u l l'. keys_after_lem n k t u (live_kept s' s sizes' t l) (live_kept s' s sizes' u l');
        passed_empty = passed_after;
        counts = counts_kept;
        free_count = free_count_after;
      }

  left_there : relinked_at p ≡ us ++ vs
  unfolding relinked_at chosen
  left_there = go (same p p) (same p q)
    where
      go : (d : Dec (p ≡ p)) (d' : Dec (p ≡ q)) → chosen d d' (us ++ vs) (x ∷ shape.at q) (shape.at p) ≡ us ++ vs
      go (yes e) d' = refl
      go (no d) d' = absurd (d refl)

  -- The theorem: the memory has a shape, and who is where in it.
  pub relink : (shape' : Shape (recounted s m'.free used) m'.current m'.other m'.entries)
      × Moved s shape.at shape'.at p q x us vs
  unfolding relinked_shape
  relink = (
    relinked_shape,
    record {
      left = left_there;
      gone = λ i. taken_out x x us vs no_repeats i refl;
      there = pushed_there;
      before = member_before;
      after = member_after;
    },
  )
