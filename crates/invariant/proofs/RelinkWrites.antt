-- The writes of a relink: the cell before entry x gets its link, its link gets the head of place q, and that head gets x.
-- From them, what the theorem of Relink asks of heads and links.
-- Assumes nothing.
use Prim.Native.Nat.{ℕ, ◌<◌, ◌≤◌}
use mathlib.Core.Path.{◌≡◌, refl, sym, subst, ◌∙◌}
use mathlib.Core.Logic.{inl}
use mathlib.Core.List.{List, [], ◌∷◌, ◌++◌}
use native.Mathlib.Omega.{arith}
use Rattle.cursor.specs.Member.{Distinct, In}
use Rattle.model.specs.declared.State.{State}
use Rattle.model.specs.Memory.{Place, Live, key_of, value_of, set_key, set_value}
use Rattle.model.proofs.Fields.{length_set_key, length_set_value, key_set_same, value_set_same, key_set_other, value_set_other, link_set_key, link_set_value, key_set_value, value_set_key}
use Rattle.model.proofs.Lists.{in_left, parts_apart, in_middle}
use Rattle.invariant.proofs.Shape.{Shape, facts}
use Rattle.invariant.proofs.Places.{table_fits}
use Rattle.invariant.proofs.LinkedChains.{shape_distinct, shape_range}
use Rattle.invariant.proofs.Cells.{Memory, Cell, memory, buckets_in, read, write, Inside, SameLengths, read_write_same, read_write_other, write_lengths, write_keeps}
use Rattle.invariant.proofs.Relink.{last_cell, last_link, not_head, last_is_link, last_is_head, Rewired}

-- the memory once x, behind the cell c, is at the head of q
unfoldable pub rewired : Memory → Cell → Place → ℕ → Memory
rewired m c q x =
    write (write (write m c (read m (Cell.link x))) (Cell.link x) (read m (Cell.head q))) (Cell.head q) x

-- the same with the key and the value of x written besides
unfoldable pub rekeyed : Memory → ℕ → ℕ → ℕ → Memory
rekeyed m x key value =
    record {
      free = m.free;
      current = m.current;
      other = m.other;
      entries = set_value (set_key m.entries x key) x value;
    }

same_lengths : {m m' m'' : Memory} → SameLengths m m' → SameLengths m' m'' → SameLengths m m''
same_lengths h k =
    record {
      buckets_length = λ t. k.buckets_length t ∙ h.buckets_length t;
      entries_length = k.entries_length ∙ h.entries_length;
    }

pub inside_after : (m m' : Memory) → SameLengths m m' → (c : Cell) → Inside m c → Inside m' c
unfolding Inside
inside_after m m' h (Cell.head Place.free) i = i
inside_after m m' h (Cell.head (Place.bucket t b)) i = omega (arith, h.buckets_length t)
inside_after m m' h (Cell.link n) i = omega arith

-- A relink keeps every key and value, and a write of those of x keeps heads and links, and those of every other entry.

pub rewired_keeps : (m : Memory) (c : Cell) (q : Place) (x n : ℕ)
    → (key_of (rewired m c q x).entries n ≡ key_of m.entries n) × (value_of (rewired m c q x).entries n ≡ value_of m.entries n)
unfolding rewired
rewired_keeps m c q x n =
    let a = write m c (read m (Cell.link x)) in
    let b = write a (Cell.link x) (read m (Cell.head q)) in
    let (k, v) = write_keeps m c (read m (Cell.link x)) n in
    let (k', v') = write_keeps a (Cell.link x) (read m (Cell.head q)) n in
    let (k'', v'') = write_keeps b (Cell.head q) x n in
    (k'' ∙ k' ∙ k, v'' ∙ v' ∙ v)

module _ (m : Memory) (x key value : ℕ) where
  rekeyed_read : (c : Cell) → read (rekeyed m x key value) c ≡ read m c
  unfolding read rekeyed buckets_in
  rekeyed_read (Cell.head Place.free) = refl
  rekeyed_read (Cell.head (Place.bucket t b)) = refl
  rekeyed_read (Cell.link n) =
      link_set_value (set_key m.entries x key) x n value ∙ link_set_key m.entries x n key

  rekeyed_lengths : SameLengths m (rekeyed m x key value)
  unfolding rekeyed buckets_in
  rekeyed_lengths =
      record {
        buckets_length = λ t. refl;
        entries_length = length_set_value (set_key m.entries x key) x value ∙ length_set_key m.entries x key;
      }

  pub rekeyed_key : Inside m (Cell.link x) → key_of (rekeyed m x key value).entries x ≡ key
  unfolding Inside rekeyed
  rekeyed_key h =
      key_set_value (set_key m.entries x key) x x value ∙ key_set_same m.entries x key h.0 h.1

  pub rekeyed_value : Inside m (Cell.link x) → value_of (rekeyed m x key value).entries x ≡ value
  unfolding Inside rekeyed
  rekeyed_value h =
      value_set_same (set_key m.entries x key) x value h.0 (omega (arith, h.1, length_set_key m.entries x key))

  pub rekeyed_key_other : (n : ℕ) → (n ≡ x → ⊥) → key_of (rekeyed m x key value).entries n ≡ key_of m.entries n
  unfolding rekeyed
  rekeyed_key_other n d =
      key_set_value (set_key m.entries x key) x n value ∙ key_set_other m.entries x n key d

  pub rekeyed_value_other : (n : ℕ) → (n ≡ x → ⊥) → value_of (rekeyed m x key value).entries n ≡ value_of m.entries n
  unfolding rekeyed
  rekeyed_value_other n d =
      value_set_other (set_key m.entries x key) x n value d ∙ value_set_key m.entries x n key

-- three different cells, each inside its buffer
rewired_cells : (m : Memory) (c : Cell) (q : Place) (x : ℕ)
    → (c ≡ Cell.head q → ⊥) → (c ≡ Cell.link x → ⊥) → Inside m c → Inside m (Cell.head q) → Inside m (Cell.link x)
    → Rewired m (rewired m c q x) c q x
unfolding rewired
rewired_cells m c q x to_head its_link in_c in_q in_x =
    let a = write m c (read m (Cell.link x)) in
    let b = write a (Cell.link x) (read m (Cell.head q)) in
    let la : SameLengths m a = write_lengths m c (read m (Cell.link x)) in
    let lb : SameLengths m b = same_lengths la (write_lengths a (Cell.link x) (read m (Cell.head q))) in
    record {
      unlinked =
          read_write_other b (Cell.head q) c x to_head
          ∙ read_write_other a (Cell.link x) c (read m (Cell.head q)) its_link
          ∙ read_write_same m c (read m (Cell.link x)) in_c;
      pushed = read_write_same b (Cell.head q) x (inside_after m b lb (Cell.head q) in_q);
      pushed_link =
          read_write_other b (Cell.head q) (Cell.link x) x (not_head x q)
          ∙ read_write_same a (Cell.link x) (read m (Cell.head q)) (inside_after m a la (Cell.link x) in_x);
      kept =
          λ d last head link.
          read_write_other b (Cell.head q) d x head
          ∙ read_write_other a (Cell.link x) d (read m (Cell.head q)) link
          ∙ read_write_other m c d (read m (Cell.link x)) last;
      lengths = same_lengths lb (write_lengths b (Cell.head q) x);
    }

pub rekeyed_cells : (m m' : Memory) (c : Cell) (q : Place) (x key value : ℕ) → Rewired m m' c q x
    → Rewired m (rekeyed m' x key value) c q x
rekeyed_cells m m' c q x key value h =
    record {
      unlinked = rekeyed_read m' x key value c ∙ h.unlinked;
      pushed = rekeyed_read m' x key value (Cell.head q) ∙ h.pushed;
      pushed_link = rekeyed_read m' x key value (Cell.link x) ∙ h.pushed_link;
      kept = λ d last head link. rekeyed_read m' x key value d ∙ h.kept d last head link;
      lengths = same_lengths h.lengths (rekeyed_lengths m' x key value);
    }

-- The cells of a store with a shape are inside its buffers.

module _ {s : State} {current other entries : List ℕ} (shape : Shape s current other entries) where
  head_inside : (p : Place) → Live s p → Inside (memory s current other entries) (Cell.head p)
  unfolding Inside memory buckets_in Live
  head_inside Place.free l = tt
  head_inside (Place.bucket t b) l = table_fits shape t b l

  pub link_inside : (n : ℕ) → 0 < n → n ≤ s.capacity → Inside (memory s current other entries) (Cell.link n)
  unfolding Inside memory
  link_inside n h k = let f = (facts shape).entries_fit in omega arith

  module _ (p q : Place) (x : ℕ) (us vs : List ℕ) (chain : shape.at p ≡ us ++ x ∷ vs) (from_live : Live s p)
      (to_live : Live s q) (apart : p ≡ q → ⊥) where
    listed_in_range : (n : ℕ) → In n (us ++ x ∷ vs) → (0 < n) × (n ≤ s.capacity)
    listed_in_range n i = shape_range shape p from_live n (subst (λ (ns : List ℕ). In n ns) (sym chain) i)

    last_inside : (ws : List ℕ) → ((w : ℕ) → In w ws → In w us)
        → Inside (memory s current other entries) (last_cell (Cell.head p) ws)
    unfolding last_cell
    last_inside [] sub = head_inside p from_live
    last_inside (w ∷ ws) sub =
        let (k, i, e) = last_link w ws in
        let range = listed_in_range k (in_left k us (x ∷ vs) (sub k i)) in
        subst (λ (c : Cell). Inside (memory s current other entries) c) (sym e) (link_inside k range.0 range.1)

    -- the writes of a relink in such a store
    pub shape_rewired : Rewired (memory s current other entries)
        (rewired (memory s current other entries) (last_cell (Cell.head p) us) q x) (last_cell (Cell.head p) us) q x
    shape_rewired =
        let range = listed_in_range x (in_middle x us vs) in
        rewired_cells (memory s current other entries) (last_cell (Cell.head p) us) q x
        (λ e. apart (sym (last_is_head p q us (sym e))))
        (λ e. parts_apart x us (x ∷ vs)
        (subst (λ (ns : List ℕ). Distinct ns) chain (shape_distinct shape p from_live))
        (last_is_link p us x (sym e)) (inl refl))
        (last_inside us (λ w i. i)) (head_inside q to_live) (link_inside x range.0 range.1)
