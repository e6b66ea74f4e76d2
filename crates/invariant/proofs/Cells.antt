-- The cells of a store's memory, each a place's head or an entry's link, and the laws of reading and writing them: a
-- write is read back where it was made, and every other cell keeps what it held. An entry's key and value likewise.
-- Assumes nothing.
use Prim.Native.Nat.{ℕ, ◌*◌, ◌<◌, ◌≤◌}
use mathlib.Core.Path.{◌≡◌, refl, ap}
use mathlib.Core.List.{List}
use lib.ListN.{length, get_or, set, length-set}
use lib.Seq.{get_or-set_same, get_or-set_other}
use Rattle.model.specs.declared.State.{State}
use Rattle.model.specs.declared.Table.{Table}
use Rattle.model.specs.Memory.{Place, head_at, buckets_of, link_of, key_of, value_of, set_link}
use Rattle.model.proofs.Fields.{length_set_link, link_set_same, key_set_link, value_set_link}
use Rattle.model.proofs.Linked.{link_set_other}

-- The memory that heads and links are in, and one cell of it.

pub record Memory : Type 0 where
  pub free : ℕ
  pub current : List ℕ
  pub other : List ℕ
  pub entries : List ℕ

pub data Cell : Type 0 where
  head : Place → Cell
  link : ℕ → Cell

unfoldable pub memory : State → List ℕ → List ℕ → List ℕ → Memory
memory s current other entries =
    record { free = s.free_head; current = current; other = other; entries = entries }

-- the buckets of a table
unfoldable pub buckets_in : Memory → Table → List ℕ
buckets_in m t = buckets_of m.current m.other t

unfoldable pub read : Memory → Cell → ℕ
read m (Cell.head Place.free) = m.free
read m (Cell.head (Place.bucket t b)) = get_or (buckets_in m t) b 0
read m (Cell.link n) = link_of m.entries n

unfoldable pub write : Memory → Cell → ℕ → Memory
write m (Cell.head Place.free) x = record { free = x; current = m.current; other = m.other; entries = m.entries }
write m (Cell.head (Place.bucket Table.Old b)) x =
    record { free = m.free; current = set m.current b x; other = m.other; entries = m.entries }
write m (Cell.head (Place.bucket Table.New b)) x =
    record { free = m.free; current = m.current; other = set m.other b x; entries = m.entries }
write m (Cell.link n) x =
    record { free = m.free; current = m.current; other = m.other; entries = set_link m.entries n x }

-- a cell inside its buffer
unfoldable pub Inside : Memory → Cell → Type 0
Inside m (Cell.head Place.free) = Unit {0}
Inside m (Cell.head (Place.bucket t b)) = b < length (buckets_in m t)
Inside m (Cell.link n) = (0 < n) × (n * 3 ≤ length m.entries)

-- buffers of the same lengths
pub record SameLengths (m m' : Memory) : Type 0 where
  pub buckets_length : (t : Table) → length (buckets_in m' t) ≡ length (buckets_in m t)
  pub entries_length : length m'.entries ≡ length m.entries

pub read_write_same : (m : Memory) (c : Cell) (x : ℕ) → Inside m c → read (write m c x) c ≡ x
unfolding read write Inside buckets_in buckets_of
read_write_same m (Cell.head Place.free) x h = refl
read_write_same m (Cell.head (Place.bucket Table.Old b)) x h = get_or-set_same m.current b x 0 h
read_write_same m (Cell.head (Place.bucket Table.New b)) x h = get_or-set_same m.other b x 0 h
read_write_same m (Cell.link n) x h = link_set_same m.entries n x h.0 h.1

pub read_write_other : (m : Memory) (c d : Cell) (x : ℕ) → (d ≡ c → ⊥) → read (write m c x) d ≡ read m d
unfolding read write buckets_in buckets_of
read_write_other m (Cell.head Place.free) (Cell.head Place.free) x h = absurd (h refl)
read_write_other m (Cell.head Place.free) (Cell.head (Place.bucket t a)) x h = refl
read_write_other m (Cell.head Place.free) (Cell.link k) x h = refl
read_write_other m (Cell.head (Place.bucket Table.Old b)) (Cell.head Place.free) x h = refl
read_write_other m (Cell.head (Place.bucket Table.Old b)) (Cell.head (Place.bucket Table.Old a)) x h =
    get_or-set_other m.current b a x 0 (λ e. h (ap (λ (i : ℕ). Cell.head (Place.bucket Table.Old i)) e))
read_write_other m (Cell.head (Place.bucket Table.Old b)) (Cell.head (Place.bucket Table.New a)) x h = refl
read_write_other m (Cell.head (Place.bucket Table.Old b)) (Cell.link k) x h = refl
read_write_other m (Cell.head (Place.bucket Table.New b)) (Cell.head Place.free) x h = refl
read_write_other m (Cell.head (Place.bucket Table.New b)) (Cell.head (Place.bucket Table.Old a)) x h = refl
read_write_other m (Cell.head (Place.bucket Table.New b)) (Cell.head (Place.bucket Table.New a)) x h =
    get_or-set_other m.other b a x 0 (λ e. h (ap (λ (i : ℕ). Cell.head (Place.bucket Table.New i)) e))
read_write_other m (Cell.head (Place.bucket Table.New b)) (Cell.link k) x h = refl
read_write_other m (Cell.link n) (Cell.head Place.free) x h = refl
read_write_other m (Cell.link n) (Cell.head (Place.bucket t b)) x h = refl
read_write_other m (Cell.link n) (Cell.link k) x h = link_set_other m.entries n k x (λ e. h (ap Cell.link e))

-- a write of a cell keeps lengths, keys and values

pub write_lengths : (m : Memory) (c : Cell) (x : ℕ) → SameLengths m (write m c x)
unfolding write buckets_in buckets_of
write_lengths m c x = record { buckets_length = λ t. buckets c t; entries_length = entries c }
  where
    buckets : (c : Cell) (t : Table) → length (buckets_in (write m c x) t) ≡ length (buckets_in m t)
    buckets (Cell.head Place.free) t = refl
    buckets (Cell.head (Place.bucket Table.Old b)) Table.Old = length-set m.current b x
    buckets (Cell.head (Place.bucket Table.Old b)) Table.New = refl
    buckets (Cell.head (Place.bucket Table.New b)) Table.Old = refl
    buckets (Cell.head (Place.bucket Table.New b)) Table.New = length-set m.other b x
    buckets (Cell.link n) t = refl

    entries : (c : Cell) → length (write m c x).entries ≡ length m.entries
    entries (Cell.head Place.free) = refl
    entries (Cell.head (Place.bucket Table.Old b)) = refl
    entries (Cell.head (Place.bucket Table.New b)) = refl
    entries (Cell.link n) = length_set_link m.entries n x

pub write_keeps : (m : Memory) (c : Cell) (x n : ℕ)
    → (key_of (write m c x).entries n ≡ key_of m.entries n) × (value_of (write m c x).entries n ≡ value_of m.entries n)
unfolding write
write_keeps m (Cell.head Place.free) x n = (refl, refl)
write_keeps m (Cell.head (Place.bucket Table.Old b)) x n = (refl, refl)
write_keeps m (Cell.head (Place.bucket Table.New b)) x n = (refl, refl)
write_keeps m (Cell.link k) x n = (key_set_link m.entries k n x, value_set_link m.entries k n x)

-- the heads and links that a shape speaks of

pub read_head : (s : State) (current other entries : List ℕ) (p : Place)
    → read (memory s current other entries) (Cell.head p) ≡ head_at s current other p
unfolding read memory head_at buckets_in
read_head s current other entries Place.free = refl
read_head s current other entries (Place.bucket t b) = refl
