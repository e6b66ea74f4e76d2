-- What a call on a sound state reads, and its two tables in the order of a group.
use Rattle.std.specs.Prelude.{ℕ, ◌+◌, ◌<◌, ◌≤◌, ◌≡◌, ◌≢◌, true, false, List, slice_index, if◌then◌else◌, MatchOption}
use Rattle.model.specs.declared.State.{State}
use Rattle.model.specs.Keys.{bucket_of}
use Rattle.scan_group.specs.declared.lent.Entries.{Entries}
use Rattle.scan_group.specs.declared.lent.LiveTable.{LiveTable}
use Rattle.scan_group.specs.declared.lent.LiveChain.{LiveChain}
use Rattle.scan_group.specs.declared.lent.Lent.{Lent}
use Rattle.scan_group.specs.declared.lent.Group.{Group}

-- the table of that size with so many keys, in that buffer
pub record IsTable (buckets : List ℕ) (size used : ℕ) (t : LiveTable) : Type 0 where
  pub buckets_are : t.buckets.now ≡ buckets
  pub size_is : t.size ≡ size
  pub used_is : t.used ≡ used

-- the chain of bucket b of that table
abbrev pub IsChain : LiveTable → ℕ → LiveChain → Type 0
IsChain t b c = (c.head ≡ slice_index t.buckets.now b) × (c.size ≡ t.size) × (c.used ≡ t.used)

-- the new table during a rehash
pub record IsNew (s : State) (other : List ℕ) (t : LiveTable) : Type 0 where
  pub rehashing : s.rehashing ≡ true
  pub is_table : IsTable other s.new_size s.new_used t
  pub sizes_differ : s.old_size ≢ s.new_size

pub record Reads (s : State) (first second entries : List ℕ) (l : Lent) : Type 0 where
  pub fields_are : l.entries.fields.now ≡ entries
  pub capacity_is : l.entries.capacity ≡ s.capacity
  pub old_is : IsTable (if s.second_is_current then second else first) s.old_size s.old_used l.old
  pub new_is : MatchOption l.new (s.rehashing ≡ false)
      (λ t. IsNew s (if s.second_is_current then first else second) t)
  pub keys_fit : s.old_used + s.new_used ≤ s.capacity

-- the smaller one first, by its chain
pub record InOrder (e : Entries) (old new : LiveTable) (cursor : ℕ) (g : Group) : Type 0 where
  pub entries_are : g.entries ≡ e
  pub cursor_is : g.cursor ≡ cursor
  pub old_smaller : old.size < new.size → IsChain old (bucket_of cursor old.size) g.small × (g.large ≡ new)
  pub new_smaller : new.size < old.size → IsChain new (bucket_of cursor new.size) g.small × (g.large ≡ old)
