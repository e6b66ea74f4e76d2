-- A store at one moment: its live tables by the state's flag, whether it is undamaged, and the pairs that it holds; and
-- which calls take a step first, and which growth may follow.
use Rattle.std.specs.Prelude.{ℕ, ◌<◌, ◌≡◌, Bool, true, false, List, length}
use Rattle.std.proofs.Math.Option.{some}
use Rattle.cursor.specs.Member.{In, Distinct}
use Rattle.model.specs.declared.Table.{Table}
use Rattle.model.specs.Memory.{Place, size_of, keys_held, entries_at, Undamaged, key_of, value_of}
use Rattle.model.specs.Calls.{oriented}
use Rattle.model.specs.Sequences.{World, KeyCall, PlainMap, keys_of, value_for}

-- the bucket buffer of the old table, or the only one, and the other
unfoldable pub current : World → List ℕ
current w = oriented w.state.second_is_current (λ first second. first) w.first w.second

unfoldable pub other : World → List ℕ
other w = oriented w.state.second_is_current (λ first second. second) w.first w.second

unfoldable pub UndamagedAt : World → Type 0
UndamagedAt w = Undamaged w.state (current w) (other w) w.entries

-- an entry in a bucket of a live table has the key and the value
pub record Held (w : World) (key value : ℕ) : Type 0 where
  pub entry : ℕ
  pub table : Table
  pub index : ℕ
  pub live : index < size_of w.state table
  pub there : In entry (entries_at w.state (current w) (other w) w.entries (Place.bucket table index))
  pub its_key : key_of w.entries entry ≡ key
  pub its_value : value_of w.entries entry ≡ value

-- the buckets hold the map's pairs, no more and no fewer, and no key has two pairs
pub record Holds (w : World) (m : PlainMap) : Type 0 where
  pub capacity : m.capacity ≡ w.state.capacity
  pub count : length m.pairs ≡ keys_held w.state
  pub distinct : Distinct (keys_of m.pairs)
  pub in_map : (key value : ℕ) → Held w key value → value_for key m.pairs ≡ some value
  pub in_store : (key value : ℕ) → value_for key m.pairs ≡ some value → Held w key value

-- if a rehash is under way, these calls take a step of it first
unfoldable pub takes_step : KeyCall → Bool
takes_step KeyCall.find = false
takes_step (KeyCall.update value) = false
takes_step (KeyCall.add value) = true
takes_step KeyCall.delete = true

-- if it leaves one table, growth may follow this call
unfoldable pub may_grow : KeyCall → Bool
may_grow KeyCall.find = false
may_grow (KeyCall.update value) = false
may_grow (KeyCall.add value) = true
may_grow KeyCall.delete = false
