-- What a rehash step reads of a chain, and what moving it does to a table's chains.
use Rattle.std.specs.Prelude.{ℕ, ◌+◌, ◌≤◌, ◌≡◌, List, length}
use Rattle.std.proofs.Math.Option.{Option, some}
use Rattle.model.specs.declared.State.{State}
use Rattle.model.specs.Keys.{bucket_of}
use Rattle.model.specs.Memory.{link_of, key_of}
use Rattle.model.specs.Calls.{Chains, push, moved}
use Rattle.model.proofs.Linked.{Linked, room}
use Rattle.memory.specs.Length.{bucket_chain}

-- so many keys may leave the old table for the new one: both counts stay in range
abbrev pub step_room : State → ℕ → Type 0
step_room s count = (count ≤ s.old_used) × (s.new_used + count ≤ s.capacity)

-- the chain of bucket b of the old table
abbrev pub old_chain : State → List ℕ → List ℕ → ℕ → Option (List ℕ)
old_chain s current entries b = bucket_chain s.old_size entries s.capacity s.old_used current b

-- it was read, and has that many entries
pub record OldChain (s : State) (current entries : List ℕ) (b count : ℕ) : Type 0 where
  pub ns : List ℕ
  pub read : old_chain s current entries b ≡ some ns
  pub counted : length ns ≡ count

abbrev pub chains : List ℕ → List ℕ → Chains
chains buckets entries = record { buckets = buckets; entries = entries }

-- once an entry stands at the head of its bucket in a table of that size: the next entry of the chain that it left, and
-- the table's chains
pub record EntryMoved (size n next : ℕ) (before after : Chains) : Type 0 where
  pub link : next ≡ link_of before.entries n
  pub pushed : after ≡ push (bucket_of (key_of before.entries n) size) n before

-- from this head there is a chain of that many entries, each in the entry buffer
pub record ChainOf (entries : List ℕ) (head count : ℕ) : Type 0 where
  pub ns : List ℕ
  pub linked : Linked entries (room entries) head ns
  pub counted : length ns ≡ count

-- once the chain from this head has moved
pub record ChainMoved (size head : ℕ) (before after : Chains) : Type 0 where
  pub each : (ns : List ℕ) → Linked before.entries (room before.entries) head ns → after ≡ moved size ns before
