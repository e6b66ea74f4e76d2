-- A lookup as the code reaches it: in one table by its numbers, and on the lent buffers; and what reading a table asks.
use Rattle.std.specs.Prelude.{ℕ, ◌*◌, ◌≤◌, ◌≡◌, true, List}
use Rattle.model.specs.declared.State.{State}
use Rattle.model.specs.declared.Table.{Table}
use Rattle.model.specs.declared.Lookup.{Lookup}
use Rattle.model.specs.Keys.{bucket_of}
use Rattle.model.specs.Limits.{legal_size}
use Rattle.model.specs.Calls.{oriented, searched, lookup}
use Rattle.memory.specs.Length.{bucket_chain}

-- the key's chain in a table with that many keys, those buckets and that size
unfoldable pub searched_in : List ℕ → ℕ → ℕ → List ℕ → ℕ → ℕ → Table → Lookup
searched_in entries capacity used buckets size key t =
    searched entries key t 0 (bucket_chain size entries capacity used buckets (bucket_of key size))

unfoldable pub lookup_lent : State → List ℕ → List ℕ → List ℕ → ℕ → Lookup
lookup_lent s first second entries key =
    oriented s.second_is_current (λ current other. lookup s current other entries key) first second

-- a table's size, the length of its buffer, the capacity, the length of the entry buffer
pub record Readable (size buckets capacity entries : ℕ) : Type 0 where
  pub size_legal : legal_size size ≡ true
  pub buckets_fit : size ≤ buckets
  pub entries_fit : capacity * 3 ≤ entries
