-- A bucket's chain over numbers, and how long a chain is, as the code answers it.
use Rattle.std.specs.Prelude.{ℕ, List, length, slice_index, Result, Ok, Err}
use Rattle.std.proofs.Math.Option.{Option, none, some}
use Rattle.model.specs.Memory.{chain, in_bucket}
use Rattle.model.specs.declared.Error.{Error}

-- that of bucket b of a table: its size, the keys that it holds, its buckets
abbrev pub bucket_chain : ℕ → List ℕ → ℕ → ℕ → List ℕ → ℕ → Option (List ℕ)
bucket_chain size entries capacity used buckets b = chain (in_bucket size b) entries capacity used (slice_index buckets b)

unfoldable pub length_of : Option (List ℕ) → Result ℕ Error
length_of none = Err Error.Damaged
length_of (some ns) = Ok (length ns)
