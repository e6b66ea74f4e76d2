-- The parts of the check over numbers, as the code reaches them, and what reading a table asks.
use Rattle.std.specs.Prelude.{ℕ, ◌*◌, ◌≤◌, ◌<◌, ◌≡◌, Bool, true, ◌&&◌, cond, List, [], ◌∷◌, length, eqb, Some, Result, Ok, Err}
use Rattle.std.specs.Prelude as Prelude
use Rattle.std.proofs.Math.Option.{Option, none, some}
use Rattle.model.specs.Limits.{legal_size}
use Rattle.model.specs.Memory.{listed, sum, last_or}
use Rattle.memory.specs.Length.{bucket_chain}
use Rattle.model.specs.Verify.{all_sound}
use Rattle.model.specs.declared.State.{State}
use Rattle.model.specs.declared.Error.{Error}
use Rattle.search.specs.Tables.{Readable}

-- a table, or none: its size, the length of its buffer, the capacity, the length of the entry buffer
pub record Tabled (size buckets capacity entries : ℕ) : Type 0 where
  pub size_legal : (b : ℕ) → b < size → legal_size size ≡ true
  pub buckets_fit : size ≤ buckets
  pub entries_fit : capacity * 3 ≤ entries

-- its chains are sound, and together as long as its count says
unfoldable pub table_checked : List ℕ → ℕ → ℕ → List ℕ → ℕ → Bool
table_checked entries capacity used buckets size =
    all_sound (bucket_chain size entries capacity used buckets) size
    && eqb used (sum (λ b. length (listed (bucket_chain size entries capacity used buckets b))) size)

-- the last of a list's entries, and that named of an empty one
unfoldable pub last_of : Prelude.Option ℕ → List ℕ → Prelude.Option ℕ
last_of last [] = last
last_of last (n ∷ ns) = Some (last_or n ns)

-- the last entry of a chain that is sound and has just so many
unfoldable pub end_from : Prelude.Option ℕ → ℕ → Option (List ℕ) → Result (Prelude.Option ℕ) Error
end_from last count none = Err Error.Damaged
end_from last count (some ns) = cond (eqb (length ns) count) (Ok (last_of last ns)) (Err Error.Damaged)

-- the live tables can be searched: the lengths of the two buffers, and of the entry buffer
pub record Searchable (s : State) (current other entries : ℕ) : Type 0 where
  pub old_readable : Readable s.old_size current s.capacity entries
  pub new_readable : s.rehashing ≡ true → Readable s.new_size other s.capacity entries
