-- What the code reads before a step, and what it tells of the memory after it.
use Rattle.std.specs.Prelude.{ℕ, ◌+◌, ◌<◌, ◌≡◌, Bool, true, false, cond, ◌||◌, List, [], ◌∷◌, length, get_or, eqb, Result, Ok, Err, Some, None}
use Rattle.std.proofs.Math.Option.{Option, none, some}
use mir.Val.{bool_byte}
use Rattle.model.specs.declared.State.{State}
use Rattle.model.specs.declared.Table.{Table}
use Rattle.model.specs.declared.Error.{Error}
use Rattle.model.specs.Keys.{bucket_of}
use Rattle.model.specs.Memory.{key_of, in_bucket, last_or}
use Rattle.model.proofs.Soundness.{Sound}
use Rattle.memory.specs.Length.{bucket_chain}
use Rattle.search.specs.Found.{Found}
use Rattle.search.specs.Tables.{searched_in}
use Rattle.after_step.specs.declared.presence.Survey.{Survey}
use Rattle.after_step.specs.Presence.{presence}

-- One pass over a chain. `bool_byte` is 1 of true and 0 of false.

-- whether the entry's key is of bucket c of a table of that size
abbrev pub of_bucket : ℕ → ℕ → List ℕ → ℕ → Bool
of_bucket size c entries n = in_bucket size c (key_of entries n)

unfoldable pub how_many : (ℕ → Bool) → List ℕ → ℕ
how_many test [] = 0
how_many test (n ∷ ns) = bool_byte (test n) + how_many test ns

-- whether one of these entries has the key
unfoldable pub has : List ℕ → ℕ → List ℕ → Bool
has entries key [] = false
has entries key (n ∷ ns) = eqb (key_of entries n) key || has entries key ns

-- whether entry n is one of these
unfoldable pub among : ℕ → List ℕ → Bool
among n [] = false
among n (m ∷ ms) = eqb m n || among n ms

unfoldable pub surveyed : List ℕ → (size c key n : ℕ) → Option (List ℕ) → Result Survey Error
surveyed entries size c key n none = Err Error.Damaged
surveyed entries size c key n (some ns) =
    Ok
    (record {
      count = length ns;
      last = last_or 0 ns;
      joining = how_many (of_bucket size c entries) ns;
      held = has entries key ns;
      meets = among n ns;
    })

-- Whether a key is held.

abbrev pub found_presence : Found → Result Bool Error
found_presence (Err e) = Err e
found_presence (Ok None) = Ok false
found_presence (Ok (Some n)) = Ok true

-- in two tables: neither may be damaged
abbrev pub either : Result Bool Error → Result Bool Error → Result Bool Error
either (Err e) b = Err e
either (Ok false) b = b
either (Ok true) (Err e) = Err e
either (Ok true) (Ok held) = Ok true

-- in the new table, from the key's chain there as it is: the chain that moves ends in `last`, and has the key or not. A
-- chain that ends in the same entry shares entries with it, and will not be sound.
unfoldable pub new_then : List ℕ → ℕ → ℕ → Bool → Option (List ℕ) → Result Bool Error
new_then entries key last moves none = Err Error.Damaged
new_then entries key last moves (some ns) =
    cond (eqb (last_or 0 ns) last) (Err Error.Damaged) (Ok (moves || has entries key ns))

-- in the old table, once the chain of bucket b has left it, and so many keys are left: with none the table is gone, and
-- bucket b is empty
unfoldable pub old_then : List ℕ → ℕ → ℕ → List ℕ → ℕ → ℕ → ℕ → Result Bool Error
old_then entries capacity left buckets size b key =
    cond (eqb left 0 || in_bucket size b key) (Ok false) (presence (searched_in entries capacity left buckets size key Table.Old))

-- in both
unfoldable pub tables_then : State → List ℕ → List ℕ → List ℕ → ℕ → ℕ → ℕ → ℕ → ℕ → Bool → Result Bool Error
tables_then s current other entries b key left budget last moves =
    either (old_then entries s.capacity left current s.old_size b key)
    (new_then entries key last moves (bucket_chain s.new_size entries s.capacity budget other (bucket_of key s.new_size)))

-- what is asked where the chain of bucket b moves: a sound state during a rehash, and a filled bucket of the old table
pub record Moves (s : State) (current other entries : List ℕ) (b : ℕ) : Type 0 where
  pub sound : Sound s (length current) (length other) (length entries)
  pub rehashing : s.rehashing ≡ true
  pub below : b < s.old_size
  pub filled : 0 < get_or current b 0
