-- SPECIFICATION, "Check and mend": the check. Whether a store whose state is sound is undamaged, as the code finds it out: no
-- entry is marked, but every entry looks up its own key. That it says yes exactly of an undamaged store is proved
-- (`verified_tells`, integrity).
use Rattle.std.specs.Prelude.{ℕ, zero, suc, ◌+◌, ◌-◌, Bool, true, false, ◌&&◌, not, cond, List, [], ◌∷◌, length, get_or, eqb, Result, Ok, Err}
use Rattle.std.proofs.Math.Option.{Option, none, some}
use Rattle.model.specs.declared.State.{State}
use Rattle.model.specs.declared.Table.{Table}
use Rattle.model.specs.declared.Error.{Error}
use Rattle.model.specs.declared.Lookup.{Lookup}
use Rattle.model.specs.Memory.{key_of, size_of, used_of, keys_held, Place, chain_at, entries_at, sum, last_or}
use Rattle.model.specs.Calls.{lookup, reading}

unfoldable pub is_sound : Option (List ℕ) → Bool
is_sound none = false
is_sound (some ns) = true

-- whether the first so many chains are sound
unfoldable pub all_sound : (ℕ → Option (List ℕ)) → ℕ → Bool
all_sound chain zero = true
all_sound chain (suc b) = all_sound chain b && is_sound (chain b)

-- a table's chains are sound, and together as long as its count says
unfoldable pub table_verified : State → List ℕ → List ℕ → List ℕ → Table → Bool
table_verified s current other entries t =
    all_sound (λ b. chain_at s current other entries (Place.bucket t b)) (size_of s t)
    && eqb (used_of s t) (sum (λ b. length (entries_at s current other entries (Place.bucket t b))) (size_of s t))

-- the first so many buckets are empty
unfoldable pub all_empty : List ℕ → ℕ → Bool
all_empty buckets zero = true
all_empty buckets (suc b) = all_empty buckets b && eqb (get_or buckets b 0) 0

unfoldable pub finds : ℕ → Lookup → Bool
finds n Lookup.Damaged = false
finds n Lookup.Absent = false
finds n (Lookup.At t before m) = eqb m n

-- the lookup of an entry's key finds that entry
unfoldable pub finds_itself : State → List ℕ → List ℕ → List ℕ → ℕ → Bool
finds_itself s current other entries n = finds n (lookup s current other entries (key_of entries n))

-- how many of the entries 1 to n pass a test
unfoldable pub counted : (ℕ → Bool) → ℕ → ℕ
counted test zero = 0
counted test (suc n) = counted test n + cond (test (suc n)) 1 0

-- the last of a list's entries does not pass a test
unfoldable pub last_fails : (ℕ → Bool) → List ℕ → Bool
last_fails test [] = true
last_fails test (n ∷ ns) = not (test (last_or n ns))

-- The free list is sound, has as many entries as are not held, and its last one does not find itself. Two sound chains that share
-- an entry end in the same one: so the free list shares none with a bucket.
unfoldable pub free_verified : (ℕ → Bool) → ℕ → Option (List ℕ) → Bool
free_verified test count none = false
free_verified test count (some ns) = eqb (length ns) count && last_fails test ns

unfoldable pub verified : State → List ℕ → List ℕ → List ℕ → Bool
verified s current other entries =
    table_verified s current other entries Table.Old
    && table_verified s current other entries Table.New
    && all_empty current s.rehash_index
    && free_verified (finds_itself s current other entries) (s.capacity - keys_held s) (chain_at s current other entries Place.free)
    && eqb (counted (finds_itself s current other entries) s.capacity) (keys_held s)

unfoldable pub verify : State → List ℕ → List ℕ → List ℕ → Result Bool Error
verify s first second entries =
    reading s first second entries (Err Error.BadState)
    (λ current other. Ok (verified s current other entries))
