-- SPECIFICATION, "Passes": the iterators. Their places, what a call hands out, and how each kind begins and ends.
use Rattle.std.specs.Prelude.{ℕ, zero, suc, ◌+◌, ◌-◌, Bool, not, cond, List, [], ◌∷◌, ltb, eqb, Result, Ok, Err}
use Rattle.std.proofs.Math.Option.{Option, none, some}
use Rattle.fingerprint.specs.Mix.{fingerprint}
use Rattle.model.specs.declared.State.{State}
use Rattle.model.specs.declared.Table.{Table}
use Rattle.model.specs.declared.Error.{Error}
use Rattle.model.specs.Limits.{most_safe_iterators}
use Rattle.model.specs.Memory.{Place, size_of, used_of, head_at, chain_at}
use Rattle.model.specs.Calls.{reading, noted}
use Rattle.model.specs.Walk.{Tables, tables_of, AfterScan, scanned}
use Rattle.model.specs.declared.ScanError.{ScanError}

-- A place is a bucket as one number: those of the old table, or the only one, from 0, then those of the new one.

unfoldable pub bucket_at : Tables → ℕ → Place
bucket_at (Tables.one size) n = Place.bucket Table.Old n
bucket_at (Tables.two old new) n = cond (ltb n old) (Place.bucket Table.Old n) (Place.bucket Table.New (n - old))

-- the place past the last bucket
unfoldable pub end_place : Tables → ℕ
end_place (Tables.one size) = size
end_place (Tables.two old new) = old + new

-- the first of so many numbers, from n on, that passes a test
unfoldable pub first_from : (ℕ → Bool) → ℕ → ℕ → Option ℕ
first_from test n zero = none
first_from test n (suc left) = cond (test n) (some n) (first_from test (suc n) left)

-- the first place from one on, before the end, that passes a test; from the end on, and so from a forged place, there is none
unfoldable pub first_place : (ℕ → Bool) → Tables → ℕ → Option ℕ
first_place test tables place = first_from test place (end_place tables - place)

unfoldable pub filled : State → List ℕ → List ℕ → ℕ → Bool
filled s current other n = not (eqb (head_at s current other (bucket_at (tables_of s) n)) 0)

-- the whole chain of that bucket, and the place behind it; with none left nothing, and the end
unfoldable pub handed : State → List ℕ → List ℕ → List ℕ → List ℕ → Option ℕ → AfterScan
handed s current other entries lent none = AfterScan.after (Ok ((end_place (tables_of s)), 0)) lent
handed s current other entries lent (some n) =
    scanned entries lent (suc n) (chain_at s current other entries (bucket_at (tables_of s) n))

unfoldable pub iterate : State → List ℕ → List ℕ → List ℕ → List ℕ → ℕ → AfterScan
iterate s first second entries lent place =
    reading s first second entries (AfterScan.after (Err (ScanError.Refused Error.BadState)) lent)
    (λ current other. handed s current other entries lent (first_place (filled s current other) (tables_of s) place))

-- An iterator keeps the fingerprint of six numbers from its begin on: for each table the number of its buffer, 0 for the
-- first, its size and the keys that it holds. With no rehash the other table has size 0 and no keys.

unfoldable pub buffer_number : Bool → ℕ
buffer_number second = cond second 1 0

unfoldable pub numbers_of : Bool → (Table → ℕ) → (Table → ℕ) → List ℕ
numbers_of second size used =
    buffer_number second
    ∷ size Table.Old
    ∷ used Table.Old
    ∷ buffer_number (not second)
    ∷ size Table.New
    ∷ used Table.New
    ∷ []

unfoldable pub fingerprint_of : State → ℕ
fingerprint_of s = fingerprint (numbers_of s.second_is_current (size_of s) (used_of s))

unfoldable pub begin_iterator : State → List ℕ → List ℕ → List ℕ → Result ℕ Error
begin_iterator s first second entries =
    reading s first second entries (Err Error.BadState) (λ current other. Ok (fingerprint_of s))

unfoldable pub end_iterator : State → List ℕ → List ℕ → List ℕ → ℕ → Result (Unit {0}) Error
end_iterator s first second entries begun =
    reading s first second entries (Err Error.BadState)
    (λ current other. cond (eqb begun (fingerprint_of s)) (Ok tt) (Err Error.Changed))

-- A safe iterator is counted in the state from its begin to its end.

unfoldable pub one_more : State → Result State Error
one_more s =
    cond (ltb s.safe_iterators most_safe_iterators)
    (Ok (noted s s.resize_allowed (s.safe_iterators + 1)))
    (Err Error.TooManyIterators)

unfoldable pub begin_safe : State → List ℕ → List ℕ → List ℕ → Result State Error
begin_safe s first second entries =
    reading s first second entries (Err Error.BadState) (λ current other. one_more s)

unfoldable pub one_fewer : State → ℕ → Result State Error
one_fewer s zero = Err Error.NoSafeIterator
one_fewer s (suc iterators) = Ok (noted s s.resize_allowed iterators)

unfoldable pub end_safe : State → List ℕ → List ℕ → List ℕ → Result State Error
end_safe s first second entries =
    reading s first second entries (Err Error.BadState) (λ current other. one_fewer s s.safe_iterators)
