-- What the statement on refusals excludes, each refuted at one call by computation.
-- Assumes nothing.
use Prim.Native.Nat.{ℕ, zero, suc}
use native.Mathlib.Omega.{arith}
use mathlib.Core.Path.{◌≡◌, refl, ap}
use mathlib.Core.Bool.{Bool, true, ◌&&◌}
use mathlib.Core.List.{List, [], ◌∷◌}
use lib.Dec.{leb}
use lib.ListN.{get_or, set}
use Rattle.model.proofs.Tests.{told, tells_le, tells_true, tells_and}
use Rattle.little_endian.specs.Words.{encode}
use Rattle.lent_bytes.specs.Exports.{Lent, Export}
use Rattle.export_laws.proofs.Computing.{exporting}
use Rattle.export_laws.specs.Cases.{nines, held_state}
use Rattle.export_laws.specs.Refusals.{Bytes, Slices, ListFor, Stays, Refusals}
use Rattle.export_laws.specs.WrongExports.{zeroed, rounded, clearing, clearing_first, altered}

all_bytes : List ℕ → Bool
all_bytes [] = true
all_bytes (b ∷ bs) = leb (suc b) 256 && all_bytes bs

bytes : (bs : List ℕ) → all_bytes bs ≡ true → Bytes bs
unfolding all_bytes
bytes [] h i = omega arith
bytes (b ∷ bs) h zero = (told (tells_and (tells_le (suc b) 256) (tells_true (all_bytes bs))) h).0
bytes (b ∷ bs) h (suc i) = bytes bs (told (tells_and (tells_le (suc b) 256) (tells_true (all_bytes bs))) h).1 i

-- the byte at an index of the state, of the first buffer, of the list
state_at : ℕ → Lent → ℕ
state_at i (Lent.lent state first second entries list answer) = get_or state i 0

first_at : ℕ → Lent → ℕ
first_at i (Lent.lent state first second entries list answer) = get_or first i 0

list_at : ℕ → Lent → ℕ
list_at i (Lent.lent state first second entries list answer) = get_or list i 0

-- a start with size 3 is refused with 6
pub zeroed_excluded : Refusals (altered zeroed) → ⊥
unfolding exporting nines zeroed altered Stays ListFor all_bytes state_at
zeroed_excluded r =
    let b : Slices (nines 44) [] [] [] [] =
    record {
      state_has_bytes = bytes (nines 44) refl;
      first_bytes = bytes [] refl;
      second_bytes = bytes [] refl;
      entries_bytes = bytes [] refl;
      list_bytes = bytes [] refl;
    } in
    let e = ap (state_at 0) (r (Export.init 1 3) (nines 44) [] [] [] [] (nines 8) b refl (λ z. omega arith)) in
    omega arith

-- the store that holds key 7, with any bytes for its state and its list
held_first : List ℕ
held_first = 1 ∷ 0 ∷ 0 ∷ 0 ∷ []

held_entries : List ℕ
held_entries = encode (0 ∷ 7 ∷ 513 ∷ [])

held_bytes : (state list : List ℕ) → all_bytes state ≡ true → all_bytes list ≡ true → Slices state held_first [] held_entries list
unfolding exporting held_first held_entries all_bytes
held_bytes state list s l =
    record {
      state_has_bytes = bytes state s;
      first_bytes = bytes held_first refl;
      second_bytes = bytes [] refl;
      entries_bytes = bytes held_entries refl;
      list_bytes = bytes list l;
    }

-- a find in a state with a flag of 2
abbrev flagged : List ℕ
flagged = set held_state 0 2

pub rounded_excluded : Refusals (altered rounded) → ⊥
unfolding exporting nines held_state held_first held_entries rounded altered Stays ListFor all_bytes state_at
rounded_excluded r =
    let b : Slices flagged held_first [] held_entries [] = held_bytes flagged [] refl refl in
    let e = ap (state_at 0) (r (Export.find 7) flagged held_first [] held_entries [] (nines 8) b refl (λ z. omega arith)) in
    omega arith

pub clearing_first_excluded : Refusals (altered clearing_first) → ⊥
unfolding exporting nines held_state held_first held_entries clearing_first altered Stays ListFor all_bytes first_at
clearing_first_excluded r =
    let b : Slices flagged held_first [] held_entries [] = held_bytes flagged [] refl refl in
    let e = ap (first_at 0) (r (Export.find 7) flagged held_first [] held_entries [] (nines 8) b refl (λ z. omega arith)) in
    omega arith

-- a walk call with a list of one number
pub clearing_excluded : Refusals (altered clearing) → ⊥
unfolding exporting nines held_state held_first held_entries clearing altered Stays ListFor all_bytes list_at
clearing_excluded r =
    let b : Slices held_state held_first [] held_entries (nines 4) = held_bytes held_state (nines 4) refl refl in
    let e = ap (list_at 0) (r (Export.scan 0) held_state held_first [] held_entries (nines 4) (nines 8) b tt (λ z. omega arith)) in
    omega arith
