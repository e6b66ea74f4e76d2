-- What update answers and leaves on a sound state, by the entry found.
-- Assumes nothing.
use Prim.Native.Nat.{ℕ}
use mathlib.Core.Path.{◌≡◌, refl, ◌∙◌}
use mathlib.Core.Bool.{Bool, true, false, cond}
use mathlib.Core.List.{List}
use lib.ListN.{length}
use Rattle.std.specs.Prelude.{Result, Ok, Err, Option}
use Rattle.std.specs.Option.{ok_or}
use Rattle.std.specs.Result.{IsErrAnd}
use Rattle.std.proofs.lemmas.Result.{err_from_is_err_and}
use Rattle.model.specs.declared.State.{State}
use Rattle.model.specs.declared.Error.{Error}
use Rattle.model.specs.declared.Lookup.{Lookup}
use Rattle.model.specs.Memory.{set_value}
use Rattle.model.specs.Calls.{After, oriented, back, lookup, held, updated, update}
use Rattle.memory.specs.Lent.{sound_lent}
use Rattle.memory.proofs.Orientation.{writing_sound}
use Rattle.search.specs.Found.{found_of}
use Rattle.search.proofs.Held.{held_damaged, held_absent, held_at}

-- the buckets stay, so they may as well be named as they were lent
updated_back : (first second entries : List ℕ) (value : ℕ) (l : Lookup)
    → updated first second entries value l ≡ back true (updated second first entries value l)
unfolding back updated held
updated_back first second entries value Lookup.Damaged = refl
updated_back first second entries value Lookup.Absent = refl
updated_back first second entries value (Lookup.At t before n) = refl

module _ (s : State) (first second current other entries : List ℕ) (key value : ℕ)
    (c : current ≡ cond s.second_is_current second first) (o : other ≡ cond s.second_is_current first second)
    (h : sound_lent (length first) (length second) (length entries) s ≡ true) where
  answered : (a : After (Result (Unit {0}) Error)) → a ≡ updated first second entries value (lookup s current other entries key)
      → a ≡ update s first second entries key value
  unfolding update oriented back
  answered a e = e ∙ writing_sound s first second entries _ refl _ _ _ h (rw (c, o) (pick s.second_is_current))
    where
      pick : (flag : Bool)
          → updated first second entries value (lookup s (cond flag second first) (cond flag first second) entries key)
          ≡ back flag
          (oriented flag (λ current other. updated current other entries value (lookup s current other entries key)) first second)
      pick false = refl
      pick true = updated_back first second entries value (lookup s second first entries key)

  pub update_damaged : (r : Result (Unit {0}) Error) (x : Error) → Err x ≡ found_of (lookup s current other entries key)
      → IsErrAnd r (λ e. e ≡ x) → After.after r first second entries ≡ update s first second entries key value
  unfolding updated
  update_damaged r x e g = let p = err_from_is_err_and r g in answered _ (rw (p.1, p.2) (held_damaged _ _ _ x e))

  module _ (found_in : Option ℕ) (e : Ok found_in ≡ found_of (lookup s current other entries key)) where
    pub update_absent : (r : Result (Unit {0}) Error) (x : Error) → Err x ≡ ok_or found_in Error.Absent
        → IsErrAnd r (λ e. e ≡ x) → After.after r first second entries ≡ update s first second entries key value
    unfolding updated
    update_absent r x a g = let p = err_from_is_err_and r g in answered _ (rw (p.1, p.2) (held_absent _ _ _ found_in x e a))

    pub update_held : (n : ℕ) (last : List ℕ) → Ok n ≡ ok_or found_in Error.Absent → last ≡ set_value entries n value
        → After.after (Ok tt) first second last ≡ update s first second entries key value
    unfolding updated
    update_held n last a v = answered _ (rw v (held_at _ _ _ found_in n e a))
