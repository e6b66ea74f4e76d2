-- Which entries find themselves, one a turn.
-- Assumes nothing.
use Prim.Native.Nat.{ℕ, zero, suc, ◌+◌, ◌-◌, ◌≤◌, ◌<◌}
use mathlib.Core.Path.{◌≡◌, refl, ap, ◌∙◌}
use mathlib.Core.Bool.{Bool, true, false, cond}
use mathlib.Core.List.{List}
use native.Mathlib.Omega.{arith}
use mir.Val.{bool_byte}
use Rattle.model.specs.declared.State.{State}
use Rattle.model.specs.declared.Table.{Table}
use Rattle.model.specs.declared.Lookup.{Lookup}
use Rattle.model.specs.Memory.{key_of}
use Rattle.model.specs.Calls.{both, lookup}
use Rattle.model.specs.Verify.{finds, finds_itself, counted}
use Rattle.search.specs.Found.{Found, found_of, found_is}
use Rattle.search.specs.Tables.{searched_in}
use Rattle.search.proofs.Lookups.{lookup_resting, lookup_rehashing}

pub finds_found : (l : Lookup) (n : ℕ) → found_is (found_of l) n ≡ finds n l
unfolding found_is found_of finds
finds_found Lookup.Damaged n = refl
finds_found Lookup.Absent n = refl
finds_found (Lookup.At t before m) n = refl

byte : (t : Bool) → bool_byte t ≡ cond t 1 0
byte true = refl
byte false = refl

one : (t : Bool) → cond t 1 0 ≤ 1
one true = omega arith
one false = omega arith

module _ (s : State) (current other entries : List ℕ) where
  module _ (n key : ℕ) (found : Found) (r : Bool) (k : key ≡ key_of entries n) (e : r ≡ found_is found n) where
    of_lookup : found ≡ found_of (lookup s current other entries key) → r ≡ finds_itself s current other entries n
    unfolding finds_itself
    of_lookup f =
        e ∙ ap (λ (x : Found). found_is x n) f ∙ finds_found (lookup s current other entries key) n
        ∙ ap (λ (x : ℕ). finds n (lookup s current other entries x)) k

    pub itself_resting : s.rehashing ≡ false
        → ((t : Table) → found ≡ found_of (searched_in entries s.capacity s.old_used current s.old_size key t))
        → r ≡ finds_itself s current other entries n
    itself_resting f g = of_lookup (g Table.Old ∙ ap found_of (lookup_resting s current other entries key f))

    pub itself_rehashing : s.rehashing ≡ true
        → found
        ≡ found_of
        (both (searched_in entries s.capacity s.old_used current s.old_size key Table.Old)
        (searched_in entries s.capacity s.new_used other s.new_size key Table.New))
        → r ≡ finds_itself s current other entries n
    itself_rehashing f g = of_lookup (g ∙ ap found_of (lookup_rehashing s current other entries key f))

  -- the count before entry n
  pub record Counting (n count : ℕ) : Type 0 where
    pub same : count ≡ counted (finds_itself s current other entries) (n - 1)
    pub few : count < n

  pub counting_start : Counting 1 0
  unfolding counted
  counting_start = record { same = refl; few = omega arith }

  -- one more entry
  counted_one : (n count m : ℕ) (t : Bool) → Counting n count → t ≡ finds_itself s current other entries n → m ≡ bool_byte t
      → (count + m ≡ counted (finds_itself s current other entries) n) × (count + m ≤ n)
  unfolding counted
  counted_one zero count m t h te me = absurd (let k = h.few in omega arith)
  counted_one (suc n) count m t h te me =
      let before : suc n - 1 ≡ n = omega arith in
      (rw (← te, me, byte t) (ap (λ (k : ℕ). k + cond t 1 0) (rw before at h.same)), omega (arith, h.few, one t, me, byte t))

  pub counting_next : (n count m : ℕ) (t : Bool) → Counting n count → t ≡ finds_itself s current other entries n → m ≡ bool_byte t
      → Counting (n + 1) (count + m)
  counting_next n count m t h te me =
      let (same, few) = counted_one n count m t h te me in
      let this : n + 1 - 1 ≡ n = omega arith in
      record { same = rw this same; few = omega arith }

  pub counting_end : (n count m : ℕ) (t : Bool) → Counting n count → t ≡ finds_itself s current other entries n → m ≡ bool_byte t
      → n ≡ s.capacity → count + m ≡ counted (finds_itself s current other entries) s.capacity
  counting_end n count m t h te me e = rw e at (counted_one n count m t h te me).0
