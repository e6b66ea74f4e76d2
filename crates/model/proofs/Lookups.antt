-- What a lookup's answer names: entries in range, in a table that is live and not empty.
-- Assumes nothing.
use Prim.Native.Nat.{ℕ, ◌*◌, ◌≤◌, ◌<◌}
use mathlib.Core.Path.{◌≡◌, refl, sym, subst, ◌∙◌}
use mathlib.Core.Bool.{Bool, true, false, cond}
use mathlib.Core.List.{List, [], ◌∷◌}
use mathlib.Core.Option.{Option, none, some}
use native.Mathlib.Omega.{arith}
use lib.ListN.{length}
use lib.Dec.{eqb}
use Rattle.model.specs.declared.State.{State}
use Rattle.model.specs.declared.Table.{Table}
use Rattle.model.specs.declared.Lookup.{Lookup}
use Rattle.model.specs.Memory.{link_of, key_of, used_of, chain, budget_at, chain_at, key_place}
use Rattle.model.specs.Calls.{first_with, searched, both, lookup_in, lookup_while, lookup}
use Rattle.model.proofs.Linked.{Linked, read_sound}
use Rattle.model.proofs.Soundness.{Sound}

-- an entry that a lookup found, and the one before it
pub record Located (s : State) (t : Table) (before n : ℕ) : Type 0 where
  pub before_fits : before ≤ s.capacity
  pub entry_some : 0 < n
  pub entry_fits : n ≤ s.capacity
  pub used_some : 0 < used_of s t
  pub rehashing_new : t ≡ Table.New → s.rehashing ≡ true

-- nothing is said where a lookup found no entry
Found : State → Lookup → Type 0
Found s Lookup.Damaged = Unit {0}
Found s Lookup.Absent = Unit {0}
Found s (Lookup.At t before n) = Located s t before n

-- the entries of a chain are in range, and one that has entries had a budget
InRange : ℕ → ℕ → List ℕ → Type 0
InRange capacity budget [] = Unit {0}
InRange capacity budget (n ∷ ns) = (0 < budget) × (0 < n) × (n ≤ capacity) × InRange capacity budget ns

InRangeIf : ℕ → ℕ → Option (List ℕ) → Type 0
InRangeIf capacity budget none = Unit {0}
InRangeIf capacity budget (some ns) = InRange capacity budget ns

linked_range : (entries : List ℕ) (capacity budget at : ℕ) (ns : List ℕ) → Linked entries capacity at ns → length ns ≤ budget
    → InRange capacity budget ns
unfolding Linked InRange
linked_range entries capacity budget at [] h l = tt
linked_range entries capacity budget at (n ∷ ns) h l =
    (omega arith, h.1, h.2, linked_range entries capacity budget (link_of entries n) ns h.3 (omega arith))

chain_in_range : (test : ℕ → Bool) (entries : List ℕ) (capacity budget at : ℕ) (o : Option (List ℕ))
    → chain test entries capacity budget at ≡ o → InRangeIf capacity budget o
unfolding InRangeIf
chain_in_range test entries capacity budget at none e = tt
chain_in_range test entries capacity budget at (some ns) e =
    let (linked, short, passing) = read_sound test entries capacity budget at ns e in
    linked_range entries capacity budget at ns linked short

found_both : (s : State) (old new : Lookup) → Found s old → Found s new → Found s (both old new)
unfolding Found both
found_both s Lookup.Damaged new o h = tt
found_both s Lookup.Absent new o h = h
found_both s (Lookup.At t before n) Lookup.Damaged o h = tt
found_both s (Lookup.At t before n) Lookup.Absent o h = o
found_both s (Lookup.At t before n) (Lookup.At t' before' n') o h = o

found_cond : (s : State) (t : Bool) (a b : Lookup) → (t ≡ true → Found s a) → Found s b → Found s (cond t a b)
found_cond s true a b f g = f refl
found_cond s false a b f g = g

-- in one table
module _ (s : State) (entries : List ℕ) (key : ℕ) (t : Table) (live : t ≡ Table.New → s.rehashing ≡ true) where
  found_first : (before : ℕ) (ns : List ℕ) → before ≤ s.capacity → InRange s.capacity (used_of s t) ns
      → Found s (first_with entries key t before ns)
  unfolding Found InRange first_with
  found_first before [] b h = tt
  found_first before (n ∷ ns) b h =
      found_cond s (eqb (key_of entries n) key) (Lookup.At t before n) (first_with entries key t n ns)
      (λ e. record { before_fits = b; entry_some = h.1; entry_fits = h.2; used_some = h.0; rehashing_new = live })
      (found_first n ns h.2 h.3)

  found_searched : (o : Option (List ℕ)) → InRangeIf s.capacity (used_of s t) o
      → Found s (searched entries key t 0 o)
  unfolding Found InRangeIf searched
  found_searched none h = tt
  found_searched (some ns) h = found_first 0 ns (omega arith) h

  found_in : (current other : List ℕ) → Found s (lookup_in s current other entries key t)
  unfolding lookup_in chain_at key_place budget_at
  found_in current other = found_searched _ (chain_in_range _ entries s.capacity (used_of s t) _ _ refl)

module _ (s : State) (current other entries : List ℕ) (key : ℕ) where
  found_while : (t : Bool) → s.rehashing ≡ t → Found s (lookup_while t s current other entries key)
  unfolding lookup_while
  found_while false e = found_in s entries key Table.Old (λ e. let z : ◌≡◌ {A = ℕ} 0 1 = cc in absurd (omega arith)) current other
  found_while true e =
      found_both s _ _
      (found_in s entries key Table.Old (λ e. let z : ◌≡◌ {A = ℕ} 0 1 = cc in absurd (omega arith)) current other)
      (found_in s entries key Table.New (λ f. e) current other)

  found_lookup : Found s (lookup s current other entries key)
  unfolding lookup
  found_lookup = found_while s.rehashing refl

  module _ (r : Lookup) (t : Table) (before n : ℕ) (e : r ≡ lookup s current other entries key) (a : r ≡ Lookup.At t before n) where
    pub located : Located s t before n
    unfolding Found
    located = subst (Found s) (sym e ∙ a) found_lookup

    -- what reading or writing the entry asks
    pub found_some : 0 < n
    found_some = located.entry_some

    pub found_fits : Sound s (length current) (length other) (length entries) → n * 3 ≤ length entries
    found_fits h = let l = located in omega arith
