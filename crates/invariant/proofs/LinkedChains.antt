-- The chain of a live place: linked, with no entry twice.
-- Assumes nothing.
use Prim.Native.Nat.{ℕ, ◌<◌, ◌≤◌}
use mathlib.Core.Path.{◌≡◌, subst}
use mathlib.Core.List.{List}
use Rattle.cursor.specs.Member.{In, Distinct}
use Rattle.model.specs.declared.State.{State}
use Rattle.model.specs.Memory.{Place, Live, head_at}
use Rattle.model.proofs.Linked.{Linked, linked_distinct, linked_in_range}
use Rattle.invariant.proofs.Shape.{Shape}

-- in a store of a shape
module _ {s : State} {current other entries : List ℕ} (h : Shape s current other entries) (p : Place) (l : Live s p) where
  -- linked, whatever list it is known to be
  pub shape_linked : (ns : List ℕ) → h.at p ≡ ns → Linked entries s.capacity (head_at s current other p) ns
  shape_linked ns e =
      subst (λ (ms : List ℕ). Linked entries s.capacity (head_at s current other p) ms) e (h.linked p l)

  pub shape_distinct : Distinct (h.at p)
  shape_distinct = linked_distinct entries s.capacity (head_at s current other p) (h.at p) (h.linked p l)

  pub shape_range : (n : ℕ) → In n (h.at p) → (0 < n) × (n ≤ s.capacity)
  shape_range n i = linked_in_range entries s.capacity (head_at s current other p) n (h.at p) (h.linked p l) i
