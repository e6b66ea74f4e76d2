-- A store of a shape is undamaged: what is read at a live place is the shape.
-- Assumes nothing.
use Prim.Native.Nat.{ℕ, ◌≤◌}
use mathlib.Core.Path.{◌≡◌, refl, sym, ap, subst, ◌∙◌}
use mathlib.Core.Bool.{true}
use mathlib.Core.List.{List}
use mathlib.Core.Option.{some}
use native.Mathlib.Omega.{arith}
use lib.ListN.{length}
use Rattle.cursor.specs.Member.{In}
use Rattle.model.specs.declared.State.{State}
use Rattle.model.specs.Memory.{Place, Live, size_of, keys_held, key_of, head_at, budget_at, belongs, any_key, chain_at, entries_at, listed, Undamaged}
use Rattle.model.proofs.Chains.{bucket_same}
use Rattle.model.proofs.Linked.{read_complete}
use Rattle.model.proofs.Sums.{sum_same, term_in_sum}
use Rattle.invariant.proofs.Shape.{Home, IsBucket, Shape}

-- a key at home belongs there
home_belongs : (s : State) (key : ℕ) (p : Place) → Home s key p → belongs s p key ≡ true
unfolding Home belongs any_key
home_belongs s key Place.free h = refl
home_belongs s key (Place.bucket t b) h = bucket_same (size_of s t) b key _ refl h

module _ {s : State} {current other entries : List ℕ} (h : Shape s current other entries) where
  -- a place's chain is no longer than its budget
  within_budget : (p : Place) → Live s p → length (h.at p) ≤ budget_at s p
  unfolding budget_at keys_held Live
  within_budget Place.free l = omega (arith, h.free_count)
  within_budget (Place.bucket t b) l =
      omega (arith, h.counts t, term_in_sum (λ i. length (h.at (Place.bucket t i))) (size_of s t) b l)

  -- the chain read at a live place
  pub chain_at_lem : (p : Place) → Live s p → chain_at s current other entries p ≡ some (h.at p)
  unfolding chain_at
  chain_at_lem p l =
      read_complete (belongs s p) entries s.capacity (budget_at s p) (head_at s current other p) (h.at p) (h.linked p l)
      (λ n i. home_belongs s (key_of entries n) p (h.home n p l i)) (within_budget p l)

  -- and its entries
  pub entries_at_lem : (p : Place) → Live s p → entries_at s current other entries p ≡ h.at p
  unfolding entries_at listed
  entries_at_lem p l = ap listed (chain_at_lem p l)

  -- an entry that was read is one of the shape
  read_in : (n : ℕ) (p : Place) → Live s p → In n (entries_at s current other entries p) → In n (h.at p)
  read_in n p l i = subst (λ (ns : List ℕ). In n ns) (entries_at_lem p l) i

  -- a store of a shape is undamaged
  pub shape_undamaged : Undamaged s current other entries
  unfolding Live IsBucket
  shape_undamaged =
      record {
        state_sound = h.state_sound;
        chains_sound = λ p l. chain_at_lem p l ∙ ap some (sym (entries_at_lem p l));
        on_a_chain =
            λ n z k.
            let (l, i) = h.owned n z k in
            (h.owner n, l, subst (λ (ns : List ℕ). In n ns) (sym (entries_at_lem (h.owner n) l)) i);
        on_one_chain = λ n p q l k i j. sym (h.owns n p l (read_in n p l i)) ∙ h.owns n q k (read_in n q k j);
        keys_distinct =
            λ n m t u a b l k i j e.
            h.keys_distinct n m (Place.bucket t a) (Place.bucket u b) l k tt tt (read_in n (Place.bucket t a) l i)
            (read_in m (Place.bucket u b) k j) e;
        passed_empty = h.passed_empty;
        counts =
            λ t.
            h.counts t
            ∙ sum_same (λ b. length (h.at (Place.bucket t b)))
            (λ b. length (entries_at s current other entries (Place.bucket t b)))
            (size_of s t) (λ b l. ap length (sym (entries_at_lem (Place.bucket t b) l)));
      }
