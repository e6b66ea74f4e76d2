-- The first free entry, which add takes, and what a step meets in the old table.
-- Assumes nothing.
use Prim.Native.Nat.{ℕ, ◌+◌, ◌-◌, ◌<◌, ◌≤◌}
use mathlib.Core.Path.{◌≡◌, refl, sym, ap, subst, ◌∙◌}
use mathlib.Core.Logic.{◌≢◌}
use mathlib.Core.Bool.{true, not, ◌&&◌}
use mathlib.Core.List.{List, [], ◌∷◌}
use native.Mathlib.Decide.{dec_lt}
use native.Mathlib.Omega.{arith}
use lib.ListN.{length}
use lib.Dec.{eqb, leb}
use borrow.Author.Tests.{le-leb, ne_eqb}
use Rattle.model.specs.declared.State.{State}
use Rattle.model.specs.declared.Table.{Table}
use Rattle.model.specs.declared.Ahead.{Ahead}
use Rattle.model.specs.Limits.{empty_visits}
use Rattle.model.specs.Memory.{Place, Live, size_of, used_of, buckets_of, head_at, link_of}
use Rattle.model.specs.Calls.{takeable, ahead_of}
use Rattle.model.proofs.StepAhead.{AllEmpty, Comes, ahead_comes}
use Rattle.model.proofs.Linked.{Linked, linked_head, linked_empty, linked_filled}
use Rattle.model.proofs.Lists.{no_length}
use Rattle.model.proofs.Sums.{term_in_sum, sum_zero}
use Rattle.invariant.proofs.Shape.{Shape, facts}

-- a bucket of the old table before which every other is empty
pub record EmptyBefore {s : State} {current other entries : List ℕ} (h : Shape s current other entries) (b : ℕ) : Type 0 where
  pub live : b < s.old_size
  pub empty : (c : ℕ) → c < b → h.at (Place.bucket Table.Old c) ≡ []

-- what a step meets: the first filled bucket, or one behind as many empty buckets as it passes
pub data Meets {s : State} {current other entries : List ℕ} (h : Shape s current other entries) : Type 0 where
  filled : (b : ℕ) → ahead_of s current ≡ Ahead.Filled b → EmptyBefore h b → h.at (Place.bucket Table.Old b) ≢ []
      → b < s.rehash_index + empty_visits → Meets h
  passed : (b : ℕ) → ahead_of s current ≡ Ahead.Empty b → EmptyBefore h b → b ≡ s.rehash_index + empty_visits → Meets h

-- add's tests of the first free entry
tests : (head link capacity : ℕ) → 0 < head → link ≤ capacity → (not (eqb head 0) && leb link capacity) ≡ true
tests head link capacity z l = rw (ne_eqb head 0 (omega arith), le-leb link capacity l)

module _ {s : State} {current other entries : List ℕ} (h : Shape s current other entries) where
  -- a store that is not full has a first free entry, which can be taken
  pub free_taken : s.old_used + s.new_used ≢ s.capacity
      → (rest : List ℕ) × (h.at Place.free ≡ s.free_head ∷ rest) × (takeable s entries ≡ true)
  unfolding head_at Live Linked takeable
  free_taken f = pick (h.at Place.free) refl (h.linked Place.free tt)
    where
      pick : (ns : List ℕ) → h.at Place.free ≡ ns → Linked entries s.capacity s.free_head ns
          → (rest : List ℕ) × (h.at Place.free ≡ s.free_head ∷ rest) × (takeable s entries ≡ true)
      pick [] e l = absurd (f (omega (arith, h.free_count, ap length e)))
      pick (n ∷ ns) e l =
          let behind = subst (λ (k : ℕ). Linked entries s.capacity (link_of entries k) ns) (sym l.0) l.3 in
          let fits = linked_head entries s.capacity (link_of entries s.free_head) ns behind in (
            ns,
            e ∙ ap (λ (k : ℕ). k ∷ ns) (sym l.0),
            tests s.free_head (link_of entries s.free_head) s.capacity (omega arith) fits,
          )

  -- a place whose head is 0 is empty, and no other live one
  empty_at : (p : Place) → Live s p → head_at s current other p ≡ 0 → h.at p ≡ []
  empty_at p l e = linked_empty entries s.capacity (head_at s current other p) (h.at p) (h.linked p l) e

  filled_at : (p : Place) → Live s p → head_at s current other p ≢ 0 → h.at p ≢ []
  filled_at p l f = linked_filled entries s.capacity (head_at s current other p) (h.at p) (h.linked p l) f

  -- with no keys in the old table each of its buckets is empty
  pub old_empty : s.old_used ≡ 0 → (b : ℕ) → b < s.old_size → h.at (Place.bucket Table.Old b) ≡ []
  unfolding size_of used_of
  old_empty e b l =
      no_length (h.at (Place.bucket Table.Old b))
      (omega (arith, h.counts Table.Old, term_in_sum (λ i. length (h.at (Place.bucket Table.Old i))) s.old_size b l))

  -- during a rehash, with keys in the old table, a step does not meet the table's end
  pub step_meets : s.rehashing ≡ true → s.old_used ≢ 0 → Meets h
  unfolding head_at buckets_of size_of used_of Live AllEmpty Comes ahead_of
  step_meets t f =
      pick (ahead_of s current) refl
      (ahead_comes current s.rehash_index (s.old_size - s.rehash_index) empty_visits s.old_size (omega (arith, fits)))
    where
      fits : s.rehash_index ≤ s.old_size
      fits = ((facts h).rehashing t).index_fits

      -- the buckets passed before are empty, and those from there up to an end
      empty : (end : ℕ) → end ≤ s.old_size → AllEmpty current s.rehash_index end → (c : ℕ) → c < end
          → h.at (Place.bucket Table.Old c) ≡ []
      empty end e z c l =
          elim (dec_lt c s.rehash_index) [
            | yes p ↦ empty_at (Place.bucket Table.Old c) (omega arith) (h.passed_empty c p)
            | no p ↦ empty_at (Place.bucket Table.Old c) (omega arith) (z c (omega arith) l)
          ]

      pick : (r : Ahead) → ahead_of s current ≡ r → Comes current s.rehash_index s.old_size empty_visits r → Meets h
      pick Ahead.End e (reach, z) =
          let all = empty s.old_size (omega arith) z in
          absurd
          (f (h.counts Table.Old ∙ sum_zero (λ b. length (h.at (Place.bucket Table.Old b))) s.old_size (λ b l. ap length (all b l))))
      pick (Ahead.Empty b) e (is, below, before) =
          Meets.passed b e (record { live = below; empty = empty b (omega arith) before }) is
      pick (Ahead.Filled b) e (from, below, reach, some_there, before) =
          Meets.filled b e (record { live = below; empty = empty b (omega arith) before })
          (filled_at (Place.bucket Table.Old b) below some_there) reach
