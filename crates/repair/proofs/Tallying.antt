-- The chains of a table counted, one a turn, and the first filled bucket.
-- Assumes nothing.
use Prim.Native.Nat.{ℕ, zero, suc, ◌+◌, ◌≤◌, ◌<◌}
use mathlib.Core.Path.{◌≡◌, refl, sym, ap, ◌∙◌}
use mathlib.Core.Bool.{Bool, true, false, not, cond}
use mathlib.Core.List.{List}
use mathlib.Core.Option.{Option, none, some}
use native.Mathlib.Omega.{arith}
use lib.ListN.{length, get_or, take, drop}
use lib.Seq.{drop-cons}
use Rattle.std.specs.Prelude as Prelude
use Rattle.std.specs.List.{position_from}
use lib.Dec.{eqb}
use mir.Syntax.{w32}
use mir.Val.{Fits}
use Rattle.model.specs.Memory.{chain, in_bucket, listed, sum}
use Rattle.model.specs.Iterators.{first_from}
use Rattle.memory.specs.Length.{bucket_chain, length_of}
use Rattle.model.specs.Repair.{or_else}
use Rattle.repair_passes.specs.Passes.{lengths, Countable, first_filled}
use Rattle.model.proofs.Sums.{sum_first}
use Rattle.std.specs.Prelude.{Result, Some, None}
use Rattle.std.specs.Result.{result_unwrap_or}
use Rattle.std.proofs.lemmas.List.{get_or-take, length-take}
use Rattle.model.specs.declared.Error.{Error}

-- a chain's length, 0 where it is not sound
length_listed : (o : Option (List ℕ)) → result_unwrap_or (length_of o) 0 ≡ length (listed o)
unfolding length_of listed
length_listed none = refl
length_listed (some ns) = refl

-- the count is that of the chains before bucket b
pub record Tally (buckets entries : List ℕ) (capacity size count b : ℕ) : Type 0 where
  pub same : count ≡ lengths buckets entries capacity size b

module _ (buckets entries : List ℕ) (capacity size : ℕ) where
  pub tally_start : Tally buckets entries capacity size 0 0
  unfolding lengths sum
  tally_start = record { same = refl }

  module _ (count b : ℕ) (h : Tally buckets entries capacity size count b) where
    -- the head is read in the front of the buffer that the table has
    module _ (r : Result ℕ Error) (n : ℕ) (l : b < length (take size buckets))
        (e : r ≡ length_of (chain (in_bucket size b) entries capacity capacity (get_or (take size buckets) b 0)))
        (k : n ≡ result_unwrap_or r 0) where
      inside : b < size
      inside = omega (arith, length-take size buckets)

      this : n ≡ length (listed (bucket_chain size entries capacity capacity buckets b))
      this =
          let read = rw (get_or-take size buckets b 0 inside) at e in
          k ∙ ap (λ (a : Result ℕ Error). result_unwrap_or a 0) read
          ∙ length_listed (bucket_chain size entries capacity capacity buckets b)

      more : count + n ≡ lengths buckets entries capacity size (suc b)
      unfolding lengths sum
      more = rw (h.same, this)

      tally_fits : Countable buckets entries capacity size → count + n ≤ capacity
      unfolding lengths
      tally_fits c =
          omega (
            arith,
            more,
            c.few,
            sum_first (λ i. length (listed (bucket_chain size entries capacity capacity buckets i))) (suc b) size inside,
          )

      pub tally_small : Fits w32 capacity → Countable buckets entries capacity size → Fits w32 (count + n)
      tally_small f c = omega (arith, tally_fits c)

      pub tally_next : Tally buckets entries capacity size (count + n) (b + 1)
      tally_next = let next : b + 1 ≡ suc b = omega arith in record { same = rw next more }

    pub tally_end : Countable buckets entries capacity size → b ≤ length (take size buckets) → length (take size buckets) ≤ b
        → count ≡ lengths buckets entries capacity size size
    tally_end c l m =
        let e : b ≡ size = omega (arith, length-take size buckets, c.buckets_fit) in
        rw e at h.same

-- the first filled bucket, by the library's word

-- where a search from a bucket on ends, or the index
first_or : ℕ → Prelude.Option ℕ → ℕ
first_or index None = index
first_or index (Some b) = b

found_from : (buckets : List ℕ) (index left from : ℕ) → from + left ≤ length buckets
    → or_else index (first_from (λ b. not (eqb (get_or buckets b 0) 0)) from left)
    ≡ first_or index (position_from (λ head. not (eqb head 0)) from (take left (drop from buckets)))
unfolding first_from or_else first_or
found_from buckets index zero from l = refl
found_from buckets index (suc left) from l =
    let next : from + 1 ≡ suc from = omega arith in
    rw (drop-cons buckets from 0 (omega arith), next)
    (by (not (eqb (get_or buckets from 0) 0)) (found_from buckets index left (suc from) (omega arith)))
  where
    rest : Prelude.Option ℕ
    rest = position_from (λ head. not (eqb head 0)) (suc from) (take left (drop (suc from) buckets))

    by : (t : Bool) → or_else index (first_from (λ b. not (eqb (get_or buckets b 0) 0)) (suc from) left) ≡ first_or index rest
        → or_else index (cond t (some from) (first_from (λ b. not (eqb (get_or buckets b 0) 0)) (suc from) left))
        ≡ first_or index (cond t (Some from) rest)
    by true h = refl
    by false h = h

module _ (buckets : List ℕ) (index : ℕ) (l : index ≤ length buckets) (r : Prelude.Option ℕ)
    (e : r ≡ position_from (λ head. not (eqb head 0)) 0 (take index buckets)) where
  first_is : first_or index r ≡ first_filled buckets index
  unfolding first_filled
  first_is = rw e (sym (found_from buckets index index 0 (omega arith)))

  pub filled_at : (b : ℕ) → r ≡ Some b → b ≡ first_filled buckets index
  unfolding first_or
  filled_at b f = rw f at first_is

  pub none_filled : r ≡ None → index ≡ first_filled buckets index
  unfolding first_or
  none_filled f = rw f at first_is
