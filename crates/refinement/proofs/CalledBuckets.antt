-- How many buckets of a table some keys call for, and how many steps a rehash takes at most to move them.
-- Assumes nothing.
use Prim.Native.Nat.{ℕ, suc, ◌+◌, ◌-◌, ◌<◌, ◌≤◌}
use mathlib.Core.Path.{◌≡◌, refl, subst}
use mathlib.Core.Logic.{◌≢◌}
use mathlib.Core.Bool.{Bool, not, cond}
use mathlib.Core.List.{List, []}
use native.Mathlib.Nat.{mod-lt}
use native.Mathlib.Omega.{arith}
use lib.Dec.{eqb}
use borrow.Author.Tests.{eqb-false, not-true}
use Rattle.cursor.specs.Member.{In, any, keep}
use Rattle.model.specs.Keys.{hash, bucket_of}
use Rattle.model.specs.Limits.{empty_visits}
use Rattle.model.specs.Memory.{sum}
use Rattle.model.proofs.Tests.{Tells, tells_eq}
use Rattle.refinement.specs.RehashesEnd.{most_steps}
use Rattle.model.proofs.Lists.{first_member, of_keep, tells_any}
use Rattle.model.proofs.Sums.{sum_atmost, sum_less, sum_few}
use Rattle.refinement.proofs.IdealSteps.{one_at_most}
use Rattle.refinement.proofs.MovedKeys.{lowest_of, lowest_reached, lowest_below}

-- 1 for a bucket that one of the keys calls for, else 0
unfoldable pub called_for : ℕ → List ℕ → ℕ → ℕ
called_for size keys b = cond (any (λ k. eqb (bucket_of k size) b) keys) 1 0

unfoldable pub buckets_called : ℕ → List ℕ → ℕ
buckets_called size keys = sum (called_for size keys) size

-- the steps at most from that next bucket on
unfoldable pub steps_left : ℕ → List ℕ → ℕ → ℕ
steps_left size keys next = most_steps (size - next) (buckets_called size keys)

module _ (size : ℕ) where
  Calls : List ℕ → ℕ → Type 0
  Calls keys b = (k : ℕ) × In k keys × (bucket_of k size ≡ b)

  tells_called : (keys : List ℕ) (b : ℕ) → Tells (Calls keys b) (any (λ k. eqb (bucket_of k size) b) keys)
  unfolding Calls
  tells_called keys b =
      tells_any (λ k. bucket_of k size ≡ b) (λ k. eqb (bucket_of k size) b) (λ k. tells_eq (bucket_of k size) b) keys

  -- by whether one calls for it
  pub called_by : (P : ℕ → Type 0) (keys : List ℕ) (b : ℕ) → ((k : ℕ) → In k keys → bucket_of k size ≡ b → P 1)
      → (((k : ℕ) → In k keys → bucket_of k size ≡ b → ⊥) → P 0) → P (called_for size keys b)
  unfolding called_for Calls
  called_by P keys b some none = by (tells_called keys b)
    where
      by : {t : Bool} → Tells (Calls keys b) t → P (cond t 1 0)
      by (Tells.holds (k, i, e)) = some k i e
      by (Tells.fails f) = none (λ k i e. f (k, i, e))

  called : (keys : List ℕ) (k : ℕ) → In k keys → called_for size keys (bucket_of k size) ≡ 1
  called keys k i = called_by (λ n. n ≡ 1) keys (bucket_of k size) (λ j h e. refl) (λ f. absurd (f k i refl))

  not_called : (keys : List ℕ) (b : ℕ) → ((k : ℕ) → In k keys → bucket_of k size ≡ b → ⊥) → called_for size keys b ≡ 0
  not_called keys b f = called_by (λ n. n ≡ 0) keys b (λ k i e. absurd (f k i e)) (λ g. refl)

  -- fewer keys call for no more
  fewer : (keys rest : List ℕ) → ((k : ℕ) → In k rest → In k keys) → (b : ℕ) → called_for size rest b ≤ called_for size keys b
  fewer keys rest sub b =
      called_by (λ n. n ≤ called_for size keys b) rest b
      (λ k i e. omega (arith, subst (λ (c : ℕ). called_for size keys c ≡ 1) e (called keys k (sub k i))))
      (λ f. omega arith)

  -- buckets from one on
  called_fit : (keys : List ℕ) (a : ℕ) → ((k : ℕ) → In k keys → a ≤ bucket_of k size) → buckets_called size keys ≤ size - a
  unfolding buckets_called called_for
  called_fit keys a above =
      sum_few (called_for size keys) a size
      (λ b. one_at_most (any (λ k. eqb (bucket_of k size) b) keys) 1 0 (omega arith) (omega arith))
      (λ b l. not_called keys b (λ k i e. omega (arith, above k i)))

  pub in_table : 0 < size → (k : ℕ) → bucket_of k size < size
  unfolding bucket_of hash
  in_table pos k = mod-lt k pos

  some_called : (keys : List ℕ) → 0 < size → keys ≢ [] → 0 < buckets_called size keys
  unfolding buckets_called
  some_called keys pos f =
      let (k, i) = first_member keys f in
      omega (
        arith,
        sum_less (λ b. 0) (called_for size keys) (bucket_of k size) size (in_table pos k) (λ b. omega arith)
            (omega (arith, called keys k i)),
      )

  module _ (keys : List ℕ) where
    -- the keys of the lowest bucket gone: one bucket less
    abbrev rest : List ℕ
    rest = keep (λ j. not (eqb (bucket_of j size) (lowest_of size keys))) keys

    pub rest_sub : (k : ℕ) → In k rest → In k keys
    rest_sub k i = (of_keep (λ j. not (eqb (bucket_of j size) (lowest_of size keys))) k keys i).0

    rest_other : (k : ℕ) → In k rest → bucket_of k size ≡ lowest_of size keys → ⊥
    rest_other k i =
        eqb-false (bucket_of k size) (lowest_of size keys)
        (not-true (eqb (bucket_of k size) (lowest_of size keys))
        (of_keep (λ j. not (eqb (bucket_of j size) (lowest_of size keys))) k keys i).1)

    one_less : 0 < size → keys ≢ [] → buckets_called size rest < buckets_called size keys
    unfolding buckets_called
    one_less pos f =
        let (k, i, e) = lowest_reached size keys f in
        let here = subst (λ (b : ℕ). called_for size keys b ≡ 1) e (called keys k i) in
        sum_less (called_for size rest) (called_for size keys) (lowest_of size keys) size
        (subst (λ (b : ℕ). b < size) e (in_table pos k)) (fewer keys rest rest_sub)
        (omega (arith, here, not_called rest (lowest_of size keys) rest_other))

    -- they lie behind it
    pub rest_behind : (k : ℕ) → In k rest → suc (lowest_of size keys) ≤ bucket_of k size
    rest_behind k i = omega (arith, rest_other k i, lowest_below size keys k (rest_sub k i))

    -- A step that moves the lowest bucket, and one that passes so many empty ones, leave one step less; and so it is with
    -- fewer keys.

    pub moving_less : 0 < size → keys ≢ [] → rest ≢ [] → (next : ℕ) → ((k : ℕ) → In k keys → next ≤ bucket_of k size)
        → steps_left size rest (suc (lowest_of size keys)) < steps_left size keys next
    unfolding steps_left most_steps empty_visits
    moving_less pos f g next above =
        let (low, i, e) = lowest_reached size keys f in
        omega (
          arith,
          one_less pos f,
          called_fit keys next above,
          above low i,
          e,
          in_table pos low,
          some_called rest pos g,
          called_fit rest (suc (lowest_of size keys)) rest_behind,
        )

    pub passing_less : 0 < size → keys ≢ [] → (next : ℕ) → ((k : ℕ) → In k keys → next + empty_visits ≤ bucket_of k size)
        → steps_left size keys (next + empty_visits) < steps_left size keys next
    unfolding steps_left most_steps empty_visits
    passing_less pos f next above =
        let fits = called_fit keys _ above in
        omega (arith, some_called keys pos f)

    pub fewer_less : (keys' : List ℕ) → ((k : ℕ) → In k keys' → In k keys) → (next : ℕ) → ((k : ℕ) → In k keys → next ≤ bucket_of k size)
        → steps_left size keys' next ≤ steps_left size keys next
    unfolding steps_left most_steps buckets_called empty_visits
    fewer_less keys' sub next above =
        let less = sum_atmost (called_for size keys') (called_for size keys) size (fewer keys keys' sub) in
        omega (arith, called_fit keys next above)

    -- by any number of filled buckets that is not below those called for
    pub steps_by_filled : (filled next : ℕ) → ((k : ℕ) → In k keys → next ≤ bucket_of k size) → buckets_called size keys ≤ filled
        → filled ≤ size → steps_left size keys next ≤ most_steps size filled
    unfolding steps_left most_steps empty_visits
    steps_by_filled filled next above called_filled fits = omega (arith, called_fit keys next above)

-- one is left at least, ..
pub some_steps : (size : ℕ) (keys : List ℕ) (next : ℕ) → 0 < steps_left size keys next
unfolding steps_left most_steps
some_steps size keys next = omega arith

-- .. and at most as many as the table has buckets
pub steps_fit : (size filled : ℕ) → 0 < size → filled ≤ size → most_steps size filled ≤ size
unfolding most_steps empty_visits
steps_fit size filled pos fits = omega arith
