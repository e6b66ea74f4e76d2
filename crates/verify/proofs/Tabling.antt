-- The chains of a table, one a turn, and its empty buckets.
-- Assumes nothing.
use Prim.Native.Nat.{ℕ, zero, suc, ◌+◌, ◌-◌, ◌≤◌, ◌<◌}
use mathlib.Core.Path.{◌≡◌, refl, sym, ap, subst, ◌∙◌}
use mathlib.Core.Bool.{Bool, true, false, ◌&&◌}
use mathlib.Core.List.{List, [], ◌∷◌}
use mathlib.Core.Option.{Option, none, some}
use native.Mathlib.Decide.{dec_lt}
use native.Mathlib.Omega.{arith}
use lib.ListN.{length, get_or, take}
use lib.Seq.{take-suc}
use lib.Dec.{eqb, eqb-suc-zero}
use Rattle.std.specs.List.{list_all}
use Rattle.std.proofs.lemmas.List.{get_or-take, length-take}
use Rattle.std.proofs.lemmas.List.Folds.{list_all-append}
use borrow.Author.Tests.{eqb-true, eq-eqb, ne_eqb}
use Rattle.model.specs.Memory.{chain, in_bucket, listed, sum}
use Rattle.model.proofs.Linked.{read_sound, read_complete, chain_wider}
use Rattle.memory.specs.Length.{bucket_chain, length_of}
use Rattle.memory.proofs.Counted.{counted, uncounted}
use Rattle.model.specs.Verify.{is_sound, all_sound, all_empty}
use Rattle.verify.specs.Checked.{table_checked}
use Rattle.model.proofs.Sums.{sum_first}
use Rattle.std.specs.Prelude.{Result, Ok, Err}
use Rattle.model.specs.declared.Error.{Error}

-- where all are sound, so is each
each_sound : (f : ℕ → Option (List ℕ)) (n : ℕ) → all_sound f n ≡ true → (b : ℕ) → b < n → f b ≡ some (listed (f b))
unfolding all_sound is_sound listed
each_sound f zero e b l = absurd (omega arith)
each_sound f (suc n) e b l = by (all_sound f n) (f n) refl refl e (each_sound f n)
  where
    this : (o : Option (List ℕ)) → is_sound o ≡ true → o ≡ some (listed o)
    this none h = let z : ◌≡◌ {A = ℕ} 0 1 = cc in absurd (omega arith)
    this (some ns) h = refl

    by : (t : Bool) (o : Option (List ℕ)) → all_sound f n ≡ t → f n ≡ o → (t && is_sound o) ≡ true
        → (all_sound f n ≡ true → (b : ℕ) → b < n → f b ≡ some (listed (f b))) → f b ≡ some (listed (f b))
    by false o p q h before = let z : ◌≡◌ {A = ℕ} 0 1 = cc in absurd (omega arith)
    by true o p q h before =
        elim (dec_lt b n) [ yes k ↦ before p b k | no k ↦ let e : b ≡ n = omega arith in rw (e, q) (this o h) ]

not_true_false : (t : Bool) → (t ≡ true → ⊥) → false ≡ t
not_true_false false f = refl
not_true_false true f = absurd (f refl)

both_true : (a b : Bool) → (a && b) ≡ true → (a ≡ true) × (b ≡ true)
both_true false b e = let z : ◌≡◌ {A = ℕ} 0 1 = cc in absurd (omega arith)
both_true true b e = (refl, e)

empty_left : (left there used : ℕ) → left + there ≡ used → eqb left 0 ≡ eqb used there
empty_left zero there used e = sym (eq-eqb used there (omega arith))
empty_left (suc left) there used e = eqb-suc-zero left ∙ sym (ne_eqb used there (λ f. omega arith))

-- the first b chains are sound, and what is left of the count is for the others
pub record Tabling (entries : List ℕ) (capacity used : ℕ) (buckets : List ℕ) (size left b : ℕ) : Type 0 where
  pub all : all_sound (bucket_chain size entries capacity used buckets) b ≡ true
  pub rest : left + sum (λ i. length (listed (bucket_chain size entries capacity used buckets i))) b ≡ used
  pub within : b ≤ size

module _ (entries : List ℕ) (capacity used : ℕ) (buckets : List ℕ) (size : ℕ) where
  pub tabling_start : Tabling entries capacity used buckets size used 0
  unfolding all_sound sum
  tabling_start = record { all = refl; rest = omega arith; within = omega arith }

  module _ (left b : ℕ) (h : Tabling entries capacity used buckets size left b) where
    -- the head, read in the front of the buffer that the table has
    head_in : b < length (take size buckets) → (b < size) × (get_or (take size buckets) b 0 ≡ get_or buckets b 0)
    head_in l =
        let k : b < size = omega (arith, length-take size buckets) in (k, get_or-take size buckets b 0 k)

    -- a chain that has more entries than are left, or is not sound
    out : (r : Result ℕ Error) (x : Error) → b < size → r ≡ length_of (chain (in_bucket size b) entries capacity left (get_or buckets b 0))
        → r ≡ Err x → false ≡ table_checked entries capacity used buckets size
    unfolding table_checked sum
    out r x l e u =
        not_true_false _
        (λ t.
        let (all, same) = both_true _ _ t in
        let read = each_sound (bucket_chain size entries capacity used buckets) size all b l in
        let (linked, short, passing) =
        read_sound (in_bucket size b) entries capacity used (get_or buckets b 0)
        (listed (bucket_chain size entries capacity used buckets b)) read in
        let whole =
        read_complete (in_bucket size b) entries capacity left (get_or buckets b 0)
        (listed (bucket_chain size entries capacity used buckets b)) linked passing (fits same) in
        let none_read = (uncounted r x _ u e).0 in
        let z : ◌≡◌ {A = ℕ} 0 1 = cc in
        omega arith)
      where
        f : ℕ → ℕ
        f i = length (listed (bucket_chain size entries capacity used buckets i))

        fits : eqb used (sum f size) ≡ true → f b ≤ left
        fits same = omega (arith, eqb-true used (sum f size) same, sum_first f (suc b) size (omega arith), h.rest)

    pub tabling_out : (r : Result ℕ Error) (x : Error) → b < length (take size buckets)
        → r ≡ length_of (chain (in_bucket size b) entries capacity left (get_or (take size buckets) b 0))
        → r ≡ Err x → false ≡ table_checked entries capacity used buckets size
    tabling_out r x l e u = let (k, i) = head_in l in out r x k (rw i at e) u

    pub tabling_fits : (r : Result ℕ Error) (n head : ℕ) → r ≡ length_of (chain (in_bucket size b) entries capacity left head)
        → r ≡ Ok n → n ≤ left
    tabling_fits r n head e u =
        let (read, long) = counted r n _ u e in
        let (linked, short, passing) = read_sound (in_bucket size b) entries capacity left head _ read in
        omega arith

    next : (r : Result ℕ Error) (n : ℕ) → b < size
        → r ≡ length_of (chain (in_bucket size b) entries capacity left (get_or buckets b 0)) → r ≡ Ok n
        → Tabling entries capacity used buckets size (left - n) (b + 1)
    unfolding all_sound is_sound sum listed
    next r n l e u = turn (counted r n _ u e) (tabling_fits r n (get_or buckets b 0) e u)
      where
        turn : (chain (in_bucket size b) entries capacity left (get_or buckets b 0)
            ≡ some (listed (chain (in_bucket size b) entries capacity left (get_or buckets b 0))))
            × (length (listed (chain (in_bucket size b) entries capacity left (get_or buckets b 0))) ≡ n)
            → n ≤ left → Tabling entries capacity used buckets size (left - n) (b + 1)
        turn (read, long) few =
            let wide =
            chain_wider (in_bucket size b) (in_bucket size b) entries capacity capacity left used (get_or buckets b 0) _ (λ key p. p)
            (omega arith) (omega (arith, h.rest)) read in
            let its_length : length (listed (bucket_chain size entries capacity used buckets b)) ≡ n = ap (λ o. length (listed o)) wide ∙ long in
            let next : b + 1 ≡ suc b = omega arith in
            rw next
            (record {
              all = rw (h.all, wide);
              rest = omega (arith, h.rest, its_length);
              within = omega arith;
            })

    pub tabling_next : (r : Result ℕ Error) (n : ℕ) → b < length (take size buckets)
        → r ≡ length_of (chain (in_bucket size b) entries capacity left (get_or (take size buckets) b 0)) → r ≡ Ok n
        → Tabling entries capacity used buckets size (left - n) (b + 1)
    tabling_next r n l e u = let (k, i) = head_in l in next r n k (rw i at e) u

    pub tabling_end : size ≤ length buckets → length (take size buckets) ≤ b → eqb left 0 ≡ table_checked entries capacity used buckets size
    unfolding table_checked
    tabling_end fits l =
        let e : b ≡ size = omega (arith, h.within, length-take size buckets) in
        let all = subst (λ (k : ℕ). all_sound (bucket_chain size entries capacity used buckets) k ≡ true) e h.all in
        let rest =
        subst (λ (k : ℕ). left + sum (λ i. length (listed (bucket_chain size entries capacity used buckets i))) k ≡ used) e h.rest in
        rw all (empty_left left _ used rest)

-- empty buckets

-- by the library's word, over the front of that length
pub all_empty_front : (buckets : List ℕ) (count : ℕ) → count ≤ length buckets
    → list_all (λ (head : ℕ). eqb head 0) (take count buckets) ≡ all_empty buckets count
unfolding all_empty
all_empty_front buckets zero l = refl
all_empty_front buckets (suc count) l =
    ap (list_all (λ (head : ℕ). eqb head 0)) (take-suc buckets count 0 l)
    ∙ list_all-append (λ (head : ℕ). eqb head 0) (take count buckets) (get_or buckets count 0 ∷ [])
    ∙ rw (all_empty_front buckets count (omega arith)) (one (all_empty buckets count) (eqb (get_or buckets count 0) 0))
  where
    one : (s t : Bool) → (s && (t && true)) ≡ (s && t)
    one s true = refl
    one s false = refl
