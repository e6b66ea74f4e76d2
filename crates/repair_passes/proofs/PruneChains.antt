-- The marks of the second pass, and the third and the fourth pass by them: a chain is linked anew along the entries kept, and
-- the others are freed.
-- Assumes nothing.
use Prim.Native.Nat.{ℕ, zero, suc, ◌+◌, ◌≤◌, ◌<◌}
use mathlib.Core.Path.{◌≡◌, refl, sym, ap, subst, ◌∙◌}
use mathlib.Core.Bool.{Bool, true, false, ◌||◌, not, cond}
use mathlib.Core.List.{List, [], ◌∷◌, ◌++◌, append_assoc, append-nil}
use native.Mathlib.Decide.{ℕ_discrete}
use native.Mathlib.Omega.{arith}
use lib.ListN.{length, get_or, set}
use lib.Seq.{get_or-set_other}
use lib.Dec.{leb, eqb}
use borrow.Author.Tests.{le-leb}
use Rattle.cursor.specs.Member.{In, Distinct, among, keep}
use Rattle.model.specs.Memory.{link_of, set_link, set_entry}
use Rattle.model.proofs.Linked.{Linked, link_set_other, linked_kept}
use Rattle.model.proofs.Tests.{told_not}
use Rattle.model.proofs.Lists.{of_keep, tells_among}
use Rattle.model.specs.Repair.{first_or0, chained, chained_all, headed, freed, up_from}
use Rattle.model.proofs.Relinked.{link_chained_all}
use Rattle.repair_passes.specs.Passes.{mark_of, set_mark, decided_one, decided, next_kept, pruned, Chained, prune_one, pruned_up_to, head_down, entries_down}
use Rattle.repair_passes.proofs.Marking.{length_set_mark, mark_same, mark_other}
use Rattle.repair_passes.proofs.ByMarks.{Marks}

module _ (test : ℕ → Bool) where
  pub length_decided_one : (marks : List ℕ) (n : ℕ) → length (decided_one test marks n) ≡ length marks
  unfolding decided_one
  length_decided_one marks n = by (eqb (mark_of marks n) 0)
    where
      by : (b : Bool) → length (cond b marks (set_mark marks n (cond (test n) 1 0))) ≡ length marks
      by true = refl
      by false = length_set_mark marks n (cond (test n) 1 0)

  pub length_decided : (marks : List ℕ) (n : ℕ) → length (decided test marks n) ≡ length marks
  unfolding decided
  length_decided marks zero = refl
  length_decided marks (suc n) = length_decided_one (decided test marks n) (suc n) ∙ length_decided marks n

  other_mark : (marks : List ℕ) (n m : ℕ) → (m ≡ n → ⊥) → mark_of (decided_one test marks n) m ≡ mark_of marks m
  unfolding decided_one
  other_mark marks n m d = by (eqb (mark_of marks n) 0)
    where
      by : (b : Bool) → mark_of (cond b marks (set_mark marks n (cond (test n) 1 0))) m ≡ mark_of marks m
      by true = refl
      by false = mark_other marks n m (cond (test n) 1 0) d

  -- an entry's mark is then 0 if it was, or if it fails the test
  its_mark : (marks : List ℕ) (n : ℕ) → 0 < n → n ≤ length marks
      → eqb (mark_of (decided_one test marks n) n) 0 ≡ (eqb (mark_of marks n) 0 || not (test n))
  unfolding decided_one
  its_mark marks n z l = by (eqb (mark_of marks n) 0) refl
    where
      zero_mark : (t : Bool) → eqb (cond t 1 0) 0 ≡ not t
      zero_mark true = refl
      zero_mark false = refl

      by : (b : Bool) → eqb (mark_of marks n) 0 ≡ b
          → eqb (mark_of (cond b marks (set_mark marks n (cond (test n) 1 0))) n) 0 ≡ (b || not (test n))
      by true e = e
      by false e = rw (mark_same marks n (cond (test n) 1 0) z l) (zero_mark (test n))

  later_mark : (marks : List ℕ) (count n : ℕ) → count < n → mark_of (decided test marks count) n ≡ mark_of marks n
  unfolding decided
  later_mark marks zero n l = refl
  later_mark marks (suc count) n l =
      other_mark (decided test marks count) (suc count) n (λ e. omega arith) ∙ later_mark marks count n (omega arith)

  mark_decided : (marks : List ℕ) (count n : ℕ) → count ≤ length marks → 0 < n → n ≤ count
      → eqb (mark_of (decided test marks count) n) 0 ≡ (eqb (mark_of marks n) 0 || not (test n))
  unfolding decided
  mark_decided marks zero n l z k = absurd (omega arith)
  mark_decided marks (suc count) n l z k =
      elim (ℕ_discrete n (suc count)) [
        | yes e ↦
            rw e
            (its_mark (decided test marks count) (suc count) (omega arith) (omega (arith, length_decided marks count))
            ∙ ap (λ (m : ℕ). eqb m 0 || not (test (suc count))) (later_mark marks count (suc count) (omega arith)))
        | no d ↦
            ap (λ (m : ℕ). eqb m 0) (other_mark (decided test marks count) (suc count) n d)
            ∙ mark_decided marks count n (omega arith) z (omega arith)
      ]

-- marks by a test
abbrev pub KeptMarks : ℕ → List ℕ → (ℕ → Bool) → Type 0
KeptMarks capacity marks test = (n : ℕ) → 0 < n → n ≤ capacity → eqb (mark_of marks n) 0 ≡ not (test n)

-- where an entry that was not met fails the test
pub decided_marks : (f test : ℕ → Bool) (marks ms : List ℕ) (capacity : ℕ) → capacity ≤ length marks → Marks capacity marks ms
    → ((n : ℕ) → 0 < n → f n ≡ test n) → ((n : ℕ) → 0 < n → test n ≡ true → In n ms)
    → KeptMarks capacity (decided f marks capacity) test
decided_marks f test marks ms capacity l met same only n z k =
    mark_decided f marks capacity n l z k ∙ rw (met n z k, same n z) (by (among n ms) (test n) refl refl)
  where
    by : (a t : Bool) → among n ms ≡ a → test n ≡ t → (not a || not t) ≡ not t
    by true t p q = refl
    by false false p q = refl
    by false true p q = absurd (told_not (tells_among n ms) p (only n z q))

-- a head that is not set stays
pub head_beyond : (f : ℕ → List ℕ) (e : List ℕ) (n i : ℕ) → n ≤ i → get_or (headed f e n) i 0 ≡ get_or e i 0
unfolding headed
head_beyond f e zero i l = refl
head_beyond f e (suc n) i l = get_or-set_other (headed f e n) n i _ 0 (λ same. omega arith) ∙ head_beyond f e n i (omega arith)

module _ (marks : List ℕ) (capacity : ℕ) (test : ℕ → Bool) (m : KeptMarks capacity marks test) where
  -- the first of a chain that is kept
  next_first : (e : List ℕ) (left at : ℕ) (ns : List ℕ) → Linked e capacity at ns → length ns ≤ left
      → next_kept e marks capacity left at ≡ first_or0 (keep test ns)
  unfolding next_kept Linked keep first_or0
  next_first e zero at [] h l = refl
  next_first e zero at (n ∷ ns) h l = absurd (omega arith)
  next_first e (suc left) zero [] h l = refl
  next_first e (suc left) (suc at) [] h l = absurd (omega arith)
  next_first e (suc left) zero (n ∷ ns) h l = absurd (omega arith)
  next_first e (suc left) (suc at) (n ∷ ns) h l =
      let same : suc at ≡ n = h.0 in
      let rest = next_first e left (link_of e n) ns h.3 (omega arith) in
      subst (λ (k : ℕ). cond (leb k capacity) (cond (eqb (mark_of marks k) 0) (next_kept e marks capacity left (link_of e k)) k) 0
      ≡ first_or0 (cond (test n) (n ∷ keep test ns) (keep test ns))) (sym same)
      (rw (le-leb n capacity h.2, m n h.1 h.2) (by (test n) rest))
    where
      by : (t : Bool) → next_kept e marks capacity left (link_of e n) ≡ first_or0 (keep test ns)
          → cond (not t) (next_kept e marks capacity left (link_of e n)) n ≡ first_or0 (cond t (n ∷ keep test ns) (keep test ns))
      by true r = refl
      by false r = r

  -- a chain pruned
  pruned_chained : (left : ℕ) (e : List ℕ) (at : ℕ) (ns : List ℕ) → Linked e capacity at ns → Distinct ns → length ns ≤ left
      → length ns ≤ capacity → pruned marks capacity left e (first_or0 (keep test ns)) ≡ chained e (keep test ns)
  unfolding Linked keep pruned chained first_or0
  pruned_chained left e at [] h d l c = none left
    where
      none : (k : ℕ) → pruned marks capacity k e (first_or0 []) ≡ chained e []
      none zero = refl
      none (suc k) = refl
  pruned_chained left e at (n ∷ ns) h d l c =
      by (test n) (pruned_chained left e (link_of e n) ns h.3 d.1 (omega arith) (omega arith))
      (λ k j.
      pruned_chained k (set_link e n (first_or0 (keep test ns))) (link_of e n) ns
      (linked_kept e (set_link e n (first_or0 (keep test ns))) capacity (link_of e n) ns
      (λ i p. link_set_other e n i (first_or0 (keep test ns)) (λ same. d.0 (subst (λ (y : ℕ). In y ns) same p))) h.3)
      d.1 j (omega arith))
    where
      next : next_kept e marks capacity capacity (link_of e n) ≡ first_or0 (keep test ns)
      next = next_first e capacity (link_of e n) ns h.3 (omega arith)

      one : (k a : ℕ) → a ≡ n → 0 < a → length ns < k
          → ((j : ℕ) → length ns ≤ j
          → pruned marks capacity j (set_link e n (first_or0 (keep test ns))) (first_or0 (keep test ns))
          ≡ chained (set_link e n (first_or0 (keep test ns))) (keep test ns))
          → pruned marks capacity k e a ≡ chained (set_link e n (first_or0 (keep test ns))) (keep test ns)
      one zero a same z q rest = absurd (omega arith)
      one (suc k) zero same z q rest = absurd (omega arith)
      one (suc k) (suc a) same z q rest =
          ap (λ (x : ℕ). pruned marks capacity k (set_link e x (next_kept e marks capacity capacity (link_of e x)))
          (next_kept e marks capacity capacity (link_of e x))) same
          ∙ ap (λ (x : ℕ). pruned marks capacity k (set_link e n x) x) next
          ∙ rest k (omega arith)

      by : (t : Bool) → pruned marks capacity left e (first_or0 (keep test ns)) ≡ chained e (keep test ns)
          → ((k : ℕ) → length ns ≤ k
          → pruned marks capacity k (set_link e n (first_or0 (keep test ns))) (first_or0 (keep test ns))
          ≡ chained (set_link e n (first_or0 (keep test ns))) (keep test ns))
          → pruned marks capacity left e (first_or0 (cond t (n ∷ keep test ns) (keep test ns)))
          ≡ chained e (cond t (n ∷ keep test ns) (keep test ns))
      by false r rest = r
      by true r rest = one left n refl h.1 (omega arith) rest

  -- the chains of a table
  module _ (f : ℕ → List ℕ) (buckets e : List ℕ) (size : ℕ) (distinct : (b : ℕ) → Distinct (f b)) (short : (b : ℕ) → length (f b) ≤ capacity)
      (apart : (a b n : ℕ) → a < b → In n (f a) → In n (f b) → ⊥)
      (linked : (b : ℕ) → b < size → Linked e capacity (get_or buckets b 0) (f b)) where
    unfoldable pub kept : ℕ → List ℕ
    kept b = keep test (f b)

    still_linked : (b : ℕ) → b < size → Linked (chained_all kept e b) capacity (get_or (headed kept buckets b) b 0) (f b)
    unfolding kept
    still_linked b l =
        subst (λ (at : ℕ). Linked (chained_all kept e b) capacity at (f b)) (sym (head_beyond kept buckets b b (omega arith)))
        (linked_kept e (chained_all kept e b) capacity (get_or buckets b 0) (f b)
        (λ n i. link_chained_all kept e b n (λ a k j. apart a b n k (of_keep test n (f a) j).0 i)) (linked b l))

    pub pruned_all : (b : ℕ) → b ≤ size
        → pruned_up_to marks capacity b (Chained.chains buckets e) ≡ Chained.chains (headed kept buckets b) (chained_all kept e b)
    unfolding pruned_up_to headed chained_all prune_one kept
    pruned_all zero l = refl
    pruned_all (suc b) l =
        ap (prune_one marks capacity b) (pruned_all b (omega arith))
        ∙ by (still_linked b l)
      where
        by : Linked (chained_all kept e b) capacity (get_or (headed kept buckets b) b 0) (f b)
            → prune_one marks capacity b (Chained.chains (headed kept buckets b) (chained_all kept e b))
            ≡ Chained.chains (set (headed kept buckets b) b (first_or0 (kept b))) (chained (chained_all kept e b) (kept b))
        by h =
            rw (next_first (chained_all kept e b) capacity _ (f b) h (short b))
            (ap (Chained.chains (set (headed kept buckets b) b (first_or0 (kept b))))
            (pruned_chained capacity (chained_all kept e b) _ (f b) h (distinct b) (short b) (short b)))

-- Freeing from the last entry down is freeing the entries that are not kept, upwards by number.

up_more : (n count : ℕ) → up_from n (suc count) ≡ up_from n count ++ ((n + count) ∷ [])
unfolding up_from
up_more n zero = let e : n + 0 ≡ n = omega arith in rw e
up_more n (suc count) =
    let e : n + suc count ≡ suc n + count = omega arith in
    rw e (ap (λ (ms : List ℕ). n ∷ ms) (up_more (suc n) count))

keep_append : (test : ℕ → Bool) (ms ns : List ℕ) → keep test (ms ++ ns) ≡ keep test ms ++ keep test ns
unfolding keep
keep_append test [] ns = refl
keep_append test (m ∷ ms) ns = by (test m) (keep_append test ms ns)
  where
    by : (b : Bool) → keep test (ms ++ ns) ≡ keep test ms ++ keep test ns
        → cond b (m ∷ keep test (ms ++ ns)) (keep test (ms ++ ns)) ≡ cond b (m ∷ keep test ms) (keep test ms) ++ keep test ns
    by true e = ap (λ (ks : List ℕ). m ∷ ks) e
    by false e = e

module _ (marks : List ℕ) (capacity : ℕ) (test : ℕ → Bool) (m : KeptMarks capacity marks test) where
  others : ℕ → List ℕ
  others n = keep (λ k. not (test k)) (up_from 1 n)

  others_more : (n : ℕ) (ns : List ℕ) → others (suc n) ++ ns ≡ others n ++ cond (not (test (suc n))) (suc n ∷ ns) ns
  unfolding others keep
  others_more n ns =
      ap (λ (ms : List ℕ). keep (λ k. not (test k)) ms ++ ns) (up_more 1 n ∙ ap (λ (k : ℕ). up_from 1 n ++ (k ∷ [])) (let e : 1 + n ≡ suc n = omega arith in e))
      ∙ ap (λ (ms : List ℕ). ms ++ ns) (keep_append (λ k. not (test k)) (up_from 1 n) (suc n ∷ []))
      ∙ append_assoc (keep (λ k. not (test k)) (up_from 1 n)) (keep (λ k. not (test k)) (suc n ∷ [])) ns
      ∙ ap (λ (ms : List ℕ). keep (λ k. not (test k)) (up_from 1 n) ++ ms) (last (not (test (suc n))))
    where
      last : (b : Bool) → cond b (suc n ∷ []) [] ++ ns ≡ cond b (suc n ∷ ns) ns
      last true = refl
      last false = refl

  down_head : (n : ℕ) (ns : List ℕ) → n ≤ capacity → head_down marks n (first_or0 ns) ≡ first_or0 (others n ++ ns)
  unfolding head_down others up_from keep first_or0
  down_head zero ns l = refl
  down_head (suc n) ns l =
      rw (m (suc n) (omega arith) l)
      (ap (head_down marks n) (one (not (test (suc n))))
      ∙ down_head n (cond (not (test (suc n))) (suc n ∷ ns) ns) (omega arith)
      ∙ ap first_or0 (sym (others_more n ns)))
    where
      one : (b : Bool) → cond b (suc n) (first_or0 ns) ≡ first_or0 (cond b (suc n ∷ ns) ns)
      one true = refl
      one false = refl

  down_entries : (e : List ℕ) (n : ℕ) (ns : List ℕ) → n ≤ capacity
      → entries_down marks n (first_or0 ns) (freed e ns) ≡ freed e (others n ++ ns)
  unfolding entries_down others up_from keep first_or0 freed
  down_entries e zero ns l = refl
  down_entries e (suc n) ns l =
      rw (m (suc n) (omega arith) l)
      (one (not (test (suc n)))
      ∙ down_entries e n (cond (not (test (suc n))) (suc n ∷ ns) ns) (omega arith)
      ∙ ap (freed e) (sym (others_more n ns)))
    where
      one : (b : Bool)
          → entries_down marks n (cond b (suc n) (first_or0 ns)) (cond b (set_entry (freed e ns) (suc n) (first_or0 ns) 0 0) (freed e ns))
          ≡ entries_down marks n (first_or0 (cond b (suc n ∷ ns) ns)) (freed e (cond b (suc n ∷ ns) ns))
      one true = refl
      one false = refl

  pub freed_head : head_down marks capacity 0 ≡ first_or0 (keep (λ k. not (test k)) (up_from 1 capacity))
  unfolding others first_or0
  freed_head = down_head capacity [] (omega arith) ∙ ap first_or0 (append-nil (keep (λ k. not (test k)) (up_from 1 capacity)))

  pub freed_entries : (e : List ℕ) → entries_down marks capacity 0 e ≡ freed e (keep (λ k. not (test k)) (up_from 1 capacity))
  unfolding others first_or0 freed
  freed_entries e = down_entries e capacity [] (omega arith) ∙ ap (freed e) (append-nil (keep (λ k. not (test k)) (up_from 1 capacity)))
