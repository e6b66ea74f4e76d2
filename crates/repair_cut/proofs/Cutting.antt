-- Following a chain, one entry a turn, and cutting the chains of a table, one a turn.
-- Assumes nothing.
use Prim.Native.Nat.{ℕ, zero, suc, ◌+◌, ◌-◌, ◌*◌, ◌≤◌, ◌<◌}
use mathlib.Core.Path.{◌≡◌, refl, sym, ap, subst, ◌∙◌}
use mathlib.Core.Bool.{Bool, true, false, ◌&&◌, not, cond}
use mathlib.Core.List.{List, [], ◌∷◌, ◌++◌}
use native.Mathlib.Omega.{arith}
use lib.ListN.{length, get_or, set, take, drop, get_or-append}
use Rattle.std.proofs.lemmas.List.{length-take, take-append-drop, set-append_left}
use lib.Dec.{leb, eqb, eqb-suc-zero}
use borrow.Author.Tests.{leb-true}
use Rattle.std.specs.Prelude as Prelude
use Rattle.std.specs.Prelude.{Some, None}
use Rattle.verify.specs.Checked.{last_of}
use Rattle.model.specs.Keys.{bucket_of}
use Rattle.model.specs.Memory.{link_of, key_of, set_link, in_bucket, last_or}
use Rattle.model.specs.Repair.{first_or0}
use Rattle.repair_passes.specs.Passes.{Work, Lent, mark_of, set_mark, mark_all, meets, met_by_marks, cut, cut_one, cut_up_to}
use Rattle.repair_passes.proofs.Marking.{length_set_mark}

last_of_next : (n : ℕ) (ns : List ℕ) → last_of (Some n) ns ≡ Some (last_or n ns)
unfolding last_of last_or
last_of_next n [] = refl
last_of_next n (m ∷ ns) = refl

-- whether a number is met

module _ (entries : List ℕ) (capacity size b : ℕ) (marks : List ℕ) where
  -- by the tests that the code makes, in their order
  pub meets_tests : (at : ℕ) → meets entries capacity size b marks at
      ≡ (not (eqb at 0) && leb at capacity && eqb (mark_of marks at) 0 && eqb (bucket_of (key_of entries at) size) b)
  unfolding meets in_bucket
  meets_tests zero = refl
  meets_tests (suc n) = rw eqb-suc-zero

  met_range : (at : ℕ) → meets entries capacity size b marks at ≡ true → (0 < at) × (at ≤ capacity)
  unfolding meets
  met_range zero t = let z : ◌≡◌ {A = ℕ} 0 1 = cc in absurd (omega arith)
  met_range (suc n) t = (omega arith, by (leb (suc n) capacity) refl t)
    where
      by : (c : Bool) → leb (suc n) capacity ≡ c
          → (c && eqb (mark_of marks (suc n)) 0 && in_bucket size b (key_of entries (suc n))) ≡ true → suc n ≤ capacity
      by true e h = leb-true (suc n) capacity e
      by false e h = let z : ◌≡◌ {A = ℕ} 0 1 = cc in absurd (omega arith)

  module _ (at : ℕ) (r : Bool) (e : r ≡ meets entries capacity size b marks at) (t : r ≡ true) where
    pub met_some : 0 < at
    met_some = (met_range at (sym e ∙ t)).0

    pub met_fits : at ≤ capacity
    met_fits = (met_range at (sym e ∙ t)).1

    pub met_entry : (m : ℕ) → Lent capacity size (length entries) m → at * 3 ≤ length entries
    met_entry m h = let f = met_fits in omega (arith, h.entries_fit)

    pub met_mark : Lent capacity size (length entries) (length marks) → at ≤ length marks
    met_mark h = let f = met_fits in omega (arith, h.marks_fit)

-- following

-- the entries met from here, with as many turns left, and those met before are all that are met
pub record Following (entries : List ℕ) (capacity size b head : ℕ) (marks₀ marks : List ℕ) (at : ℕ) (last : Prelude.Option ℕ) (i : ℕ) : Type 0 where
  pub same_last : last_of last (met_by_marks entries capacity size b (capacity - i) marks at)
      ≡ last_of None (met_by_marks entries capacity size b capacity marks₀ head)
  pub same_marks : mark_all marks (met_by_marks entries capacity size b (capacity - i) marks at)
      ≡ mark_all marks₀ (met_by_marks entries capacity size b capacity marks₀ head)
  pub long : length marks ≡ length marks₀

module _ (entries : List ℕ) (capacity size b head : ℕ) (marks₀ : List ℕ) where
  pub following_start : Following entries capacity size b head marks₀ marks₀ head None 0
  following_start =
      let all : capacity - 0 ≡ capacity = omega arith in
      record {
        same_last = ap (λ (k : ℕ). last_of None (met_by_marks entries capacity size b k marks₀ head)) all;
        same_marks = ap (λ (k : ℕ). mark_all marks₀ (met_by_marks entries capacity size b k marks₀ head)) all;
        long = refl;
      }

  module _ (marks : List ℕ) (at : ℕ) (last : Prelude.Option ℕ) (i : ℕ) (h : Following entries capacity size b head marks₀ marks at last i) where
    pub following_lent : Lent capacity size (length entries) (length marks₀) → Lent capacity size (length entries) (length marks)
    following_lent l = record { legal = l.legal; entries_fit = l.entries_fit; marks_fit = omega (arith, l.marks_fit, h.long) }

    -- no turn is left
    no_turn : capacity ≤ i → met_by_marks entries capacity size b (capacity - i) marks at ≡ []
    unfolding met_by_marks
    no_turn l = let z : capacity - i ≡ 0 = omega arith in rw z

    -- a number is not met
    not_met : (r : Bool) → r ≡ meets entries capacity size b marks at → r ≡ false
        → met_by_marks entries capacity size b (capacity - i) marks at ≡ []
    unfolding met_by_marks
    not_met r e f = by (capacity - i)
      where
        by : (k : ℕ) → met_by_marks entries capacity size b k marks at ≡ []
        by zero = refl
        by (suc k) = rw (sym e ∙ f)

    pub end_last : capacity ≤ i → last ≡ last_of None (met_by_marks entries capacity size b capacity marks₀ head)
    unfolding last_of
    end_last e = rw (no_turn e) at h.same_last

    pub end_marks : capacity ≤ i → marks ≡ mark_all marks₀ (met_by_marks entries capacity size b capacity marks₀ head)
    unfolding mark_all
    end_marks e = rw (no_turn e) at h.same_marks

    pub stop_last : (r : Bool) → r ≡ meets entries capacity size b marks at → r ≡ false
        → last ≡ last_of None (met_by_marks entries capacity size b capacity marks₀ head)
    unfolding last_of
    stop_last r e f = rw (not_met r e f) at h.same_last

    pub stop_marks : (r : Bool) → r ≡ meets entries capacity size b marks at → r ≡ false
        → marks ≡ mark_all marks₀ (met_by_marks entries capacity size b capacity marks₀ head)
    unfolding mark_all
    stop_marks r e f = rw (not_met r e f) at h.same_marks

    pub following_next : (r : Bool) (marks' : List ℕ) (next : ℕ) → i < capacity → r ≡ meets entries capacity size b marks at
        → r ≡ true → marks' ≡ set_mark marks at 1 → next ≡ link_of entries at
        → Following entries capacity size b head marks₀ marks' next (Some at) (i + 1)
    unfolding met_by_marks last_of mark_all
    following_next r marks' next l e t m n =
        let one_met : met_by_marks entries capacity size b (capacity - i) marks at
        ≡ at ∷ met_by_marks entries capacity size b (capacity - (i + 1)) (set_mark marks at 1) (link_of entries at) =
        one (capacity - i) (capacity - (i + 1)) (omega arith) in
        rw (m, n)
        (record {
          same_last = last_of_next at (met_by_marks entries capacity size b (capacity - (i + 1)) (set_mark marks at 1) (link_of entries at)) ∙ (rw one_met at h.same_last);
          same_marks = rw one_met at h.same_marks;
          long = length_set_mark marks at 1 ∙ h.long;
        })
      where
        one : (k j : ℕ) → k ≡ suc j → met_by_marks entries capacity size b k marks at
            ≡ at ∷ met_by_marks entries capacity size b j (set_mark marks at 1) (link_of entries at)
        one k j g = rw (g, sym e ∙ t)

-- what the last entry met says of the chain

met_last : (entries : List ℕ) (capacity size b left : ℕ) (marks : List ℕ) (at before : ℕ) → (0 < before) × (before ≤ capacity)
    → (0 < last_or before (met_by_marks entries capacity size b left marks at))
    × (last_or before (met_by_marks entries capacity size b left marks at) ≤ capacity)
unfolding met_by_marks last_or
met_last entries capacity size b zero marks at before l = l
met_last entries capacity size b (suc left) marks at before l = by (meets entries capacity size b marks at) refl
    (met_last entries capacity size b left (set_mark marks at 1) (link_of entries at) at)
  where
    rest : List ℕ
    rest = met_by_marks entries capacity size b left (set_mark marks at 1) (link_of entries at)

    by : (t : Bool) → meets entries capacity size b marks at ≡ t
        → ((0 < at) × (at ≤ capacity) → (0 < last_or at rest) × (last_or at rest ≤ capacity))
        → (0 < last_or before (cond t (at ∷ rest) [])) × (last_or before (cond t (at ∷ rest) []) ≤ capacity)
    by true e r = r (met_range entries capacity size b marks at e)
    by false e r = l

-- an entry was met last: it is in range, the head is the first one met, and the chain is cut behind that entry
record CutBehind (capacity head : ℕ) (ns : List ℕ) (n : ℕ) : Type 0 where
  some_entry : 0 < n
  in_capacity : n ≤ capacity
  from_head : head ≡ first_or0 ns
  cut_there : (e : List ℕ) → cut e ns ≡ set_link e n 0

Told : ℕ → ℕ → List ℕ → Prelude.Option ℕ → Type 0
Told capacity head ns None = ns ≡ []
Told capacity head ns (Some n) = CutBehind capacity head ns n

told : (entries : List ℕ) (capacity size b left : ℕ) (marks : List ℕ) (head : ℕ)
    → Told capacity head (met_by_marks entries capacity size b left marks head) (last_of None (met_by_marks entries capacity size b left marks head))
unfolding met_by_marks last_of Told first_or0 cut
told entries capacity size b zero marks head = refl
told entries capacity size b (suc left) marks head = by (meets entries capacity size b marks head) refl
  where
    rest : List ℕ
    rest = met_by_marks entries capacity size b left (set_mark marks head 1) (link_of entries head)

    by : (t : Bool) → meets entries capacity size b marks head ≡ t
        → Told capacity head (cond t (head ∷ rest) []) (last_of None (cond t (head ∷ rest) []))
    by false e = refl
    by true e =
        let (some, fits) = met_last entries capacity size b left (set_mark marks head 1) (link_of entries head) head (met_range entries capacity size b marks head e) in
        record { some_entry = some; in_capacity = fits; from_head = refl; cut_there = λ e. refl }

module _ (entries : List ℕ) (capacity size b : ℕ) (marks : List ℕ) (head : ℕ) (r : Prelude.Option ℕ)
    (l : r ≡ last_of None (met_by_marks entries capacity size b capacity marks head)) where
  told_of : (o : Prelude.Option ℕ) → r ≡ o → Told capacity head (met_by_marks entries capacity size b capacity marks head) o
  told_of o e =
      subst (Told capacity head (met_by_marks entries capacity size b capacity marks head)) (sym l ∙ e)
      (told entries capacity size b capacity marks head)

  pub none_first : r ≡ None → 0 ≡ first_or0 (met_by_marks entries capacity size b capacity marks head)
  unfolding Told first_or0
  none_first e = rw (told_of None e)

  pub none_cut : r ≡ None → entries ≡ cut entries (met_by_marks entries capacity size b capacity marks head)
  unfolding Told cut
  none_cut e = rw (told_of None e)

  module _ (last : ℕ) (e : r ≡ Some last) where
    pub last_some : 0 < last
    unfolding Told
    last_some = (told_of (Some last) e).some_entry

    pub last_inside : Lent capacity size (length entries) (length marks) → last * 3 ≤ length entries
    unfolding Told
    last_inside h = omega (arith, h.entries_fit, (told_of (Some last) e).in_capacity)

    pub some_first : head ≡ first_or0 (met_by_marks entries capacity size b capacity marks head)
    unfolding Told
    some_first = (told_of (Some last) e).from_head

    pub some_cut : (entries' : List ℕ) → entries' ≡ set_link entries last 0
        → entries' ≡ cut entries (met_by_marks entries capacity size b capacity marks head)
    unfolding Told
    some_cut entries' w = w ∙ sym ((told_of (Some last) e).cut_there entries)

-- the chains of a table

-- the chains before bucket b are cut; the buffer goes on behind the table's buckets
pub record CuttingUp (capacity size : ℕ) (rest buckets₀ entries₀ marks₀ buckets entries marks : List ℕ) (b : ℕ) : Type 0 where
  pub same : Work.work (buckets ++ rest) entries marks ≡ cut_up_to capacity size b (Work.work (buckets₀ ++ rest) entries₀ marks₀)

module _ (capacity size : ℕ) (rest buckets₀ entries₀ marks₀ : List ℕ) where
  pub cutting_start : CuttingUp capacity size rest buckets₀ entries₀ marks₀ buckets₀ entries₀ marks₀ 0
  unfolding cut_up_to
  cutting_start = record { same = refl }

  module _ (buckets entries marks : List ℕ) (b : ℕ) (h : CuttingUp capacity size rest buckets₀ entries₀ marks₀ buckets entries marks b) where
    pub cutting_next : (head : ℕ) (entries' marks' : List ℕ) → b < length buckets₀ → length buckets ≡ length buckets₀
        → head ≡ first_or0 (met_by_marks entries capacity size b capacity marks (get_or buckets b 0))
        → entries' ≡ cut entries (met_by_marks entries capacity size b capacity marks (get_or buckets b 0))
        → marks' ≡ mark_all marks (met_by_marks entries capacity size b capacity marks (get_or buckets b 0))
        → CuttingUp capacity size rest buckets₀ entries₀ marks₀ (set buckets b head) entries' marks' (b + 1)
    unfolding cut_up_to cut_one
    cutting_next head entries' marks' l long p e m =
        let k : b < length buckets = omega arith in
        let next : b + 1 ≡ suc b = omega arith in
        let read = get_or-append buckets rest 0 b k in
        record {
          same =
              rw (next, p, e, m, ← set-append_left buckets rest b (first_or0 (met_by_marks entries capacity size b capacity marks (get_or buckets b 0))) k, ← read)
              (ap (cut_one capacity size b) h.same);
        }

pub cutting_end : (capacity size : ℕ) (buckets₀ entries₀ marks₀ buckets entries marks : List ℕ) (b : ℕ)
    → CuttingUp capacity size (drop size buckets₀) (take size buckets₀) entries₀ marks₀ buckets entries marks b
    → size ≤ length buckets₀ → b ≤ length (take size buckets₀) → length (take size buckets₀) ≤ b
    → Work.work (buckets ++ drop size buckets₀) entries marks ≡ cut_up_to capacity size size (Work.work buckets₀ entries₀ marks₀)
cutting_end capacity size buckets₀ entries₀ marks₀ buckets entries marks b h f l m =
    let e : b ≡ size = omega (arith, length-take size buckets₀) in
    let same = rw (take-append-drop size buckets₀) at h.same in
    subst (λ (k : ℕ). Work.work (buckets ++ drop size buckets₀) entries marks ≡ cut_up_to capacity size k (Work.work buckets₀ entries₀ marks₀)) e same
