-- The first pass over one table: each chain is then linked, as the entries met on it, and nothing changed but the links of
-- entries met.
-- Assumes nothing.
use Prim.Native.Nat.{ℕ, zero, suc, ◌*◌, ◌≤◌, ◌<◌}
use mathlib.Core.Path.{◌≡◌, refl, sym, ap, subst, ◌∙◌}
use mathlib.Core.Logic.{inr}
use mathlib.Core.Bool.{Bool, true, false, ◌&&◌, not, cond}
use mathlib.Core.List.{List, [], ◌∷◌}
use native.Mathlib.Decide.{dec_lt}
use native.Mathlib.Omega.{arith}
use lib.ListN.{length, get_or, set, length-set}
use lib.Seq.{get_or-set_same, get_or-set_other}
use lib.Dec.{leb}
use Rattle.cursor.specs.Member.{In, Distinct, among}
use Rattle.model.specs.Memory.{link_of, key_of, set_link, in_bucket, last_or}
use Rattle.model.proofs.Tests.{told_not}
use Rattle.model.proofs.Lists.{tells_among}
use Rattle.model.proofs.Fields.{link_set_same}
use Rattle.model.proofs.Linked.{Linked, link_set_other, linked_kept}
use borrow.Author.Tests.{leb-true}
use Rattle.model.specs.Repair.{followed, followed_in, met_in, first_or0}
use Rattle.model.proofs.Numbers.{last_in}
use Rattle.model.proofs.Followed.{here, here_met, here_distinct, here_in, here_apart, before_in}
use Rattle.repair_passes.specs.Passes.{Work, buckets_in, entries_in, marks_in, mark_all, met_by_marks, cut, cut_one, cut_up_to}
use Rattle.repair_passes.proofs.Marking.{length_mark_all}
use Rattle.repair_passes.proofs.ByMarks.{Marks, met_followed, mark_all_lem}
use Rattle.repair_passes.proofs.Agreeing.{Agree, agree_key, agree_written}

-- the entries from a number on, link by link, in range; the last one's link says nothing
OpenChain : List ℕ → ℕ → ℕ → List ℕ → Type 0
OpenChain e most at [] = Unit {0}
OpenChain e most at (n ∷ ns) = (at ≡ n) × (0 < n) × (n ≤ most) × OpenChain e most (link_of e n) ns

followed_open : (e e₀ : List ℕ) (capacity size b fuel : ℕ) (before : List ℕ) (at : ℕ)
    → ((n : ℕ) → (In n before → ⊥) → link_of e n ≡ link_of e₀ n)
    → OpenChain e capacity at (followed (in_bucket size b) e₀ capacity fuel before at)
unfolding followed OpenChain
followed_open e e₀ capacity size b zero before at links = tt
followed_open e e₀ capacity size b (suc fuel) before zero links = tt
followed_open e e₀ capacity size b (suc fuel) before (suc n) links =
    by (leb (suc n) capacity) (among (suc n) before) (in_bucket size b (key_of e₀ (suc n))) refl refl
    (followed_open e e₀ capacity size b fuel (suc n ∷ before) (link_of e₀ (suc n)) (λ m f. links m (λ i. f (inr i))))
  where
    by : (c t k : Bool) → leb (suc n) capacity ≡ c → among (suc n) before ≡ t
        → OpenChain e capacity (link_of e₀ (suc n)) (followed (in_bucket size b) e₀ capacity fuel (suc n ∷ before) (link_of e₀ (suc n)))
        → OpenChain e capacity (suc n)
        (cond (c && not t && k) (suc n ∷ followed (in_bucket size b) e₀ capacity fuel (suc n ∷ before) (link_of e₀ (suc n))) [])
    by true false true p q rest = (
      refl,
      omega arith,
      leb-true (suc n) capacity p,
      subst (λ (at : ℕ). OpenChain e capacity at (followed (in_bucket size b) e₀ capacity fuel (suc n ∷ before) (link_of e₀ (suc n))))
          (sym (links (suc n) (told_not (tells_among (suc n) before) q))) rest,
    )
    by true false false p q rest = tt
    by true true k p q rest = tt
    by false t k p q rest = tt

-- cut behind its last entry it is a chain
open_cut : (e : List ℕ) (most at n : ℕ) (ns : List ℕ) → most * 3 ≤ length e → Distinct (n ∷ ns) → OpenChain e most at (n ∷ ns)
    → Linked (set_link e (last_or n ns) 0) most n (n ∷ ns)
unfolding OpenChain Linked last_or
open_cut e most at n [] l d h = (refl, h.1, h.2, link_set_same e n 0 h.1 (let k = h.2 in omega arith))
open_cut e most at n (m ∷ ns) l d h =
    let here : link_of (set_link e (last_or m ns) 0) n ≡ link_of e n =
    link_set_other e (last_or m ns) n 0 (λ same. d.0 (subst (λ (k : ℕ). In k (m ∷ ns)) (sym same) (last_in m ns))) in
    let next : link_of e n ≡ m = h.3.0 in (
      refl,
      h.1,
      h.2,
      subst (λ (k : ℕ). Linked (set_link e (last_or m ns) 0) most k (m ∷ ns)) (sym (here ∙ next)) (open_cut e most (link_of e n) m ns l d.1 h.3),
    )

cut_linked : (e : List ℕ) (most at : ℕ) (ns : List ℕ) → most * 3 ≤ length e → Distinct ns → OpenChain e most at ns
    → Linked (cut e ns) most (first_or0 ns) ns
unfolding cut first_or0 Linked
cut_linked e most at [] l d h = refl
cut_linked e most at (n ∷ ns) l d h = open_cut e most at n ns l d h

cut_other : (e ns : List ℕ) (m : ℕ) → (In m ns → ⊥) → link_of (cut e ns) m ≡ link_of e m
unfolding cut
cut_other e [] m f = refl
cut_other e (n ∷ ns) m f = link_set_other e (last_or n ns) m 0 (λ same. f (subst (λ (k : ℕ). In k (n ∷ ns)) (sym same) (last_in n ns)))

cut_agree : (P : ℕ → Type 0) (e e₀ ns : List ℕ) → ((n : ℕ) → In n ns → P n) → Agree P e e₀ → Agree P (cut e ns) e₀
unfolding cut
cut_agree P e e₀ [] f h = h
cut_agree P e e₀ (n ∷ ns) f h = agree_written h (last_or n ns) 0 (f (last_or n ns) (last_in n ns))

-- links of entries up to the capacity
abbrev pub UpTo : ℕ → ℕ → Type 0
UpTo capacity n = n ≤ capacity

below_suc : (P : ℕ → Type 0) (n : ℕ) → ((b : ℕ) → b < n → P b) → P n → (b : ℕ) → b < suc n → P b
below_suc P n f p b l = elim (dec_lt b n) [ yes k ↦ f b k | no k ↦ subst P (let e : n ≡ b = omega arith in e) p ]

module _ (e₀ : List ℕ) (capacity : ℕ) (buckets : List ℕ) (size : ℕ) (before e : List ℕ) where
  -- the entries met in a bucket
  abbrev at : ℕ → List ℕ
  at b = here e₀ capacity buckets size before b

  pub record CutTo (b : ℕ) (w : Work) : Type 0 where
    pub marks : Marks capacity (marks_in w) (met_in e₀ capacity buckets size before b)
    pub marks_long : capacity ≤ length (marks_in w)
    pub agree : Agree (UpTo capacity) (entries_in w) e₀
    pub links : (n : ℕ) → ((a : ℕ) → a < b → In n (at a) → ⊥) → link_of (entries_in w) n ≡ link_of e n
    pub linked : (a : ℕ) → a < b
        → Linked (entries_in w) capacity (first_or0 (at a)) (at a)
    pub heads : (a : ℕ) → a < b
        → get_or (buckets_in w) a 0 ≡ first_or0 (at a)
    pub others : (a : ℕ) → b ≤ a → get_or (buckets_in w) a 0 ≡ get_or buckets a 0
    pub long : length (buckets_in w) ≡ length buckets

  module _ (fits : capacity * 3 ≤ length e₀) (room : size ≤ length buckets)
      (links₀ : (n : ℕ) → (In n before → ⊥) → link_of e n ≡ link_of e₀ n) where
    cut_step : (b : ℕ) (w : Work) → b < size → CutTo b w → CutTo (suc b) (cut_one capacity size b w)
    unfolding cut_one marks_in entries_in buckets_in followed_in met_in
    cut_step b (Work.work heads e' marks) l h = by (met_by_marks e' capacity size b capacity marks (get_or heads b 0)) same
      where
        same_links : (n : ℕ) → (In n (met_in e₀ capacity buckets size before b) → ⊥) → link_of e' n ≡ link_of e₀ n
        same_links n f =
            h.links n (λ a k i. f (here_in e₀ capacity buckets size before a b n k i))
            ∙ links₀ n (λ i. f (before_in e₀ capacity buckets size before b n i))

        same : met_by_marks e' capacity size b capacity marks (get_or heads b 0) ≡ at b
        same =
            met_followed e' e₀ capacity size b (agree_key h.agree) capacity marks (met_in e₀ capacity buckets size before b)
            (get_or heads b 0) h.marks_long h.marks same_links
            ∙ ap (followed (in_bucket size b) e₀ capacity capacity (met_in e₀ capacity buckets size before b)) (h.others b (omega arith))

        range : (n : ℕ) → In n (at b) → (0 < n) × (n ≤ capacity)
        range n i = let m = here_met e₀ capacity buckets size before b n i in (m.some, m.fits)

        by : (ns : List ℕ) → ns ≡ at b → CutTo (suc b) (Work.work (set heads b (first_or0 ns)) (cut e' ns) (mark_all marks ns))
        by ns e =
            rw e
            (record {
              marks = mark_all_lem capacity marks (met_in e₀ capacity buckets size before b) (at b) h.marks_long range h.marks;
              marks_long = let k = h.marks_long in omega (arith, length_mark_all marks (at b));
              agree = cut_agree (UpTo capacity) e' e₀ (at b) (λ n i. (range n i).1) h.agree;
              links = λ n f. cut_other e' (at b) n (f b (omega arith)) ∙ h.links n (λ a k i. f a (omega arith) i);
              linked =
                  below_suc (λ a. Linked (cut e' (at b)) capacity (first_or0 (at a)) (at a)) b
                  (λ a k.
                  linked_kept e' (cut e' (at b)) capacity (first_or0 (at a)) (at a)
                  (λ n i. cut_other e' (at b) n (λ j. here_apart e₀ capacity buckets size before a b n i j k)) (h.linked a k))
                  (cut_linked e' capacity (get_or buckets b 0) (at b) (let k = h.agree.long in omega arith)
                  (here_distinct e₀ capacity buckets size before b)
                  (followed_open e' e₀ capacity size b capacity (met_in e₀ capacity buckets size before b) (get_or buckets b 0) same_links));
              heads =
                  below_suc (λ a. get_or (set heads b (first_or0 (at b))) a 0 ≡ first_or0 (at a)) b
                  (λ a k. get_or-set_other heads b a (first_or0 (at b)) 0 (λ same. omega arith) ∙ h.heads a k)
                  (get_or-set_same heads b (first_or0 (at b)) 0 (let k = h.long in omega arith));
              others = λ a k. get_or-set_other heads b a (first_or0 (at b)) 0 (λ same. omega arith) ∙ h.others a (omega arith);
              long = length-set heads b (first_or0 (at b)) ∙ h.long;
            })

    cut_to : (w : Work) → CutTo 0 w → (b : ℕ) → b ≤ size → CutTo b (cut_up_to capacity size b w)
    unfolding cut_up_to
    cut_to w h zero l = h
    cut_to w h (suc b) l = cut_step b (cut_up_to capacity size b w) l (cut_to w h b (omega arith))

    pub cut_all : (marks : List ℕ) → capacity ≤ length marks → Marks capacity marks before → Agree (UpTo capacity) e e₀
        → CutTo size (cut_up_to capacity size size (Work.work buckets e marks))
    unfolding marks_in entries_in buckets_in met_in
    cut_all marks l m h = cut_to (Work.work buckets e marks) start size (omega arith)
      where
        start : CutTo 0 (Work.work buckets e marks)
        start =
            record {
              marks = m;
              marks_long = l;
              agree = h;
              links = λ n f. refl;
              linked = λ a k. absurd (omega arith);
              heads = λ a k. absurd (omega arith);
              others = λ a k. refl;
              long = refl;
            }
