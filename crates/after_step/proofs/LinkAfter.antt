-- One entry's link once a chain has moved, one entry of the chain a turn. A sound chain has no entry twice, and moving keeps
-- the keys: so an entry of the chain is linked to what heads its own bucket in its turn, and any other keeps its link.
-- Assumes nothing.
use Prim.Native.Nat.{ℕ, ◌+◌, ◌*◌, ◌≤◌, ◌<◌}
use mathlib.Core.Path.{◌≡◌, refl, sym, ap, ◌∙◌}
use mathlib.Core.Bool.{Bool, true, false, cond}
use mathlib.Core.List.{List, [], ◌∷◌}
use native.Mathlib.Nat.{mod-lt}
use native.Mathlib.Omega.{arith}
use lib.ListN.{length, get_or, set, length-set}
use lib.Seq.{get_or-set_same, get_or-set_other}
use lib.Dec.{eqb}
use borrow.Author.Tests.{eqb-true, eqb-false, eq-eqb, ne_eqb}
use Rattle.cursor.specs.Member.{In, Distinct}
use Rattle.model.specs.Keys.{hash, bucket_of}
use Rattle.model.specs.Memory.{link_of, key_of, set_link}
use Rattle.model.specs.Calls.{Chains, push, moved}
use Rattle.model.proofs.Fields.{length_set_link, link_set_same, key_set_link}
use Rattle.model.proofs.Moved.{moved_link}
use Rattle.model.proofs.Linked.{Linked, room, linked_unique, linked_distinct, linked_head, linked_first, link_set_other}
use Rattle.dict_rehash.specs.MovedChains.{ChainOf}
use Rattle.after_step.specs.Links.{LinkMoved}

-- ---- a chain moved

-- the link of entry n, whose own bucket has that head before the chain moves
module _ (size n own : ℕ) where
  pub link_through : List ℕ → ℕ → List ℕ → ℕ
  link_through entries head [] = link_of entries n
  link_through entries head (m ∷ ns) =
      cond (eqb m n) head (link_through entries (cond (eqb (bucket_of (key_of entries m) size) own) m head) ns)

  -- another entry linked anew changes nothing
  through_other : (entries : List ℕ) (m x head : ℕ) (ns : List ℕ) → (n ≡ m → ⊥)
      → link_through (set_link entries m x) head ns ≡ link_through entries head ns
  unfolding link_through
  through_other entries m x head [] f = link_set_other entries m n x f
  through_other entries m x head (k ∷ ns) f =
      let then = cond (eqb (bucket_of (key_of entries k) size) own) k head in
      rw key_set_link (ap (λ (z : ℕ). cond (eqb k n) head z) (through_other entries m x then ns f))

  new_head : (buckets : List ℕ) (b m : ℕ) (t : Bool) → eqb b own ≡ t → b < length buckets
      → get_or (set buckets b m) own 0 ≡ cond t m (get_or buckets own 0)
  new_head buckets b m true e l = rw (← eqb-true b own e) (get_or-set_same buckets b m 0 l)
  new_head buckets b m false e l = get_or-set_other buckets b own m 0 (λ f. eqb-false b own e (sym f))

  one_moved : (ns : List ℕ) (k : Chains) (m b : ℕ) (t : Bool) → (In m ns → ⊥) → eqb m n ≡ t
      → b ≡ bucket_of (key_of k.entries m) size → own ≡ bucket_of (key_of k.entries n) size → b < length k.buckets
      → 0 < n → n * 3 ≤ length k.entries
      → link_of (moved size ns (push b m k)).entries n
      ≡ link_through (push b m k).entries (get_or (push b m k).buckets own 0) ns
      → link_of (moved size ns (push b m k)).entries n
      ≡ cond t (get_or k.buckets own 0) (link_through k.entries (cond (eqb b own) m (get_or k.buckets own 0)) ns)
  unfolding push
  one_moved ns k m b true alone e be oe l p f rest =
      let same = eqb-true m n e in
      moved_link size ns (push b m k) n (λ i. alone (rw (← same) at i))
      ∙ (rw same (link_set_same k.entries n (get_or k.buckets b 0) p f))
      ∙ ap (λ (i : ℕ). get_or k.buckets i 0) (be ∙ (rw same (sym oe)))
  one_moved ns k m b false alone e be oe l p f rest =
      rest
      ∙ through_other k.entries m _ _ ns (λ i. eqb-false m n e (sym i))
      ∙ ap (λ (h : ℕ). link_through k.entries h ns) (new_head k.buckets b m (eqb b own) refl l)

  moved_through : (ns : List ℕ) (k : Chains) → Distinct ns → own ≡ bucket_of (key_of k.entries n) size → 0 < size
      → size ≤ length k.buckets → 0 < n → n * 3 ≤ length k.entries
      → link_of (moved size ns k).entries n ≡ link_through k.entries (get_or k.buckets own 0) ns
  unfolding moved link_through push bucket_of
  moved_through [] k d o s l p f = refl
  moved_through (m ∷ ns) k d o s l p f =
      let b = bucket_of (key_of k.entries m) size in
      let below : b < size = mod-lt (hash (key_of k.entries m)) s in
      let x = get_or k.buckets b 0 in
      one_moved ns k m b (eqb m n) d.0 refl refl o (omega arith) p f
      (moved_through ns (push b m k) d.1 (o ∙ ap (λ (key : ℕ). bucket_of key size) (sym (key_set_link k.entries m n x))) s
      (rw length-set l) p (rw length_set_link f))

-- ---- the loop

-- through the rest of the chain, with what heads the entry's bucket now, the link is what it is once the whole has moved
pub record Telling (size head count n : ℕ) (before : Chains) (own link at counter : ℕ) : Type 0 where
  pub rest : List ℕ
  pub linked : Linked before.entries (room before.entries) at rest
  pub left : counter + length rest ≡ count
  pub same : LinkMoved size head n (link_through size n own before.entries link rest) before

module _ (size head count n : ℕ) (before : Chains) where
  pub telling_start : (own key : ℕ) → ChainOf before.entries head count → key ≡ key_of before.entries n
      → own ≡ bucket_of key size → own < size → size ≤ length before.buckets → 0 < n → n * 3 ≤ length before.entries
      → Telling size head count n before own (get_or before.buckets own 0) head 0
  telling_start own key h k o s l p f =
      record {
        rest = h.ns;
        linked = h.linked;
        left = omega (arith, h.counted);
        same =
            record {
              each =
                  λ ns d.
                  let e = entries_same ns d in
                  rw e
                  (sym
                  (moved_through size n own ns before (linked_distinct before.entries (room before.entries) head ns d)
                  (o ∙ ap (λ (x : ℕ). bucket_of x size) k) (omega arith) l p f));
            };
      }
    where
      entries_same : (ns : List ℕ) → Linked before.entries (room before.entries) head ns → h.ns ≡ ns
      entries_same ns d = linked_unique before.entries (room before.entries) head h.ns ns h.linked d

  module _ (own link at counter : ℕ) (h : Telling size head count n before own link at counter) where
    -- the next entry is in the entry buffer
    pub telling_pos : counter < count → 0 < at
    unfolding Linked
    telling_pos l = pick h.rest h.linked h.left
      where
        pick : (rest : List ℕ) → Linked before.entries (room before.entries) at rest → counter + length rest ≡ count → 0 < at
        pick [] p e = absurd (omega arith)
        pick (m ∷ ns) p e = let q = p.0 in let r = p.1 in omega arith

    pub telling_fits : at * 3 ≤ length before.entries
    unfolding room
    telling_fits =
        let most = linked_head before.entries (room before.entries) at h.rest h.linked in
        omega arith

    pub telling_met : counter < count → at ≡ n → LinkMoved size head n link before
    unfolding link_through
    telling_met l e =
        let (more, first, behind) = linked_first before.entries (room before.entries) at h.rest (telling_pos l) h.linked in
        rw (first, eq-eqb at n e) at h.same

    pub telling_next : (key b link' next : ℕ) → counter < count → (at ≡ n → ⊥) → key ≡ key_of before.entries at
        → b ≡ bucket_of key size → link' ≡ cond (eqb b own) at link → next ≡ link_of before.entries at
        → Telling size head count n before own link' next (counter + 1)
    unfolding link_through
    telling_next key b link' next l f k be le ne =
        let (more, first, behind) = linked_first before.entries (room before.entries) at h.rest (telling_pos l) h.linked in
        let left = rw first at h.left in
        rw (le, be, k, ne)
        record {
          rest = more;
          linked = behind;
          left = omega arith;
          same = rw (first, ne_eqb at n f) at h.same;
        }

    pub telling_end : (r : ℕ) → count ≤ counter → r ≡ link_of before.entries n → LinkMoved size head n r before
    unfolding link_through
    telling_end r l e = rw e (pick h.rest h.left h.same)
      where
        pick : (rest : List ℕ) → counter + length rest ≡ count
            → LinkMoved size head n (link_through size n own before.entries link rest) before
            → LinkMoved size head n (link_of before.entries n) before
        pick [] e r = r
        pick (m ∷ ns) e r = absurd (omega arith)
