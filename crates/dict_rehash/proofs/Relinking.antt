-- A chain's entries put into another table, one entry a turn.
-- Assumes nothing.
use Prim.Native.Nat.{ℕ, ◌+◌, ◌*◌, ◌≤◌, ◌<◌}
use mathlib.Core.Path.{◌≡◌, refl, ap, ◌∙◌}
use mathlib.Core.List.{List, [], ◌∷◌}
use native.Mathlib.Omega.{arith}
use lib.ListN.{length, get_or, set, length-set}
use Rattle.model.specs.Keys.{bucket_of}
use Rattle.model.specs.Memory.{link_of, key_of, set_link}
use Rattle.model.specs.Calls.{Chains, push, moved}
use Rattle.model.proofs.Fields.{length_set_link}
use Rattle.model.proofs.Linked.{Linked, room, linked_unique, linked_distinct, linked_head, linked_first, linked_kept, link_set_other}
use Rattle.dict_rehash.specs.MovedChains.{chains, ChainOf, ChainMoved, EntryMoved}

pub entry_moved : (size : ℕ) (buckets entries : List ℕ) (n next key b head m : ℕ) (entries' : List ℕ) → next ≡ link_of entries n
    → key ≡ key_of entries n → b ≡ bucket_of key size → head ≡ get_or buckets b 0 → m ≡ n → entries' ≡ set_link entries n head
    → EntryMoved size n next (chains buckets entries) (chains (set buckets b m) entries')
unfolding push
entry_moved size buckets entries n next key b head m entries' l k e h f r =
    record { link = l; pushed = rw (r, h, f, e, k) }

-- no chain repeats an entry, so linking its first entry anew leaves the rest as it was
rest_linked : (entries : List ℕ) (most at link : ℕ) (ns : List ℕ) → Linked entries most at (at ∷ ns)
    → Linked (set_link entries at link) most (link_of entries at) ns
unfolding Linked
rest_linked entries most at link ns h =
    let alone = (linked_distinct entries most at (at ∷ ns) h).0 in
    linked_kept entries (set_link entries at link) most (link_of entries at) ns
    (λ k i. link_set_other entries at k link (λ e. alone (rw e at i))) h.3

-- moving the rest of the chain gives what moving the whole of it gives
pub record Relinking (size head count : ℕ) (before now : Chains) (at counter : ℕ) : Type 0 where
  pub rest : List ℕ
  pub linked : Linked now.entries (room before.entries) at rest
  pub left : counter + length rest ≡ count
  pub same_buckets : length now.buckets ≡ length before.buckets
  pub same_entries : length now.entries ≡ length before.entries
  pub same : ChainMoved size head before (moved size rest now)

module _ (size head count : ℕ) (before : Chains) where
  pub relinking_start : ChainOf before.entries head count → Relinking size head count before before head 0
  relinking_start h =
      record {
        rest = h.ns;
        linked = h.linked;
        left = omega (arith, h.counted);
        same_buckets = refl;
        same_entries = refl;
        same =
            record {
              each =
                  λ ns l.
                  ap (λ (ms : List ℕ). moved size ms before)
                  (linked_unique before.entries (room before.entries) head h.ns ns h.linked l);
            };
      }

  module _ (now : Chains) (at counter : ℕ) (h : Relinking size head count before now at counter) where
    -- the next entry is in the entry buffer
    pub relinking_pos : counter < count → 0 < at
    unfolding Linked
    relinking_pos l = pick h.rest h.linked h.left
      where
        pick : (rest : List ℕ) → Linked now.entries (room before.entries) at rest → counter + length rest ≡ count → 0 < at
        pick [] p e = absurd (omega arith)
        pick (n ∷ ns) p e = let q = p.0 in let r = p.1 in omega arith

    pub relinking_fits : at * 3 ≤ length now.entries
    unfolding room
    relinking_fits =
        let most = linked_head now.entries (room before.entries) at h.rest h.linked in
        let same = h.same_entries in
        omega arith

    pub relinking_end : count ≤ counter → ChainMoved size head before now
    unfolding moved
    relinking_end l = pick h.rest h.left h.same
      where
        pick : (rest : List ℕ) → counter + length rest ≡ count → ChainMoved size head before (moved size rest now)
            → ChainMoved size head before now
        pick [] e r = r
        pick (n ∷ ns) e r = absurd (omega arith)

    pub relinking_next : (next : ℕ) (then : Chains) → counter < count → EntryMoved size at next now then
        → Relinking size head count before then next (counter + 1)
    unfolding moved push
    relinking_next next then l m =
        let (more, first, behind) = linked_first now.entries (room before.entries) at h.rest (relinking_pos l) h.linked in
        let place = bucket_of (key_of now.entries at) size in
        let left = rw first at h.left in
        rw (m.pushed, m.link)
        record {
          rest = more;
          linked =
              rest_linked now.entries (room before.entries) at (get_or now.buckets place 0) more
              (rw first at h.linked);
          left = omega arith;
          same_buckets = length-set now.buckets place at ∙ h.same_buckets;
          same_entries = length_set_link now.entries at (get_or now.buckets place 0) ∙ h.same_entries;
          same = rw first at h.same;
        }
