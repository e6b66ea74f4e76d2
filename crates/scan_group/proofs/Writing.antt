-- Writing the pairs of a chain to the lent list, one entry a turn, and those of a group, one chain a turn.
-- Assumes nothing.
use Prim.Native.Nat.{ℕ, suc, ◌+◌, ◌-◌, ◌*◌, ◌≤◌, ◌<◌, min}
use mathlib.Core.Path.{◌≡◌, refl, sym, ap, ◌∙◌}
use mathlib.Core.List.{List, [], ◌∷◌, ◌++◌, append-nil}
use mathlib.Core.Option.{Option}
use native.Mathlib.Omega.{arith}
use lib.ListN.{length, get_or, set, take, drop, length-set}
use lib.Seq.{sets, sets-eq, drop-drop}
use borrow.Rule.Slice.PartMut.{put_mid, Post-is}
use Rattle.std.proofs.Common.{inl, inr, append_assoc, length-append, length-drop, length-take}
use Rattle.std.proofs.lemmas.List.{take-append-drop, take_rest}
use Rattle.std.proofs.Math.Seq.{take-append_seam, drop-append_seam, drop-length, take-append-add, drop-append-add}
use Rattle.cursor.specs.Member.{In}
use Rattle.model.specs.Memory.{link_of, key_of, value_of, any_key, listed}
use Rattle.model.specs.Walk.{joined, pairs}
use Rattle.model.proofs.Linked.{Linked, room, read_sound, linked_first, linked_empty}
use Rattle.model.proofs.Pairs.{length_pairs}
use Rattle.scan_group.specs.declared.lent.Group.{Group}
use Rattle.scan_group.specs.Chains.{chains, linked, all_linked, larger_buckets, group_linked}
use Rattle.scan_group.specs.Written.{written, Writable}
use Rattle.scan_group.proofs.Buckets.{larger_below}
use Rattle.scan_group.proofs.Chains.{joined_parts}

-- An entry's fields are in the buffer, and it is one of the entries that are left. Both hold too where the chain is at its end.
pub record Reach (entries : List ℕ) (at : ℕ) (rest : List ℕ) : Type 0 where
  pub entry_fits : at * 3 ≤ length entries
  pub some_left : min at 1 ≤ length rest

reach_of : (entries : List ℕ) (at : ℕ) (rest : List ℕ) → Linked entries (room entries) at rest → Reach entries at rest
unfolding Linked room
reach_of entries at [] h = record { entry_fits = omega arith; some_left = omega arith }
reach_of entries at (n ∷ ns) h = record { entry_fits = omega arith; some_left = omega arith }

-- the pairs written, and those of the entries from here on, are those of the whole chain
pub record Writing (entries list₀ : List ℕ) (head at to : ℕ) (list : List ℕ) : Type 0 where
  pub rest : List ℕ
  pub links : Linked entries (room entries) at rest
  pub reach : Reach entries at rest
  pub same_length : length list ≡ length list₀
  pub place : to + length rest * 2 ≡ length (listed (linked entries head)) * 2
  pub fits : to + length rest * 2 ≤ length list₀
  pub so_far : sets list to (pairs entries rest) ≡ sets list₀ 0 (pairs entries (listed (linked entries head)))

module _ (entries list₀ : List ℕ) (head : ℕ) where
  pub writing_start : Writable list₀ (linked entries head) → Writing entries list₀ head head 0 list₀
  unfolding linked
  writing_start h =
      let links = (read_sound any_key entries (room entries) (room entries) head (listed (linked entries head)) h.sound).0 in
      record {
        rest = listed (linked entries head);
        links = links;
        reach = reach_of entries head (listed (linked entries head)) links;
        same_length = refl;
        place = omega arith;
        fits = omega (arith, h.fits);
        so_far = refl;
      }

  module _ (at to : ℕ) (list : List ℕ) (h : Writing entries list₀ head at to list) where
    pub writing_next : (key value link : ℕ) → (at ≡ 0 → ⊥) → key ≡ key_of entries at → value ≡ value_of entries at
        → link ≡ link_of entries at
        → Writing entries list₀ head link (to + 2) (set (set list to key) (to + 1) value)
    unfolding pairs
    writing_next key value link f k v l =
        let (more, first, behind) = linked_first entries (room entries) at h.rest (omega arith) h.links in
        let place = rw first at h.place in
        let fits = rw first at h.fits in
        let one : to + 1 ≡ suc to = omega arith in
        let two : to + 2 ≡ suc (suc to) = omega arith in
        record {
          rest = more;
          links = rw l behind;
          reach = reach_of entries link more (rw l behind);
          same_length = simp length-set h.same_length;
          place = omega arith;
          fits = omega arith;
          so_far = rw (one, two, k, v) (rw first at h.so_far);
        }

    module _ (e : at ≡ 0) where
      none_left : h.rest ≡ []
      none_left = linked_empty entries (room entries) at h.rest h.links e

      pub writing_end : Writable list₀ (linked entries head) → list ≡ written entries list₀ (linked entries head)
      unfolding pairs
      writing_end w =
          let l = length_pairs entries (listed (linked entries head)) in
          let all : 0 + length (pairs entries (listed (linked entries head))) ≡ length (listed (linked entries head)) * 2 = omega arith in
          (rw none_left at h.so_far) ∙ (rw all at (sets-eq (pairs entries (listed (linked entries head))) list₀ 0 (omega (arith, w.fits))))

      pub writing_place : to ≡ length (listed (linked entries head)) * 2
      writing_place = let place = rw none_left at h.place in omega arith

-- What is read in two parts is written in two parts, the second behind the first.

pairs_both : (entries ns ms : List ℕ) → pairs entries (ns ++ ms) ≡ pairs entries ns ++ pairs entries ms
unfolding pairs
pairs_both entries [] ms = refl
pairs_both entries (n ∷ ns) ms = ap (λ ps. key_of entries n ∷ value_of entries n ∷ ps) (pairs_both entries ns ms)

module _ (entries list : List ℕ) (a b : Option (List ℕ)) (h : Writable list (joined a b)) (to : ℕ)
    (p : to ≡ length (listed a) * 2) where
  pub first_writable : Writable list a
  first_writable = let parts = joined_parts a b h.sound in record { sound = parts.left; fits = omega (arith, parts.long, h.fits) }

  ends : to ≡ length (pairs entries (listed a))
  ends = p ∙ sym (length_pairs entries (listed a))

  front : take to (written entries list a) ≡ pairs entries (listed a)
  front = rw ends (take-append_seam _ _)

  behind : drop to (written entries list a) ≡ drop to list
  behind = rw (← p) (rw (← ends) at (drop-append_seam (pairs entries (listed a)) (drop to list)))

  module _ (list' : List ℕ) (w : list' ≡ written entries list a) where
    pub rest_writable : Writable (drop to list') b
    rest_writable =
        let parts = joined_parts a b h.sound in
        rw (w, behind) (record { sound = parts.right; fits = omega (arith, length-drop to list, parts.long, h.fits, p) })

    pub place_fits : to ≤ length list'
    place_fits = rw w (omega (arith, length-append (pairs entries (listed a)) (drop (length (listed a) * 2) list), ends))

    pub both_written : take to list' ++ written entries (drop to list') b ≡ written entries list (joined a b)
    both_written =
        let parts = joined_parts a b h.sound in
        let more : to + length (listed b) * 2 ≡ length (listed a ++ listed b) * 2 = omega (arith, p, length-append (listed a) (listed b)) in
        rw (w, front, behind, drop-drop (length (listed b) * 2) to list, more, parts.both, pairs_both)
        (sym (append_assoc (pairs entries (listed a)) (pairs entries (listed b)) _))

-- The pairs written, and those of the buckets that are left, are those of the group.
pub record WritingGroup (g : Group) (list₀ list : List ℕ) (to : ℕ) (bs : List ℕ) : Type 0 where
  pub below : (x : ℕ) → In x bs → x < g.large.size
  pub place : to ≤ length list
  pub writable : Writable (drop to list) (all_linked g.entries.fields.now g.large.buckets.now bs)
  pub so_far : take to list ++ written g.entries.fields.now (drop to list) (all_linked g.entries.fields.now g.large.buckets.now bs)
      ≡ written g.entries.fields.now list₀ (group_linked g)

module _ (g : Group) (list₀ list : List ℕ) (h : Writable list₀ (group_linked g)) where
  pub small_writable : Writable list₀ (linked g.entries.fields.now g.small.head)
  small_writable = first_writable g.entries.fields.now list₀ _ _ h _ refl

  pub group_start : (to : ℕ) → to ≡ length (listed (linked g.entries.fields.now g.small.head)) * 2
      → list ≡ written g.entries.fields.now list₀ (linked g.entries.fields.now g.small.head)
      → (bs : List ℕ) → bs ≡ larger_buckets g → WritingGroup g list₀ list to bs
  group_start to p w bs e =
      record {
        below = rw e (larger_below g);
        place = place_fits g.entries.fields.now list₀ _ _ h to p list w;
        writable = rw e (rest_writable g.entries.fields.now list₀ _ _ h to p list w);
        so_far = rw e (both_written g.entries.fields.now list₀ _ _ h to p list w);
      }

module _ (g : Group) (list₀ list : List ℕ) (to : ℕ) (bs rest : List ℕ) (h : WritingGroup g list₀ list to bs) where
  pub group_end : bs ≡ [] → list ≡ written g.entries.fields.now list₀ (group_linked g)
  unfolding all_linked chains listed pairs
  group_end e = sym (take-append-drop to list) ∙ (rw e at h.so_far)

  module _ (b : ℕ) (e : bs ≡ b ∷ rest) where
    pub next_below : b < g.large.size
    next_below = (rw e at h.below) b (inl refl)

    module _ (head : ℕ) (o : head ≡ get_or g.large.buckets.now b 0) where
      behind_it : Option (List ℕ)
      behind_it = all_linked g.entries.fields.now g.large.buckets.now rest

      joins : all_linked g.entries.fields.now g.large.buckets.now bs ≡ joined (linked g.entries.fields.now head) behind_it
      unfolding behind_it all_linked linked chains
      joins = rw (e, o)

      here : Writable (drop to list) (joined (linked g.entries.fields.now head) behind_it)
      here = rw joins at h.writable

      pub next_writable : Writable (take (length list - to) (drop to list)) (linked g.entries.fields.now head)
      next_writable = rw (take_rest list to) (first_writable g.entries.fields.now _ _ _ here _ refl)

      module _ (k : ℕ) (p : k ≡ length (listed (linked g.entries.fields.now head)) * 2) (sub : List ℕ)
          (v : sub ≡ written g.entries.fields.now (take (length list - to) (drop to list)) (linked g.entries.fields.now head)) where
        w : sub ≡ written g.entries.fields.now (drop to list) (linked g.entries.fields.now head)
        w = rw take_rest at v

        put : put_mid to (length list - to) list sub ≡ take to list ++ sub
        put = rw (Post-is to (length list) list h.place, drop-length list, append-nil)

        pub step_fits : to + k ≤ length list
        step_fits = let part = next_writable in omega (arith, p, part.fits, h.place, ap length (take_rest list to), length-drop to list)

        front_long : length (take to list) ≡ to
        front_long = omega (arith, length-take to list, h.place)

        pub group_next : WritingGroup g list₀ (put_mid to (length list - to) list sub) (to + k) rest
        unfolding behind_it
        group_next =
            let fits = place_fits g.entries.fields.now _ _ _ here k p sub w in
            let l = front_long in
            let taken : take (to + k) (take to list ++ sub) ≡ take to list ++ take k sub =
            rw l at (take-append-add (take to list) sub k) in
            let dropped : drop (to + k) (take to list ++ sub) ≡ drop k sub = rw l at (drop-append-add (take to list) sub k) in
            rw put (record {
              below = λ x i. (rw e at h.below) x (inr i);
              place = omega (arith, length-append (take to list) sub);
              writable = rw dropped (rest_writable g.entries.fields.now _ _ _ here k p sub w);
              so_far =
                  rw (taken, dropped)
                  (append_assoc (take to list) (take k sub) _
                  ∙ ap (λ ps. take to list ++ ps) (both_written g.entries.fields.now _ _ _ here k p sub w)
                  ∙ (rw joins at h.so_far));
            })
