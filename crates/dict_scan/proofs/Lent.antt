-- From what is done with the live tables to the walk call on the lent buffers.
-- Assumes nothing.
use Prim.Native.Nat.{ℕ, ◌+◌, ◌≤◌, ◌<◌}
use mathlib.Core.Path.{◌≡◌, refl, sym, ap, ◌∙◌}
use mathlib.Core.Bool.{Bool, true, false, cond}
use mathlib.Core.Option as maybe
use mathlib.Core.List.{List}
use native.Mathlib.Omega.{arith}
use lib.ListN.{length}
use lib.Dec.{ltb, eqb}
use borrow.Author.Tests.{eq-eqb, ne_eqb, ltb-true, ltb-false}
use mir.Syntax.{w32}
use mir.Val.{Fits}
use Rattle.std.specs.Prelude.{Some, None, Ok}
use Rattle.cursor.specs.Group.{Group, one_table, two_tables}
use Rattle.model.specs.declared.State.{State}
use Rattle.model.specs.declared.Table.{Table}
use Rattle.model.specs.Keys.{bucket_of, hash}
use Rattle.model.specs.Memory.{size_of, used_of, keys_held, Place, head_at, belongs, budget_at, chain_at}
use Rattle.model.specs.Walk.{AfterScan, tables_by, tables_of, group, small_first, group_places, joined, chains_at, at_most, scanned}
use Rattle.model.specs.Walk as walk
use Rattle.model.proofs.AtMost.{at_most_few}
use Rattle.memory.specs.Lent.{sound_lent}
use Rattle.memory.proofs.Orientation.{reading_sound}
use Rattle.scan_group.specs.declared.lent.LiveTable.{LiveTable}
use Rattle.scan_group.specs.declared.lent.Lent.{Lent}
use Rattle.scan_group.specs.declared.lent.Group as lent
use Rattle.scan_group.specs.Lent.{IsChain, IsNew, Reads, InOrder}
use Rattle.scan_group.specs.Chains.{chain_from, table_chain, group_chains}
use Rattle.scan_group.proofs.Chains.{chain_is, joined_end, chain_short}
use Rattle.scan_group.proofs.SoundTables.{sound_at}
use Rattle.scan_group.proofs.Places.{current_of, other_of, oriented_call, IsLent, place_chain, place_chains, old_lent, new_lent}
use Rattle.dict_scan.specs.Groups.{scanned_two}

-- In a sound state with keys held.

module _ (s : State) (entries list : List ℕ) (cursor : ℕ) (current other : List ℕ) where
  scanned_by : Bool → AfterScan
  scanned_by rehashing =
      let tables = tables_by rehashing s.old_size s.new_size in
      scanned entries list (group tables cursor).answered
      (at_most (keys_held s) (chains_at s current other entries (group_places tables cursor)))

  -- one chain has no more entries than its table holds keys
  scanned_resting : scanned entries list (one_table s.old_size cursor).answered
      (chain_at s current other entries (Place.bucket Table.Old (bucket_of cursor s.old_size)))
      ≡ scanned_by false
  unfolding scanned_by tables_by group group_places one_table small_first chains_at chain_at budget_at used_of keys_held bucket_of hash
  scanned_resting =
      let place = Place.bucket Table.Old (bucket_of cursor s.old_size) in
      let read = chain_at s current other entries place in
      ap (scanned entries list (one_table s.old_size cursor).answered)
      (sym
      (at_most_few (s.old_used + s.new_used) read
      (omega (arith, chain_short (belongs s place) entries s.capacity s.old_used (head_at s current other place))))
      ∙ ap (at_most (s.old_used + s.new_used)) (sym (joined_end read)))

  -- the smaller table and the larger one, whichever they are
  group_of : Table → Table → Group
  group_of t u = two_tables (size_of s t) (size_of s u) cursor

  in_order : Table → Table → AfterScan
  in_order t u =
      scanned entries list (group_of t u).answered
      (at_most (keys_held s) (chains_at s current other entries (small_first t u (group_of t u))))

  scanned_rehashing : (old_smaller : Bool) → ltb s.old_size s.new_size ≡ old_smaller
      → cond old_smaller (in_order Table.Old Table.New) (in_order Table.New Table.Old) ≡ scanned_by true
  unfolding scanned_by tables_by group group_places in_order group_of size_of
  scanned_rehashing true e = rw e
  scanned_rehashing false e = rw e

  from_chains : (t u : Table) (f : List ℕ) (x y c k : ℕ) (o : maybe.Option (List ℕ)) → o ≡ chains_at s current other entries (small_first t u (two_tables x y c))
      → f ≡ entries → x ≡ size_of s t → y ≡ size_of s u → c ≡ cursor → k ≡ keys_held s
      → scanned f list (two_tables x y c).answered (at_most k o) ≡ in_order t u
  unfolding in_order group_of
  from_chains t u f x y c k o e i j l m n = rw (e, i, j, l, m, n)

  -- the chain of the smaller one, whose head was read
  first_read : (g : lent.Group) (t : Table) (small : LiveTable) → IsChain small (bucket_of g.cursor small.size) g.small
      → IsLent s current other entries t g.entries small
      → chain_from g.entries g.small (bucket_of g.cursor g.small.size)
      ≡ chain_at s current other entries (Place.bucket t (bucket_of g.cursor g.small.size))
  first_read g t small k a =
      let b = bucket_of g.cursor g.small.size in
      chain_is g.entries small b g.small (rw k.1 k.0, k.1, k.2) ∙ place_chain s current other entries t g.entries small a b

  order_read : (g : lent.Group) (t u : Table) (small : LiveTable) → IsChain small (bucket_of g.cursor small.size) g.small
      → IsLent s current other entries t g.entries small → IsLent s current other entries u g.entries g.large
      → group_chains g ≡ chains_at s current other entries (small_first t u (two_tables g.small.size g.large.size g.cursor))
  unfolding group_chains small_first chains_at two_tables bucket_of hash
  order_read g t u small k a b =
      rw (first_read g t small k a, place_chains s current other entries u g.entries g.large b)

  in_order_lem : (g : lent.Group) (t u : Table) → g.cursor ≡ cursor → used_of s t + used_of s u ≡ keys_held s
      → (small : LiveTable) → IsChain small (bucket_of cursor small.size) g.small
      → IsLent s current other entries t g.entries small → IsLent s current other entries u g.entries g.large
      → scanned_two g list ≡ in_order t u
  unfolding scanned_two
  in_order_lem g t u c keys small k a b =
      from_chains t u _ _ _ _ _ _ (order_read g t u small (rw c k) a b) a.fields_are (k.1 ∙ a.table_is.size_is) b.table_is.size_is c
      (rw (k.2, a.table_is.used_is, b.table_is.used_is) keys)

  one_read : (f : List ℕ) (x : ℕ) (o : maybe.Option (List ℕ))
      → o ≡ chain_at s current other entries (Place.bucket Table.Old (bucket_of cursor x)) → f ≡ entries → x ≡ s.old_size
      → scanned f list (one_table x cursor).answered o ≡ scanned_by false
  one_read f x o e i j = rw (e, i, j) scanned_resting

-- The call on the lent buffers.

module _ (s : State) (first second entries list : List ℕ) (cursor : ℕ)
    (h : sound_lent (length first) (length second) (length entries) s ≡ true) where
  -- the counts decide first
  sound_scan : cond (eqb (s.old_used + s.new_used) 0) (AfterScan.after (Ok (0, 0)) list)
      (scanned_by s entries list cursor (current_of s first second) (other_of s first second) s.rehashing)
      ≡ walk.scan s first second entries list cursor
  unfolding walk.scan keys_held scanned_by tables_of
  sound_scan = reading_sound s first second entries true (sym h) _ _ _ refl (oriented_call s _ first second)

  pub scan_nothing : s.old_used + s.new_used ≡ 0 → AfterScan.after (Ok (0, 0)) list ≡ walk.scan s first second entries list cursor
  scan_nothing z = rw (eq-eqb _ 0 z) at sound_scan

  pub held_fits : Fits w32 s.capacity → Fits w32 (s.old_used + s.new_used)
  held_fits f = let sound = sound_at s first second entries _ _ refl refl h in omega arith

  -- the tables of a group hold no more keys than there are entries
  pub group_fits : (l : Lent) → Reads s first second entries l → (t : LiveTable) → l.new ≡ Some t → (g : lent.Group)
      → InOrder l.entries l.old t cursor g → g.small.used + g.large.used ≤ g.entries.capacity
  group_fits l k t n g o = pick (ltb s.old_size s.new_size) refl
    where
      new : IsNew s (other_of s first second) t
      new = rw n at k.new_is

      pick : (old_smaller : Bool) → ltb s.old_size s.new_size ≡ old_smaller → g.small.used + g.large.used ≤ g.entries.capacity
      pick true b =
          let p = o.old_smaller (rw (k.old_is.size_is, new.is_table.size_is) (ltb-true _ _ b)) in
          rw (o.entries_are, p.0.2, p.1, k.old_is.used_is, new.is_table.used_is, k.capacity_is) k.keys_fit
      pick false b =
          let less : s.new_size < s.old_size = omega (arith, ltb-false _ _ b, new.sizes_differ) in
          let p = o.new_smaller (rw (k.old_is.size_is, new.is_table.size_is) less) in
          rw (o.entries_are, p.0.2, p.1, k.old_is.used_is, new.is_table.used_is, k.capacity_is) (omega (arith, k.keys_fit))

  module _ (z : s.old_used + s.new_used ≡ 0 → ⊥) (l : Lent) (k : Reads s first second entries l) (a : AfterScan) where
    held_scan : (rehashing : Bool) → s.rehashing ≡ rehashing
        → scanned_by s entries list cursor (current_of s first second) (other_of s first second) rehashing
        ≡ walk.scan s first second entries list cursor
    held_scan rehashing r = rw (← r) (rw (ne_eqb _ 0 z) at sound_scan)

    pub one_scanned : l.new ≡ None
        → a ≡ scanned l.entries.fields.now list (one_table l.old.size cursor).answered (table_chain l.entries l.old (bucket_of cursor l.old.size))
        → a ≡ walk.scan s first second entries list cursor
    unfolding size_of
    one_scanned n e =
        let i = old_lent s first second entries l k in
        e
        ∙ one_read s entries list cursor _ _ _ _ _ (place_chain s _ _ entries Table.Old l.entries l.old i _) i.fields_are i.table_is.size_is
        ∙ held_scan false (rw n at k.new_is)

    pub two_scanned : (t : LiveTable) → l.new ≡ Some t → (g : lent.Group) → InOrder l.entries l.old t cursor g
        → a ≡ scanned_two g list → a ≡ walk.scan s first second entries list cursor
    unfolding used_of keys_held
    two_scanned t n g o e = e ∙ pick (ltb s.old_size s.new_size) refl ∙ held_scan true new.rehashing
      where
        new : IsNew s (other_of s first second) t
        new = rw n at k.new_is

        old_is : IsLent s (current_of s first second) (other_of s first second) entries Table.Old g.entries l.old
        old_is = rw o.entries_are (old_lent s first second entries l k)

        new_is : IsLent s (current_of s first second) (other_of s first second) entries Table.New g.entries t
        new_is = rw o.entries_are (new_lent s first second entries l k t n)

        pick : (old_smaller : Bool) → ltb s.old_size s.new_size ≡ old_smaller
            → scanned_two g list
            ≡ scanned_by s entries list cursor (current_of s first second) (other_of s first second) true
        pick true b =
            let p = o.old_smaller (rw (k.old_is.size_is, new.is_table.size_is) (ltb-true _ _ b)) in
            in_order_lem s entries list cursor _ _ g Table.Old Table.New o.cursor_is refl l.old p.0 old_is (rw p.1 new_is)
            ∙ scanned_rehashing s entries list cursor _ _ true b
        pick false b =
            let less : s.new_size < s.old_size = omega (arith, ltb-false _ _ b, new.sizes_differ) in
            let p = o.new_smaller (rw (k.old_is.size_is, new.is_table.size_is) less) in
            in_order_lem s entries list cursor _ _ g Table.New Table.Old o.cursor_is (omega arith) t p.0 new_is (rw p.1 old_is)
            ∙ scanned_rehashing s entries list cursor _ _ false b
