-- Some of the stores are excluded by demand 2 too. It is about any undamaged store: here the one that a start of ours makes,
-- and those that the wrong store's own calls make of it, undamaged by demand 2 itself.
-- Assumes nothing.
use Prim.Native.Nat.{ℕ}
use mathlib.Core.Path.{refl}
use mathlib.Core.Logic.{inl}
use mathlib.Core.List.{List, [], ◌∷◌}
use mathlib.Core.Option.{Option, none, some}
use lib.ListN.{get_or}
use lib.Dec.{lit<}
use borrow.Author.Tests.{eqb-false}
use Rattle.model.specs.declared.Table.{Table}
use Rattle.model.specs.Memory.{Place}
use Rattle.model.specs.Sequences.{World, KeyCall, Call, Outcome, carry, PlainMap, map_does}
use Rattle.refinement.specs.Worlds.{UndamagedAt, Holds}
use Rattle.refinement.specs.Demand2.{Demand2}
use Rattle.wrong_stores.specs.KeyCalls.{finds_nothing, finds_zero, writes_nothing, adds_loop}
use Rattle.wrong_stores.specs.Walks as walks
use Rattle.wrong_stores.specs.Walks.{backwards}
use Rattle.wrong_stores.specs.Passes.{iterates_backwards}
use Rattle.wrong_stores.proofs.Start.{computing, started, reached_holds, room, apart, differ, held}

-- a start of one bucket and three entries, all free
fresh : World
fresh = started 1

no_pairs : PlainMap
no_pairs = record { capacity = 3; pairs = [] }

-- undamaged, and with that map's pairs
record Stands (w : World) (m : PlainMap) : Type 0 where
  undamaged : UndamagedAt w
  holds : Holds w m

onward : {does : World → Call → Outcome} {w : World} {m : PlainMap} → Demand2 does → Stands w m → (key : ℕ) (c : KeyCall)
    → Stands (carry w (does w (Call.on key c))) (map_does m key c).state
onward {does} {w} {m} d s key c =
    let r = d.as_the_map w m s.undamaged s.holds key c in
    record { undamaged = r.undamaged; holds = r.holds }

stands : Stands fresh no_pairs
unfolding computing fresh no_pairs
stands =
    let (undamaged, matches) = reached_holds 1 refl [] in
    record { undamaged = undamaged; holds = matches.contents }

-- `as_the_map`. The number is the map's, ..
pub finds_nothing_excluded_by_demand2 : Demand2 finds_nothing → ⊥
unfolding computing finds_nothing fresh no_pairs
finds_nothing_excluded_by_demand2 d =
    let s = onward d stands 1 (KeyCall.add 10) in
    eqb-false 3 0 refl (d.as_the_map _ _ s.undamaged s.holds 1 KeyCall.find).number

-- .. and so are the values; ..
pub finds_zero_excluded_by_demand2 : Demand2 finds_zero → ⊥
unfolding computing finds_zero fresh no_pairs
finds_zero_excluded_by_demand2 d =
    let s = onward d stands 1 (KeyCall.add 10) in
    differ 0 (0 ∷ []) (10 ∷ []) refl (d.as_the_map _ _ s.undamaged s.holds 1 KeyCall.find).values

-- .. the store stays undamaged, ..
pub adds_loop_excluded_by_demand2 : Demand2 adds_loop → ⊥
unfolding computing adds_loop fresh no_pairs
adds_loop_excluded_by_demand2 d =
    apart {A = Option (List ℕ)} (λ o. elim o [ none ↦ 0 | some ns ↦ 1 ]) none (some []) refl
    ((d.as_the_map fresh no_pairs stands.undamaged stands.holds 1 (KeyCall.add 10)).undamaged.chains_sound
    (Place.bucket Table.Old 0) (lit< tt))

-- .. and holds the map's pairs.
pub writes_nothing_excluded_by_demand2 : Demand2 writes_nothing → ⊥
unfolding computing writes_nothing fresh no_pairs
writes_nothing_excluded_by_demand2 d =
    let s = onward d (onward d stands 1 (KeyCall.add 10)) 1 (KeyCall.update 20) in
    apart {A = Option ℕ} (λ o. elim o [ none ↦ 0 | some value ↦ value ]) (some 20) (some 10) refl
    (s.holds.in_map 1 10 (held 1 Table.Old 0 (lit< tt) (inl refl) refl refl))

-- `hands_out`. The pairs come in chain order.
pub backwards_excluded_by_demand2 : Demand2 backwards → ⊥
unfolding computing backwards walks.handing walks.handing_out fresh no_pairs
backwards_excluded_by_demand2 d =
    let s = onward d (onward d stands 1 (KeyCall.add 11)) 0 (KeyCall.add 10) in
    apart (λ (o : Outcome). get_or o.lent 0 0) _ _ refl (d.hands_out _ s.undamaged 0 room refl)

-- `iterates_out`. And so with a call that iterates.
pub iterates_backwards_excluded_by_demand2 : Demand2 iterates_backwards → ⊥
unfolding computing iterates_backwards fresh no_pairs
iterates_backwards_excluded_by_demand2 d =
    let s = onward d (onward d stands 1 (KeyCall.add 11)) 0 (KeyCall.add 10) in
    apart (λ (o : Outcome). get_or o.lent 0 0) _ _ refl (d.iterates_out _ s.undamaged 0 room refl)
