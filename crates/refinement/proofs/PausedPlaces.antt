-- While safe iterators hold up the rehash, no key moves: from call to call of the ideal a key that stays held stays at its
-- place (`place_stays`), though a rehash may begin.
-- Assumes nothing.
use Prim.Native.Nat.{ℕ, zero, suc, ◌<◌}
use mathlib.Core.Path.{◌≡◌, refl, ap}
use native.Mathlib.Omega.{arith}
use Rattle.cursor.specs.Member.{In}
use Rattle.model.specs.Answers.{Reply, reply}
use Rattle.model.specs.Sequences.{Call, keys_of}
use Rattle.refinement.specs.Demand3.{Lengths, Ideal, ideal, begun, start_number, start_answer, place_of, with_notes, predict}
use Rattle.refinement.proofs.IdealSteps.{any_hand, any_read, any_note, paused_stays}
use Rattle.refinement.proofs.KeyPlaces.{Stays, resize_place, on_place}

module _ (key : ℕ) (l : Lengths) (i : Ideal) (paused : 0 < i.iterators) where
  abbrev Same : Reply Ideal → Type 0
  Same r = place_of r.state key ≡ place_of i key

  start_place : (capacity size n : ℕ) → 0 < (start_answer i capacity size n).state.iterators
      → place_of (start_answer i capacity size n).state key ≡ place_of i key
  unfolding start_answer begun ideal reply
  start_place capacity size zero on = absurd (omega arith)
  start_place capacity size (suc n) on = refl

  -- A start answered 0 ends the count. (That the key is held before the call too is asked for the sake of calls that do what
  -- several do: in between, such a key might be gone and come back at another place.)
  pub place_stays : (c : Call) → 0 < (predict l i c).state.iterators → In key (keys_of i.plain.pairs)
      → Stays key i (predict l i c).state
  unfolding predict with_notes ideal reply place_of
  place_stays (Call.init capacity size) on was held = start_place capacity size (start_number l capacity size) on
  place_stays (Call.on k c) on was held = on_place key l i paused k c held
  place_stays (Call.resize size) on was held = resize_place key l i size i.tables refl held
  place_stays Call.rehash_step on was held = ap (λ (j : Ideal). place_of j key) (paused_stays i paused)
  place_stays (Call.scan cursor lent) on was held = any_hand i Same _ _ _ refl refl
  place_stays (Call.iterate place lent) on was held = any_hand i Same _ _ _ refl refl
  place_stays (Call.read c) on was held = any_read i Same c (λ vs. refl) refl
  place_stays (Call.note c) on was held = any_note i Same c (λ allowed iterators. refl) refl refl
