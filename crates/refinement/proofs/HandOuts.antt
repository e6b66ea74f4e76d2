-- How often the walks of a sequence hand out a key, and the keys that come later: `hand_outs`, where the answers are as
-- predicted, over legal tables. The laws of the line of reversed keys are those of cursor.
-- Assumes nothing.
use Prim.Native.Nat.{ℕ, ◌+◌, ◌*◌, ◌^◌, ◌<◌, ◌≤◌}
use mathlib.Core.Path.{◌≡◌, refl, sym, subst}
use mathlib.Core.Logic.{◌≢◌}
use mathlib.Core.Bool.{Bool, true, cond}
use mathlib.Core.List.{List, [], ◌∷◌, ◌++◌}
use native.Mathlib.Nat.{min-eq_left, min-eq_right}
use native.Mathlib.Decide.{dec_le, dec_lt}
use native.Mathlib.Omega.{arith}
use lib.Dec.{ltb}
use lib.Pow.{pow-add, pow-lt}
use borrow.Author.Tests.{lt-ltb, le-ltb}
use Rattle.cursor.specs.Reverse.{rev}
use Rattle.cursor.specs.Member.{In, keep}
use Rattle.cursor.proofs.HighBits.{exponent_le}
use Rattle.cursor.proofs.Walks.{smaller, group_of, Near, Behind, valid_smaller, ahead_zero, again_smaller, handed_behind, behind_call, behind_stays}
use Rattle.model.specs.Sequences.{Event}
use Rattle.refinement.specs.Demand3.{Lengths, Ideal, Answered, Visit, visit, Walk, largest, HeldAtEach, keys_handed}
use Rattle.refinement.specs.ExactlyOnce.{times, NotShrinking, shrinks, least, HandOuts}
use Rattle.refinement.proofs.LiveTables.{Legal}
use Rattle.refinement.proofs.Counts.{count, count_append, count_once, count_in, in_count, counts_distinct}
use Rattle.refinement.proofs.Trails.{Visited, Trail, trail}
use Rattle.refinement.proofs.Walks.{IsPower, Powers, powers, largest_power, covered}

-- ---- sizes

-- 1 if the smaller live table is smaller at the second visit, else 0
abbrev shrunk : Visit → Visit → ℕ
shrunk u v = cond (ltb v.size u.size) 1 0

is_shrunk : (u v : Visit) → v.size < u.size → shrunk u v ≡ 1
is_shrunk u v h = rw (lt-ltb v.size u.size h)

no_shrinks : (visits : List Visit) → NotShrinking visits → shrinks visits ≡ 0
unfolding NotShrinking shrinks
no_shrinks [] h = refl
no_shrinks (v ∷ []) h = refl
no_shrinks (v ∷ w ∷ vs) (le, h) = rw (le-ltb w.size v.size le) (omega (arith, no_shrinks (w ∷ vs) h))

more_shrinks : (v : Visit) (visits : List Visit) → shrinks visits ≤ shrinks (v ∷ visits)
unfolding shrinks
more_shrinks v [] = omega arith
more_shrinks v (w ∷ vs) = omega arith

-- the size is not below m at any visit
NotUnder : ℕ → List Visit → Type 0
NotUnder m [] = Unit {0}
NotUnder m (v ∷ vs) = (m ≤ v.size) × NotUnder m vs

not_under : (m : ℕ) (visits : List Visit) → m ≤ least visits → NotUnder m visits
unfolding NotUnder least
not_under m [] h = tt
not_under m (v ∷ []) h = (h, tt)
not_under m (v ∷ w ∷ vs) h = (omega arith, not_under m (w ∷ vs) (omega arith))

least_power : (v : Visit) (vs : List Visit) → Powers (v ∷ vs) → IsPower (least (v ∷ vs))
unfolding Powers least
least_power v [] (power, rest) = power
least_power v (w ∷ vs) (power, rest) =
    elim (dec_le v.size (least (w ∷ vs))) [
      | yes h ↦ subst IsPower (sym (min-eq_left h)) power
      | no n ↦ subst IsPower (sym (min-eq_right (omega arith))) (least_power w vs rest)
    ]

module _ (key : ℕ) where
  abbrev count_at : Visit → ℕ
  count_at v = count key v.handed

  -- how often the visits hand out the key, visit by visit
  total : List Visit → ℕ
  total [] = 0
  total (v ∷ vs) = count_at v + total vs

  times_total : (visits : List Visit) → times key visits ≡ total visits
  unfolding times keys_handed keep total
  times_total [] = refl
  times_total (v ∷ vs) = omega (arith, count_append key v.handed (keys_handed vs), times_total vs)

  -- ---- one visit

  module _ {v : Visit} {due answered : ℕ} (h : Visited v due answered) where
    -- the exponent of the smaller live table's size
    abbrev bits : ℕ
    bits = smaller h.live

    few : bits ≤ 32
    few = valid_smaller h.live h.valid

    -- it hands the key out once or not at all, ..
    once : count_at v ≤ 1
    once = count_once key v.handed h.once

    near : 0 < count_at v → Near h.live due key
    near some = h.only key (count_in key v.handed some)

    -- .. a key that is behind only at a smaller size
    again : (p : ℕ) → Behind p due key → 0 < count_at v → bits < p
    again p behind some = again_smaller p h.live due key behind (near some)

    -- Where the walk goes on a key that it has handed out is behind, ..
    module _ (on : answered ≢ 0) where
      going : (group_of h.live due).answered ≢ 0
      going = rw (h.next on) at on

      now_behind : 0 < count_at v → Behind bits answered key
      now_behind some = rw (h.next on) (handed_behind h.live due key h.valid going (near some))

      -- .. and one that was behind is so still: at this size, and at the one at which it was
      still_behind : (p : ℕ) → p ≤ 32 → Behind p due key → Behind bits answered key
      still_behind p fits behind = rw (h.next on) (behind_call h.live due key h.valid going p fits behind)

      stays_behind : (p : ℕ) → p ≤ 32 → Behind p due key → Behind p answered key
      stays_behind p fits behind = rw (h.next on) (behind_stays h.live due key h.valid going p fits behind)

  -- ---- visits that shrink

  -- a key that is behind at the size of the visit before is handed out only if the size shrinks, ..
  again_shrunk : (u : Visit) (p : ℕ) → 2 ^ p ≡ u.size → {v : Visit} {due answered : ℕ} → Visited v due answered
      → Behind p due key → count_at v ≤ shrunk u v
  again_shrunk u p power {v} h behind =
      elim (dec_lt 0 (count_at v)) [
        | yes some ↦
            let size = h.size in
            omega (arith, once h, is_shrunk u v (omega (arith, pow-lt (again h p behind some))))
        | no none ↦ omega arith
      ]

  -- .. and so from visit to visit
  behind_times : (u : Visit) (p : ℕ) → p ≤ 32 → 2 ^ p ≡ u.size → {due : ℕ} {visits : List Visit} {ended : Bool}
      → Trail due visits ended → Behind p due key → total visits ≤ shrinks (u ∷ visits)
  unfolding total shrinks
  behind_times u p fits power Trail.over behind = omega arith
  behind_times u p fits power (Trail.last v h) behind = omega (arith, again_shrunk u p power h behind)
  behind_times u p fits power (Trail.onward v h on rest) behind =
      let more = behind_times v (bits h) (few h) h.size rest (still_behind h on p fits behind) in
      omega (arith, again_shrunk u p power h behind)

  -- any key is handed out at most once more
  most_times : {due : ℕ} {visits : List Visit} {ended : Bool} → Trail due visits ended → total visits ≤ 1 + shrinks visits
  unfolding total shrinks
  most_times Trail.over = omega arith
  most_times (Trail.last v h) = omega (arith, once h)
  most_times (Trail.onward {visits} v h on rest) =
      elim (dec_lt 0 (count_at v)) [
        | yes some ↦ omega (arith, once h, behind_times v (bits h) (few h) h.size rest (now_behind h on some))
        | no none ↦ omega (arith, most_times rest, more_shrinks v visits)
      ]

  -- ---- halvings

  -- a key that is behind at size 2 ^ p is handed out only at half that size or less, ..
  again_lower : (m p : ℕ) → m ≤ p → {v : Visit} {due answered : ℕ} → Visited v due answered → Behind p due key
      → 2 ^ m ≤ v.size → count_at v + m ≤ p
  again_lower m p low {v} h behind above =
      elim (dec_lt 0 (count_at v)) [
        | yes some ↦
            let size = h.size in
            omega (arith, once h, again h p behind some, exponent_le m (bits h) (omega arith))
        | no none ↦ omega arith
      ]

  -- .. and so at most once for each halving from there to the least size, 2 ^ m
  behind_halvings : (m p : ℕ) → m ≤ p → p ≤ 32 → {due : ℕ} {visits : List Visit} {ended : Bool} → Trail due visits ended
      → Behind p due key → NotUnder (2 ^ m) visits → total visits + m ≤ p
  unfolding total NotUnder
  behind_halvings m p low fits Trail.over behind above = omega arith
  behind_halvings m p low fits (Trail.last v h) behind above = omega (arith, again_lower m p low h behind above.0)
  behind_halvings m p low fits (Trail.onward v h on rest) behind above =
      elim (dec_lt 0 (count_at v)) [
        | yes some ↦
            let size = h.size in
            let lower = exponent_le m (bits h) (omega (arith, above.0)) in
            let more = behind_halvings m (bits h) lower (few h) rest (now_behind h on some) above.1 in
            omega (arith, once h, again h p behind some)
        | no none ↦ omega (arith, behind_halvings m p low fits rest (stays_behind h on p fits behind) above.1)
      ]

  -- any key is handed out at most once more, from the largest size on, 2 ^ top
  most_halvings : (m top : ℕ) → m ≤ top → {due : ℕ} {visits : List Visit} {ended : Bool} → Trail due visits ended
      → largest visits ≤ 2 ^ top → NotUnder (2 ^ m) visits → total visits + m ≤ 1 + top
  unfolding total largest NotUnder
  most_halvings m top low Trail.over within above = omega arith
  most_halvings m top low (Trail.last v h) within above = omega (arith, once h)
  most_halvings m top low (Trail.onward v h on rest) within above =
      elim (dec_lt 0 (count_at v)) [
        | yes some ↦
            let size = h.size in
            let lower = exponent_le m (bits h) (omega (arith, above.0)) in
            let upper = exponent_le (bits h) top (omega arith) in
            let more = behind_halvings m (bits h) lower (few h) rest (now_behind h on some) above.1 in
            omega (arith, once h)
        | no none ↦ omega (arith, most_halvings m top low rest (omega arith) above.1)
      ]

  -- the exponents of the largest and the least size tell the halvings between them
  halvings_hold : {visits : List Visit} {ended : Bool} → Trail 0 visits ended
      → (n : ℕ) → largest visits ≤ 2 ^ n * least visits → total visits ≤ 1 + n
  unfolding total largest NotUnder
  halvings_hold {visits = []} t n h = omega arith
  halvings_hold {visits = v ∷ vs} t n h =
      let (m, low) = least_power v vs (powers t) in
      let (top, high) = largest_power v vs (powers t) in
      let above = not_under (2 ^ m) (v ∷ vs) (omega arith) in
      let lower = exponent_le m top (omega (arith, above.0)) in
      let upper = exponent_le top (n + m) (rw (pow-add 2 n m, low, high) h) in
      omega (arith, most_halvings m top lower t (omega arith) above)

-- ---- a walk from one of its visits on

from_first : {due : ℕ} {v : Visit} {after : List Visit} {ended : Bool} → Trail due (v ∷ after) ended
    → Trail v.cursor (v ∷ after) ended
from_first {v} {after} {ended} t = subst (λ (c : ℕ). Trail c (v ∷ after) ended) (sym (given t)) t
  where
    given : {due : ℕ} {v : Visit} {after : List Visit} {ended : Bool} → Trail due (v ∷ after) ended → v.cursor ≡ due
    given (Trail.onward v h on rest) = h.given
    given (Trail.last v h) = h.given

from_second : {due : ℕ} {u v : Visit} {after : List Visit} {ended : Bool} → Trail due (u ∷ v ∷ after) ended
    → (answered : ℕ) × Trail answered (v ∷ after) ended
from_second (Trail.onward {answered} u h on rest) = (answered, rest)

from_visit : (before : List Visit) (v : Visit) (after : List Visit) {due : ℕ} {ended : Bool}
    → Trail due (before ++ v ∷ after) ended → Trail v.cursor (v ∷ after) ended
from_visit [] v after t = from_first t
from_visit (u ∷ []) v after t = from_first (from_second t).1
from_visit (u ∷ w ∷ before) v after t = from_visit (w ∷ before) v after (from_second t).1

-- ---- the walks of a sequence

pub hand_outs : (l : Lengths) (i : Ideal) (es : List Event) → Legal i.tables → Answered l i es
    → (visits : List Visit) (ended : Bool) → Walk l 0 i es visits ended → HandOuts visits ended
unfolding times rev
hand_outs l i es legal a visits ended w =
    let t = trail legal a w in
    let most : (key : ℕ) → times key visits ≤ 1 + shrinks visits = λ key. omega (arith, times_total key visits, most_times key t) in
    record {
      at_most_once =
          λ steady. counts_distinct (keys_handed visits) (λ key. omega (arith, most key, no_shrinks visits steady));
      exactly_once =
          λ steady e key held.
          let some = in_count key (keys_handed visits) (covered t e key (ahead_zero key) held) in
          omega (arith, most key, no_shrinks visits steady);
      doubles = most;
      halvings = λ n h key. omega (arith, times_total key visits, halvings_hold key t n h);
      later = λ e before v after split key held ahead. covered (from_visit before v after (rw split at t)) e key ahead held;
    }

-- Coverage is `later` at the first visit, whose cursor is 0.

first_cursor : {l : Lengths} {due : ℕ} {i : Ideal} {es : List Event} {v : Visit} {vs : List Visit} {ended : Bool}
    → Walk l due i es (v ∷ vs) ended → v.cursor ≡ due
unfolding visit
first_cursor (Walk.other w) = first_cursor w
first_cursor (Walk.onward lent c n on w) = refl
first_cursor (Walk.last lent c n z) = refl

no_visits : {l : Lengths} {due : ℕ} {i : Ideal} {es : List Event} → Walk l due i es [] true → ⊥
no_visits (Walk.other w) = no_visits w

pub later_covers : {l : Lengths} {i : Ideal} {es : List Event} {visits : List Visit} → Walk l 0 i es visits true
    → HandOuts visits true → (key : ℕ) → HeldAtEach key visits → In key (keys_handed visits)
unfolding rev
later_covers {visits = []} w h key held = absurd (no_visits w)
later_covers {visits = v ∷ vs} w h key held =
    h.later refl [] v vs refl key held (rw (first_cursor w) (ahead_zero key))
