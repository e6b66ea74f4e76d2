-- The walks of a sequence of calls whose answers are as predicted, over legal tables: `walks_hold` bounds the answered calls
-- of each, and says that an ended one has handed out every key held at each of them. `covered` says so from any of its calls on.
-- Assumes nothing.
use Prim.Native.Nat.{ℕ, ◌+◌, ◌^◌, ◌<◌, ◌≤◌}
use mathlib.Core.Path.{◌≡◌, refl, sym, ap, subst}
use mathlib.Core.Logic.{◌≢◌, ◌⊎◌, inl, inr, ⊎_elim}
use mathlib.Core.Bool.{Bool, true, cond}
use mathlib.Core.List.{List, [], ◌∷◌}
use native.Mathlib.Nat.{max-eq_left, max-eq_right}
use native.Mathlib.Decide.{dec_le}
use native.Mathlib.Omega.{arith}
use lib.ListN.{length}
use Rattle.cursor.specs.Reverse.{reverse}
use Rattle.cursor.specs.Member.{In}
use Rattle.cursor.proofs.Reversal.{reverse_lt}
use Rattle.cursor.proofs.HighBits.{exponent_le}
use Rattle.cursor.proofs.Walks.{smaller, Ahead, ahead_zero, call_step, call_climbs}
use Rattle.model.specs.Sequences.{Event}
use Rattle.refinement.specs.Demand3.{Lengths, Ideal, Answered, Visit, Walk, largest, HeldAtEach, keys_handed, WalkHolds}
use Rattle.model.proofs.Lists.{in_left, in_right}
use Rattle.refinement.proofs.LiveTables.{Legal}
use Rattle.refinement.proofs.Trails.{Visited, Trail, trail}

-- ---- sizes

abbrev pub IsPower : ℕ → Type 0
IsPower n = (b : ℕ) × (2 ^ b ≡ n)

-- the size of the smaller live table is a power of two at each visit, ..
unfoldable pub Powers : List Visit → Type 0
Powers [] = Unit {0}
Powers (v ∷ vs) = IsPower v.size × Powers vs

pub powers : {due : ℕ} {visits : List Visit} {ended : Bool} → Trail due visits ended → Powers visits
unfolding Powers
powers Trail.over = tt
powers (Trail.onward v h on rest) = ((smaller h.live, h.size), powers rest)
powers (Trail.last v h) = ((smaller h.live, h.size), tt)

-- .. and so is the largest of them
pub largest_power : (v : Visit) (vs : List Visit) → Powers (v ∷ vs) → IsPower (largest (v ∷ vs))
unfolding Powers largest
largest_power v [] (power, rest) = subst IsPower (omega arith) power
largest_power v (w ∷ vs) (power, rest) =
    elim (dec_le v.size (largest (w ∷ vs))) [
      | yes h ↦ subst IsPower (sym (max-eq_right h)) (largest_power w vs rest)
      | no n ↦ subst IsPower (sym (max-eq_left (omega arith))) power
    ]

-- ---- the bound

-- where no size is above 2 ^ m the reversed cursor climbs by one at least with each visit but an ended walk's last
counted : (m : ℕ) {due : ℕ} {visits : List Visit} {ended : Bool} → Trail due visits ended → largest visits ≤ 2 ^ m
    → length visits + reverse m due + cond ended 0 1 ≤ 2 ^ m
unfolding largest
counted m (Trail.over {due}) fits = omega (arith, reverse_lt m due)
counted m (Trail.last {due} v h) fits = omega (arith, reverse_lt m due)
counted m (Trail.onward {due} {answered} v h on rest) fits =
    let size = h.size in
    let climb = call_climbs m h.live due h.valid (exponent_le (smaller h.live) m (omega arith)) (rw (h.next on) at on) in
    omega (arith, counted m rest (omega arith), rw (← h.next on) at climb)

-- ---- coverage

-- a key ahead that is held is handed out, or is ahead still
visit_step : {v : Visit} {due answered : ℕ} → Visited v due answered → (key : ℕ) → In key v.held → Ahead due key
    → In key v.handed ⊎ ((answered ≢ 0) × Ahead answered key)
visit_step {v} {due} {answered} h key held ahead =
    ⊎_elim
    (λ covers. inl (h.all key held covers))
    (λ on. inr (rw (h.next_held key held) on))
    (call_step h.live due key h.valid ahead)

-- an ended walk has handed out every key ahead that was held at each visit
pub covered : {due : ℕ} {visits : List Visit} {ended : Bool} → Trail due visits ended → ended ≡ true
    → (key : ℕ) → Ahead due key → HeldAtEach key visits → In key (keys_handed visits)
unfolding HeldAtEach keys_handed
covered Trail.over ended key ahead held = let z : ◌≡◌ {A = ℕ} 0 1 = cc in absurd (omega arith)
covered (Trail.last v h) ended key ahead held =
    ⊎_elim (λ i. in_left key v.handed [] i) (λ on. absurd (on.0 refl)) (visit_step h key held.0 ahead)
covered (Trail.onward {visits} v h on rest) ended key ahead held =
    ⊎_elim
    (λ i. in_left key v.handed (keys_handed visits) i)
    (λ on. in_right key v.handed (keys_handed visits) (covered rest ended key on.1 held.1))
    (visit_step h key held.0 ahead)

-- ---- the walks of a sequence

bounded : {visits : List Visit} {ended : Bool} → Trail 0 visits ended → 0 < length visits
    → length visits + cond ended 0 1 ≤ largest visits
bounded {visits = []} {ended = ended} t some = elim some [ ]
bounded {visits = v ∷ vs} t some =
    let (m, e) = largest_power v vs (powers t) in
    omega (arith, counted m t (omega arith))

pub walks_hold : (l : Lengths) (i : Ideal) (es : List Event) → Legal i.tables → Answered l i es
    → (visits : List Visit) (ended : Bool) → Walk l 0 i es visits ended → WalkHolds visits ended
walks_hold l i es legal a visits ended w =
    let t = trail legal a w in
    record {
      bound = λ e. elim (dec_le (length visits) 0) [ yes h ↦ omega arith | no n ↦ omega (arith, bounded t (omega arith)) ];
      bound_so_far = λ e some. omega (arith, bounded t some, ap (λ (x : Bool). cond {A = ℕ} x 0 1) e);
      covers = λ e key held. covered t e key (ahead_zero key) held;
    }
