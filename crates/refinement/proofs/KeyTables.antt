-- The sizes of the ideal's live tables stay legal with a start, a resize, a step, and calls on keys.
-- Assumes nothing.
use Prim.Native.Nat.{ℕ, zero, suc}
use mathlib.Core.Path.{◌≡◌, refl, subst}
use mathlib.Core.Bool.{Bool, true, false, ◌&&◌, cond}
use mathlib.Core.List.{List, [], ◌∷◌}
use native.Mathlib.Omega.{arith}
use Rattle.model.specs.Limits.{legal_capacity, legal_size}
use Rattle.model.specs.Answers.{Reply, reply}
use Rattle.model.specs.Calls.{long_enough}
use Rattle.model.specs.Walk.{Tables}
use Rattle.model.specs.Sequences.{KeyCall, Call, map_does}
use Rattle.refinement.specs.Demand3.{Lengths, Ideal, ideal, begun, start_number, start_answer, key_answer, resize_answer, after_step, step_answer, on_answer, predict}
use Rattle.invariant.proofs.Resize.{allowed}
use Rattle.refinement.proofs.IdealSteps.{any_step, any_resize, any_growth, any_first}
use Rattle.refinement.proofs.LiveTables.{Legal}

start_legal : (l : Lengths) (capacity size : ℕ) → start_number l capacity size ≡ 0 → legal_size size ≡ true
unfolding start_number
start_legal l capacity size =
    by (legal_capacity capacity) (legal_size size) (cond (long_enough capacity size l.first l.entries) 0 1)
  where
    by : (a b : Bool) (n : ℕ) → cond (a && b) n 6 ≡ 0 → b ≡ true
    by true true n e = refl
    by true false n e = absurd (omega arith)
    by false b n e = absurd (omega arith)

pub after_resize : (l : Lengths) (i : Ideal) → Legal i.tables → (size : ℕ) (t : Tables) → Legal t → Legal (resize_answer l i size t).state.tables
unfolding reply ideal Legal
after_resize l i legal size t h =
    any_resize l i (λ r. Legal r.state.tables) size t
    (λ old is a. let (fits, other, room) = allowed old _ size a in (subst Legal is h, fits, other))
    legal legal

module _ (l : Lengths) (i : Ideal) (legal : Legal i.tables) where
  pub after_start : (capacity size n : ℕ) → start_number l capacity size ≡ n → Legal (start_answer i capacity size n).state.tables
  unfolding start_answer reply begun ideal Legal
  after_start capacity size zero e = start_legal l capacity size e
  after_start capacity size (suc n) e = legal

  after_step_lem : (old new : ℕ) → Legal (Tables.two old new) → (count : ℕ) (unmoved : List ℕ) (next : ℕ)
      → Legal (after_step i old new count unmoved next).state.tables
  unfolding after_step reply ideal Legal
  after_step_lem old new h count [] next = h.1
  after_step_lem old new h count (k ∷ ks) next = h

  pub step_legal : Legal (step_answer i i.tables i.unmoved).state.tables
  unfolding reply
  step_legal =
      any_step i (λ r. Legal r.state.tables) i.tables i.unmoved (λ size e. legal) (λ some. legal)
      (λ old new e none. after_step_lem old new (subst Legal e legal))

  pub on_legal : (key : ℕ) (c : KeyCall) → Legal (predict l i (Call.on key c)).state.tables
  unfolding predict on_answer key_answer reply ideal
  on_legal key c =
      any_growth l (λ (j : Ideal). Legal j.tables) c r
      (λ old size e. after_resize l r.state before size (Tables.one old) (subst Legal e before)) before
    where
      r : Reply Ideal
      r = on_answer i c (map_does i.plain key c)

      before : Legal r.state.tables
      before = any_first i (λ (j : Ideal). Legal j.tables) c (map_does i.plain key c).number step_legal legal
