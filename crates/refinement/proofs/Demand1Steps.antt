-- The calls that take a step first go by the table too: first by the step's row, and then by their own in the world that the
-- step leaves. So does one that growth follows. With them all calls do.
-- Assumes nothing.
use Prim.Native.Nat.{ℕ, suc, ◌<◌}
use mathlib.Core.Path.{◌≡◌, refl, sym, ap, ap₂, subst, ◌∙◌}
use mathlib.Core.Bool.{Bool, true, false, ◌&&◌}
use mathlib.Core.List.{List, [], ◌∷◌}
use mathlib.Core.Logic.{inl, inr}
use native.Mathlib.Omega.{arith}
use Rattle.model.specs.Answers.{reply, step_reply}
use Rattle.model.specs.Calls.{After, paused, step_due}
use Rattle.model.specs.Calls as calls
use Rattle.model.specs.Sequences.{World, world, KeyCall, Call, Outcome, kept, left, given, perform, carried_state, carry}
use Rattle.model.proofs.Tests.{Tells, true_not_false, told_not, tells_true, tells_le}
use Rattle.model.proofs.StepLeaves.{RehashLeaves, rehash_leaves}
use Rattle.model.proofs.StepFirst.{due_facts}
use Rattle.refinement.specs.Worlds.{takes_step}
use Rattle.refinement.specs.Demand1.{BadState, StepDamaged, Row, row, key_rows, alone_rows, step_world, on_rows, rows, Decides, Leaves, key_zeros, LeavesAll}
use Rattle.refinement.specs.Demand3.{lengths_of}
use Rattle.refinement.proofs.Orientation.{sound_at, oriented_read}
use Rattle.refinement.proofs.HiddenSteps.{alone, before_growth, Rides, some_number, on_rides, on_alone}
use Rattle.refinement.proofs.Demand1Calls.{Refuses, Good, decides, alone_good, step_good}
use Rattle.refinement.proofs.Growth.{Follows, grown_lengths, follows}
use Rattle.std.specs.Prelude.{Result, Ok, Err}
use Rattle.model.specs.declared.Error.{Error}
use Rattle.model.specs.declared.State.{State}

-- rows of refusals: their numbers are not 0
unfoldable pub Numbered : List Row → Type 0
Numbered [] = Unit {0}
Numbered (r ∷ rs) = (n : ℕ) × (r.number ≡ suc n) × Numbered rs

key_numbered : (w : World) (key : ℕ) (c : KeyCall) → Numbered (alone_rows w key c)
unfolding Numbered alone_rows key_rows row
key_numbered w key KeyCall.find = (1, refl, (2, refl, tt))
key_numbered w key (KeyCall.update value) = (1, refl, (2, refl, tt))
key_numbered w key (KeyCall.add value) = (1, refl, (3, refl, (4, refl, (1, refl, tt))))
key_numbered w key KeyCall.delete = (1, refl, (2, refl, tt))

-- From one world to another whose buffers are as long: where the one refuses, so does the other, and leaves its own; and
-- where the one answers, so does the other, and both leave the same lengths.
module _ (w v : World) (c : Call) (o then : Outcome) (same : lengths_of v ≡ lengths_of w)
    (refuses : (n : ℕ) → then.reply.number ≡ suc n → Refuses w c (suc n) o)
    (answers : then.reply.number ≡ 0 → (o.reply.number ≡ 0) × (lengths_of (carry w o) ≡ lengths_of (carry v then))) where
  carried : (rs : List Row) → Numbered rs → Good v c rs then → Good w c rs o
  unfolding Numbered
  carried (r ∷ rs) (n, is, more) (Good.refused g q) =
      Good.refused g (subst (λ (m : ℕ). Refuses w c m o) (sym is) (refuses n (q.0 ∙ is)))
  carried (r ∷ rs) (n, is, more) (Good.past f g) = Good.past f (carried rs more g)
  carried [] m (Good.answered z l) = let (zero, lengths) = answers z in Good.answered zero (lengths ∙ l ∙ same)

module _ (w : World) where
  -- no safe iterator holds up a step that is due
  due_unpaused : step_due w.state ≡ true → ¬ (0 < w.state.safe_iterators)
  unfolding paused
  due_unpaused due = told_not (tells_le 1 w.state.safe_iterators) (due_facts w.state due).1

  -- what an answered step leaves
  step_facts : step_due w.state ≡ true → sound_at w ≡ true → (perform w Call.rehash_step).reply.number ≡ 0
      → (¬ BadState (step_world w)) × (lengths_of (step_world w) ≡ lengths_of w)
  unfolding step_world perform given BadState RehashLeaves world carry carried_state left step_reply reply lengths_of
  step_facts due h =
      let (rehashing, unpaused) = due_facts w.state due in
      by (given w calls.rehash_step)
      (rehash_leaves w.state w.first w.second w.entries rehashing unpaused (oriented_read w (λ current other. calls.sound w.state current other w.entries) ∙ h))
    where
      by : (a : After (Result (ℕ × State) Error)) → RehashLeaves w.state w.first w.second w.entries a
          → (left (step_reply w.state) a).reply.number ≡ 0
          → (¬ BadState (carry w (left (step_reply w.state) a)))
          × (lengths_of (carry w (left (step_reply w.state) a)) ≡ lengths_of w)
      by (After.after (Err error) x y z) l n =
          let (m, is) = some_number error in absurd (omega arith)
      by (After.after (Ok (count, t)) x y z) l n = (
        λ b. b (sym (oriented_read (world t x y z) (λ current other. calls.sound t current other z)) ∙ l.4),
        λ k. record { first = l.0 k; second = l.1 k; entries = l.2 k },
      )

  module _ (key : ℕ) (c : KeyCall) (takes : takes_step c ≡ true) (due : step_due w.state ≡ true) where
    abbrev call : Call
    call = Call.on key c

    abbrev step : Outcome
    step = perform w Call.rehash_step

    abbrev o : Outcome
    o = before_growth w key c

    abbrev table : List Row
    table = row 1 (BadState w) ∷ row 2 (StepDamaged w) ∷ alone_rows (step_world w) key c

    no_values : (c : KeyCall) → takes_step c ≡ true → key_zeros c ≡ []
    unfolding takes_step key_zeros
    no_values KeyCall.find t = let z : ◌≡◌ {A = ℕ} 0 1 = cc in absurd (omega arith)
    no_values (KeyCall.update value) t = let z : ◌≡◌ {A = ℕ} 0 1 = cc in absurd (omega arith)
    no_values (KeyCall.add value) t = refl
    no_values KeyCall.delete t = refl

    -- refused, and all as it was
    leaves_all : (n : ℕ) → o ≡ kept w (reply (suc n) [] w.state) [] → Refuses w call (suc n) o
    unfolding LeavesAll Leaves kept reply
    leaves_all n is =
        let number : o.reply.number ≡ suc n = ap (λ (p : Outcome). p.reply.number) is in (
          number,
          is ∙ ap₂ (λ (m : ℕ) (vs : List ℕ). kept w (reply m vs w.state) []) (sym number) (sym (no_values c takes)),
        )

    -- the step's own rows
    step_row : Decides step.reply.number (rows w Call.rehash_step)
    step_row = decides (step_good w)

    refused_good : (n : ℕ) → step.reply.number ≡ suc n → o ≡ kept w (reply (suc n) [] w.state) [] → Good w call table o
    unfolding rows row Decides
    refused_good n is stays =
        elim step_row [
          | inl (bad, one) ↦ Good.refused bad (by 1 one)
          | inr (good, inl (f, eight)) ↦ absurd (true_not_false (sym (due_facts w.state due).0 ∙ f))
          | inr (good, inr (f, inl (held_up, eighteen))) ↦ absurd (due_unpaused due held_up)
          | inr (good, inr (f, inr (u, inl (damaged, two)))) ↦ Good.past good (Good.refused damaged (by 2 two))
          | inr (good, inr (f, inr (u, inr (g, zero)))) ↦ absurd (omega arith)
        ]
      where
        by : (m : ℕ) → step.reply.number ≡ m → Refuses w call m o
        by m number = subst (λ (k : ℕ). Refuses w call k o) (sym is ∙ number) (leaves_all n stays)

    answered_good : step.reply.number ≡ 0 → ((n : ℕ) → (alone (step_world w) key c).reply.number ≡ suc n → Refuses w call (suc n) o)
        → ((alone (step_world w) key c).reply.number ≡ 0
        → (o.reply.number ≡ 0) × (lengths_of (carry w o) ≡ lengths_of (carry (step_world w) (alone (step_world w) key c))))
        → Good w call table o
    unfolding rows row Decides BadState
    answered_good zero refuses answers =
        elim step_row [
          | inl (bad, one) ↦ absurd (omega arith)
          | inr (good, inl (f, eight)) ↦ absurd (omega arith)
          | inr (good, inr (f, inl (held_up, eighteen))) ↦ absurd (omega arith)
          | inr (good, inr (f, inr (u, inl (damaged, two)))) ↦ absurd (omega arith)
          | inr (good, inr (f, inr (u, inr (g, z)))) ↦ Good.past good (Good.past g (then good))
        ]
      where
        holds : {t : Bool} → Tells (sound_at w ≡ true) t → ¬ (¬ (sound_at w ≡ true)) → sound_at w ≡ true
        holds (Tells.holds h) f = h
        holds (Tells.fails h) f = absurd (f h)

        behind : {r : Row} {rs : List Row} {v : World} {p : Outcome} → ¬ r.given → Good v call (r ∷ rs) p → Good v call rs p
        behind f (Good.refused g q) = absurd (f g)
        behind f (Good.past g q) = q

        then : ¬ BadState w → Good w call (alone_rows (step_world w) key c) o
        then good =
            let (sound, lengths) = step_facts due (holds (tells_true (sound_at w)) good) zero in
            carried w (step_world w) call o (alone (step_world w) key c) lengths refuses answers (alone_rows (step_world w) key c)
            (key_numbered (step_world w) key c) (behind sound (alone_good (step_world w) key c))

    stepping_good : Good w call table o
    unfolding step_world carry world lengths_of
    stepping_good = by (on_rides w key c takes due)
      where
        by : Rides w step (λ v. alone v key c) o → Good w call table o
        by (Rides.step_refused n is stays) = refused_good n is stays
        by (Rides.call_refused zero n is stays) =
            answered_good zero (λ m is'. subst (λ (k : ℕ). Refuses w call k o) (sym is ∙ is') (leaves_all n stays))
            (λ z. absurd (omega arith))
        by (Rides.answered zero z is) =
            answered_good zero (λ m is'. absurd (omega arith))
            (λ z'. (ap (λ (p : Outcome). p.reply.number) is ∙ z, ap (λ (p : Outcome). lengths_of (carry w p)) is))

  pub before_good : (key : ℕ) (c : KeyCall) → Good w (Call.on key c) (rows w (Call.on key c)) (before_growth w key c)
  unfolding rows on_rows
  before_good key c = by (takes_step c) (step_due w.state) refl refl
    where
      plain : (takes_step c && step_due w.state) ≡ false
          → Good w (Call.on key c) (row 1 (BadState w) ∷ on_rows w key c (takes_step c && step_due w.state)) (before_growth w key c)
      plain none =
          subst (λ (b : Bool). Good w (Call.on key c) (row 1 (BadState w) ∷ on_rows w key c b) (before_growth w key c)) (sym none)
          (subst (λ (p : Outcome). Good w (Call.on key c) (row 1 (BadState w) ∷ alone_rows w key c) p) (sym (on_alone w key c none))
          (alone_good w key c))

      by : (t f : Bool) → takes_step c ≡ t → step_due w.state ≡ f
          → Good w (Call.on key c) (row 1 (BadState w) ∷ on_rows w key c (takes_step c && step_due w.state)) (before_growth w key c)
      by true true t f =
          subst (λ (b : Bool). Good w (Call.on key c) (row 1 (BadState w) ∷ on_rows w key c b) (before_growth w key c))
          (sym (ap₂ ◌&&◌ t f)) (stepping_good key c t f)
      by true false t f = plain (ap₂ ◌&&◌ t f)
      by false true t f = plain (ap₂ ◌&&◌ t f)
      by false false t f = plain (ap₂ ◌&&◌ t f)

  -- growth changes no number, and no length
  rows_numbered : (key : ℕ) (c : KeyCall) → Numbered (rows w (Call.on key c))
  unfolding Numbered rows on_rows row
  rows_numbered key c = (0, refl, by (takes_step c && step_due w.state))
    where
      by : (t : Bool) → Numbered (on_rows w key c t)
      by true = (1, refl, key_numbered (step_world w) key c)
      by false = key_numbered w key c

  pub on_good : (key : ℕ) (c : KeyCall) → Good w (Call.on key c) (rows w (Call.on key c)) (perform w (Call.on key c))
  on_good key c = by (follows w key c)
    where
      same : perform w (Call.on key c) ≡ before_growth w key c
          → Good w (Call.on key c) (rows w (Call.on key c)) (perform w (Call.on key c))
      same is =
          subst (λ (p : Outcome). Good w (Call.on key c) (rows w (Call.on key c)) p) (sym is) (before_good key c)

      by : Follows w c (before_growth w key c) (perform w (Call.on key c))
          → Good w (Call.on key c) (rows w (Call.on key c)) (perform w (Call.on key c))
      by (Follows.never f is) = same is
      by (Follows.refused n f is) = same is
      by (Follows.answered t before zero values grew) =
          carried w w (Call.on key c) (perform w (Call.on key c)) (before_growth w key c) refl (λ n f. absurd (omega arith))
          (λ z. (zero, ap lengths_of grew ∙ grown_lengths (carry w (before_growth w key c)))) (rows w (Call.on key c))
          (rows_numbered key c) (before_good key c)
