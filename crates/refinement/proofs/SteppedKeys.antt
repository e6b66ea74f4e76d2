-- Find, update, add and delete on a store that agrees with the ideal, with the step that add and delete take first, and before
-- any growth.
-- Assumes nothing.
use Prim.Native.Nat.{ℕ, zero, suc}
use mathlib.Core.Path.{◌≡◌, refl, sym, ap, ap₂, subst, ◌∙◌}
use mathlib.Core.Bool.{Bool, true, false, ◌&&◌, not, cond}
use mathlib.Core.List.{[], ◌∷◌}
use mathlib.Core.Option.{Option, none, some}
use native.Mathlib.Omega.{arith}
use lib.ListN.{length}
use lib.Dec.{ltb, eqb, eqb-suc-zero}
use borrow.Author.Tests.{ltb-true, ltb-false, not-false}
use Rattle.model.specs.declared.State.{State}
use Rattle.model.specs.Answers.{Reply, reply}
use Rattle.model.specs.Calls.{paused, step_due}
use Rattle.model.specs.Walk.{tables_by, tables_of}
use Rattle.model.specs.Sequences.{Outcome, World, world, KeyCall, Call, kept, perform, carried_state, carry, PlainMap, value_for, with_pairs, map_answer, map_does}
use Rattle.model.proofs.StepFirst.{due_facts}
use Rattle.refinement.specs.Worlds.{takes_step}
use Rattle.refinement.specs.Demand3.{lengths_of, Ideal, key_answer, step_answer, steps_first, on_answer, predict}
use Rattle.refinement.proofs.HiddenSteps.{alone, before_growth, Rides, on_rides, on_alone}
use Rattle.refinement.proofs.Refusals.{before_keeps}
use Rattle.refinement.proofs.IdealSteps.{any_first, two_answered, same_pairs, one_stays, paused_stays}
use Rattle.refinement.proofs.Agreement.{Agrees, Comes, Steps}
use Rattle.refinement.proofs.KeyedSteps.{stays, keyed_steps}
use Rattle.refinement.proofs.RehashSteps.{step_steps}

-- a call answered 0 leaves the same world, whichever it was given
carried_alike : (w v : World) (o : Outcome) → o.reply.number ≡ 0 → carry w o ≡ carry v o
unfolding carry carried_state
carried_alike w v o z =
    ap (λ (s : State). world s o.first o.second o.entries) (by o.reply.number z)
  where
    by : (n : ℕ) → n ≡ 0 → carried_state n w.state o.reply.state ≡ carried_state n v.state o.reply.state
    by zero z = refl
    by (suc n) z = absurd (omega arith)

-- a map that refuses an add or a delete stays as it is, and gives no values
map_refuses : (m : PlainMap) (key : ℕ) (c : KeyCall) → takes_step c ≡ true → (o : Option ℕ) (n : ℕ)
    → (map_answer m key c o).number ≡ suc n → map_answer m key c o ≡ reply (suc n) [] m
unfolding takes_step map_answer reply
map_refuses m key KeyCall.find t o n e = let z : ◌≡◌ {A = ℕ} 0 1 = cc in absurd (omega arith)
map_refuses m key (KeyCall.update value) t o n e = let z : ◌≡◌ {A = ℕ} 0 1 = cc in absurd (omega arith)
map_refuses m key (KeyCall.add value) t (some held) n e = ap (λ (k : ℕ). reply k [] m) e
map_refuses m key (KeyCall.add value) t none n e = by (eqb (length m.pairs) m.capacity) e
  where
    ps : PlainMap
    ps = with_pairs m (record { key = key; value = value } ∷ m.pairs)

    by : (f : Bool) → (cond f (reply 5 [] m) (reply 0 [] ps)).number ≡ suc n
        → cond f (reply 5 [] m) (reply 0 [] ps) ≡ reply (suc n) [] m
    by true e = ap (λ (k : ℕ). reply k [] m) e
    by false e = absurd (omega arith)
map_refuses m key KeyCall.delete t none n e = ap (λ (k : ℕ). reply k [] m) e
map_refuses m key KeyCall.delete t (some held) n e = absurd (omega arith)

module _ (w : World) (i : Ideal) (a : Agrees w i) (key : ℕ) (c : KeyCall) where
  abbrev o : Outcome
  o = before_growth w key c

  abbrev map : Reply PlainMap
  map = map_does i.plain key c

  abbrev meant : Reply Ideal
  meant = on_answer i c map

  -- the ideal's tables are the store's
  tables_by_lem : (t : Bool) → w.state.rehashing ≡ t → i.tables ≡ tables_by t w.state.old_size w.state.new_size
  unfolding tables_of
  tables_by_lem t e = sym a.tables ∙ ap (λ (b : Bool). tables_by b w.state.old_size w.state.new_size) e

  -- where no step is due, the ideal's changes nothing
  no_change : (t : Bool) → w.state.rehashing ≡ t → (t && not (paused w.state)) ≡ false
      → (step_answer i i.tables i.unmoved).state ≡ i
  unfolding tables_by paused
  no_change false e f = one_stays i w.state.old_size (tables_by_lem false e)
  no_change true e f =
      paused_stays i
      (omega (arith, a.iterators, ltb-true 0 w.state.safe_iterators (not-false (ltb 0 w.state.safe_iterators) f)))

  -- no step comes first
  plain : (takes_step c && step_due w.state) ≡ false → Comes w o meant
  unfolding on_answer steps_first step_due
  plain no_step =
      subst (λ (j : Ideal). Comes w o (key_answer j map)) (sym (found (takes_step c) refl))
      (subst (λ (p : Outcome). Comes w p (key_answer i map)) (sym (on_alone w key c no_step)) (keyed_steps w i a key c))
    where
      found : (t : Bool) → takes_step c ≡ t → steps_first i c map.number ≡ i
      found false t = ap (λ (b : Bool). cond (b && eqb map.number 0) (step_answer i i.tables i.unmoved).state i) t
      found true t =
          any_first i (λ (j : Ideal). j ≡ i) c map.number
          (no_change w.state.rehashing refl (subst (λ (b : Bool). (b && step_due w.state) ≡ false) t no_step)) refl

  -- one does
  module _ (takes : takes_step c ≡ true) (due : step_due w.state ≡ true) where
    abbrev step : Outcome
    step = perform w Call.rehash_step

    abbrev v : World
    v = carry w step

    abbrev next : Ideal
    next = (step_answer i i.tables i.unmoved).state

    step_there : Steps w Call.rehash_step (step_answer i i.tables i.unmoved)
    unfolding predict
    step_there = step_steps w i a (lengths_of w)

    step_zero : step.reply.number ≡ 0
    unfolding tables_by paused
    step_zero =
        let (rehashing, not_paused) = due_facts w.state due in
        step_there.number
        ∙ two_answered i w.state.old_size w.state.new_size (tables_by_lem true rehashing)
        (omega (arith, a.iterators, ltb-false 0 w.state.safe_iterators not_paused))

    call_there : Comes v (alone v key c) (key_answer next map)
    call_there =
        subst (λ (m : PlainMap). Comes v (alone v key c) (key_answer next (map_does m key c))) (same_pairs i)
        (keyed_steps v next step_there.agrees key c)

    -- by the number that the map answers
    found : (n : ℕ) → map.number ≡ n → steps_first i c map.number ≡ cond (eqb n 0) next i
    unfolding steps_first
    found n is = ap₂ (λ (b : Bool) (m : ℕ). cond (b && eqb m 0) next i) takes is

    stepping : Comes w o meant
    unfolding on_answer key_answer map_does reply kept
    stepping = by (on_rides w key c takes due)
      where
        by : Rides w step (λ v. alone v key c) o → Comes w o (key_answer (steps_first i c map.number) map)
        by (Rides.step_refused n is same) = absurd (omega (arith, step_zero))
        by (Rides.call_refused stepped n is same) =
            let number : map.number ≡ suc n = sym call_there.number ∙ is in
            let mine : o.reply.number ≡ suc n = ap (λ (p : Outcome). p.reply.number) same in
            subst (λ (j : Ideal). Comes w o (key_answer j map))
            (sym (found (suc n) number ∙ ap (λ (b : Bool). cond b next i) (eqb-suc-zero n)))
            (stays w i a key c o (suc n) [] (map_refuses i.plain key c takes (value_for key i.plain.pairs) n number)
            (before_keeps w key c (λ z. omega arith)) mine (ap (λ (p : Outcome). p.reply.values) same))
        by (Rides.answered stepped z is) =
            let there = call_there in
            subst (λ (j : Ideal). Comes w o (key_answer j map)) (sym (found 0 (sym there.number ∙ z)))
            (record {
              number = ap (λ (p : Outcome). p.reply.number) is ∙ there.number;
              values = ap (λ (p : Outcome). p.reply.values) is ∙ there.values;
              agrees =
                  subst (λ (u : World). Agrees u (key_answer next map).state)
                  (sym (ap (carry w) is ∙ carried_alike w v (alone v key c) z)) there.agrees;
            })

  pub comes : Comes w (before_growth w key c) (on_answer i c (map_does i.plain key c))
  comes = by (takes_step c) (step_due w.state) refl refl
    where
      by : (t f : Bool) → takes_step c ≡ t → step_due w.state ≡ f → Comes w o meant
      by true true t f = stepping t f
      by true false t f = plain (ap₂ ◌&&◌ t f)
      by false f t g = plain (ap₂ ◌&&◌ t g)
