-- Find, update, add and delete on a store that agrees with the ideal, with the growth that may follow an add: the step of the
-- induction for them, and demand 2's first half.
-- Assumes nothing.
use Prim.Native.Nat.{ℕ}
use mathlib.Core.Path.{◌≡◌, refl, sym, ap, ap₂, subst, subst₂, ◌∙◌}
use mathlib.Core.Bool.{Bool, true, false, ◌&&◌, not, cond, and-false}
use lib.ListN.{length}
use lib.Dec.{eqb, eqb-suc-zero}
use Rattle.model.specs.declared.State.{State}
use Rattle.model.specs.Answers.{Reply, reply}
use Rattle.model.specs.Memory.{keys_held}
use Rattle.model.specs.Calls.{suggested, growth_due}
use Rattle.model.specs.Walk.{Tables, tables_by, tables_of}
use Rattle.model.specs.Sequences.{Outcome, World, KeyCall, Call, perform, carry, map_does}
use Rattle.refinement.specs.Worlds.{may_grow}
use Rattle.refinement.specs.Demand3.{Lengths, lengths_of, Ideal, resize_answer, on_answer, grows, then_grows, predict}
use Rattle.refinement.proofs.HiddenSteps.{before_growth}
use Rattle.refinement.proofs.Demand1Calls.{good_lengths}
use Rattle.refinement.proofs.Growth.{grows_at, resized_world, grown_world, Follows, follows}
use Rattle.refinement.proofs.Demand1Steps.{before_good}
use Rattle.refinement.proofs.Agreement.{Agrees, Comes, Steps}
use Rattle.refinement.proofs.TableSteps.{resize_steps}
use Rattle.refinement.proofs.SteppedKeys.{comes}

-- growth, from a world that agrees: the ideal tells it from its own keys, sizes and permission
growth_agrees : (v : World) (j : Ideal) → Agrees v j → (l : Lengths) → lengths_of v ≡ l
    → Agrees (grown_world v) (grows l j j.tables)
unfolding grown_world grows_at resized_world grows predict tables_of tables_by
growth_agrees v j a l same =
    subst (λ (t : Tables). Agrees (grown_world v) (grows l j t)) a.tables (by v.state.rehashing refl)
  where
    s : State
    s = v.state

    keys : ℕ
    keys = length j.plain.pairs

    then : ℕ → World
    then n = carry v (perform v (Call.resize (suggested true n)))

    tables : s.rehashing ≡ false → j.tables ≡ Tables.one s.old_size
    tables f = sym a.tables ∙ ap (λ (b : Bool). tables_by b s.old_size s.new_size) f

    resized : s.rehashing ≡ false → Agrees (then keys) (resize_answer l j (suggested true keys) (Tables.one s.old_size)).state
    resized f =
        subst (λ (t : Tables). Agrees (then keys) (resize_answer l j (suggested true keys) t).state) (tables f)
        (resize_steps v j a l same (suggested true keys)).agrees

    chosen : s.rehashing ≡ false → (t : Bool)
        → Agrees (cond t (then keys) v) (cond t (resize_answer l j (suggested true keys) (Tables.one s.old_size)).state j)
    chosen f true = resized f
    chosen f false = a

    by : (f : Bool) → s.rehashing ≡ f
        → Agrees (cond (not s.rehashing && growth_due s.resize_allowed s.old_size (keys_held s)) (then (keys_held s)) v)
        (grows l j (tables_by f s.old_size s.new_size))
    by true f =
        subst
        (λ (b : Bool).
        Agrees (cond (not b && growth_due s.resize_allowed s.old_size (keys_held s)) (then (keys_held s)) v) j)
        (sym f) a
    by false f =
        subst
        (λ (b : Bool).
        Agrees (cond (not b && growth_due s.resize_allowed s.old_size (keys_held s)) (then (keys_held s)) v)
        (grows l j (Tables.one s.old_size)))
        (sym f)
        (subst₂
        (λ (p : Bool) (n : ℕ).
        Agrees (cond (growth_due p s.old_size n) (then n) v) (grows l j (Tables.one s.old_size)))
        (sym a.allowed) a.count (chosen f (growth_due j.allowed s.old_size keys)))

-- the call before growth, and then growth
module _ (w : World) (i : Ideal) (a : Agrees w i) (key : ℕ) (c : KeyCall) (l : Lengths) (same : lengths_of w ≡ l) where
  abbrev p : Outcome
  p = before_growth w key c

  abbrev meant : Reply Ideal
  meant = on_answer i c (map_does i.plain key c)

  abbrev before : Comes w p meant
  before = comes w i a key c

  abbrev o : Outcome
  o = perform w (Call.on key c)

  -- none follows
  unchanged : o ≡ p → (may_grow c && eqb meant.number 0) ≡ false → Comes w o (then_grows l c meant)
  unfolding then_grows reply
  unchanged is no_growth =
      subst (λ (q : Outcome). Comes w q (then_grows l c meant)) (sym is)
      (record {
        number = before.number;
        values = before.values;
        agrees =
            subst (λ (t : Bool). Agrees (carry w p) (cond t (grows l meant.state meant.state.tables) meant.state))
            (sym no_growth) before.agrees;
      })

  grown_comes : Comes w o (then_grows l c meant)
  unfolding then_grows reply
  grown_comes = by (follows w key c)
    where
      by : Follows w c p o → Comes w o (then_grows l c meant)
      by (Follows.never f is) = unchanged is (ap (λ (t : Bool). t && eqb meant.number 0) f)
      by (Follows.refused n f is) =
          unchanged is
          (ap (λ (m : ℕ). may_grow c && eqb m 0) (sym before.number ∙ f)
          ∙ ap (λ (t : Bool). may_grow c && t) (eqb-suc-zero n)
          ∙ and-false (may_grow c))
      by (Follows.answered may zero_before zero_after values grew) =
          let meant_zero : meant.number ≡ 0 = sym before.number ∙ zero_before in
          record {
            number = zero_after ∙ sym meant_zero;
            values = values ∙ before.values;
            agrees =
                subst₂ (λ (v : World) (t : Bool). Agrees v (cond t (grows l meant.state meant.state.tables) meant.state))
                (sym grew) (sym (ap₂ (λ (t : Bool) (m : ℕ). t && eqb m 0) may meant_zero))
                (growth_agrees (carry w p) meant.state before.agrees l (good_lengths (before_good w key c) ∙ same));
          }

  pub on_steps : Steps w (Call.on key c) (predict l i (Call.on key c))
  unfolding predict
  on_steps = record { number = grown_comes.number; values = λ f. grown_comes.values; agrees = grown_comes.agrees }
