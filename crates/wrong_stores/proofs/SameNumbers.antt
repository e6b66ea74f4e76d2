-- A store that answers the same numbers as ours, and is ours where it refuses, meets demand 1 if ours does.
-- Assumes nothing.
use Prim.Native.Nat.{ℕ, zero, suc}
use mathlib.Core.Path.{◌≡◌, refl, ◌∙◌, ap}
use mathlib.Core.Logic.{◌⊎◌, inl, inr}
use Rattle.model.specs.declared.State.{State}
use Rattle.model.specs.Answers.{Reply}
use Rattle.model.specs.Sequences.{World, KeyCall, Call, Outcome, perform}
use Rattle.refinement.specs.Demand1.{rows, Decides, LeavesAll, Demand1}
use Rattle.wrong_stores.specs.OneCall as one
use Rattle.wrong_stores.specs.OneCall.{Change, by_call, by_key_call, but, but_on, by_number}

-- it is ours, or both answer 0
abbrev pub Near : Outcome → Outcome → Type 0
Near o p = (o ≡ p) ⊎ ((o.reply.number ≡ 0) × (p.reply.number ≡ 0))

pub near_demand1 : (does : World → Call → Outcome) → ((w : World) (c : Call) → Near (does w c) (perform w c)) → Demand1 perform
    → Demand1 does
near_demand1 does near d = record { numbers = λ w c. numbers w c (near w c); refusals = λ w c. refusals w c (near w c) }
  where
    numbers : (w : World) (c : Call) → Near (does w c) (perform w c) → Decides (does w c).reply.number (rows w c)
    numbers w c (inl same) = rw same (d.numbers w c)
    numbers w c (inr done) = rw (done.0, ← done.1) (d.numbers w c)

    refusals : (w : World) (c : Call) → Near (does w c) (perform w c) → ((does w c).reply.number ≡ 0 → ⊥)
        → LeavesAll w c (does w c)
    refusals w c (inl same) refused = rw same (d.refusals w c (rw same at refused))
    refusals w c (inr done) refused = absurd (refused done.0)

-- what stands in place of ours where ours answers 0, with the same reply
pub near_done : (instead o : Outcome) → instead.reply ≡ o.reply → (n : ℕ) → o.reply.number ≡ n
    → Near (by_number instead o n) o
unfolding by_number
near_done instead o same zero e = inr (ap (λ (r : Reply State). r.number) same ∙ e, e)
near_done instead o same (suc n) e = inl refl

-- each call on a key is near, and the others are ours
pub near_keys : (find : ℕ → Change) (update add : ℕ → ℕ → Change) (delete : ℕ → Change)
    → ((key : ℕ) (w : World) (o : Outcome) → Near (find key w o) o)
    → ((key value : ℕ) (w : World) (o : Outcome) → Near (update key value w o) o)
    → ((key value : ℕ) (w : World) (o : Outcome) → Near (add key value w o) o)
    → ((key : ℕ) (w : World) (o : Outcome) → Near (delete key w o) o) → (w : World) (c : Call)
    → Near (but_on (by_key_call find update add delete) w c) (perform w c)
unfolding but_on but by_call by_key_call one.none
near_keys find update add delete f u a d w (Call.init capacity size) = inl refl
near_keys find update add delete f u a d w (Call.on key KeyCall.find) = f key w _
near_keys find update add delete f u a d w (Call.on key (KeyCall.update value)) = u key value w _
near_keys find update add delete f u a d w (Call.on key (KeyCall.add value)) = a key value w _
near_keys find update add delete f u a d w (Call.on key KeyCall.delete) = d key w _
near_keys find update add delete f u a d w (Call.resize size) = inl refl
near_keys find update add delete f u a d w Call.rehash_step = inl refl
near_keys find update add delete f u a d w (Call.scan cursor lent) = inl refl
near_keys find update add delete f u a d w (Call.iterate place lent) = inl refl
near_keys find update add delete f u a d w (Call.read c) = inl refl
near_keys find update add delete f u a d w (Call.note c) = inl refl
