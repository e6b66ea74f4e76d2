-- An add as the call before any growth, and the resize that follows it: what the two come to, in any world.
-- Assumes nothing.
use Prim.Native.Nat.{ℕ, suc}
use mathlib.Core.Path.{◌≡◌, refl, sym, ap}
use mathlib.Core.Bool.{Bool, true, false, ◌&&◌, not, cond}
use mathlib.Core.List.{List, []}
use Rattle.model.specs.declared.State.{State}
use Rattle.model.specs.Answers.{reply, state_reply}
use Rattle.model.specs.Memory.{keys_held}
use Rattle.model.specs.Calls.{After, suggested, growth_due, grown_by, grown, then_grown}
use Rattle.model.specs.Calls as calls
use Rattle.model.specs.Sequences.{World, world, KeyCall, Call, Outcome, left, given, perform, carried_state, carry}
use Rattle.refinement.specs.Worlds.{may_grow}
use Rattle.refinement.specs.Demand3.{lengths_of}
use Rattle.refinement.proofs.HiddenSteps.{before_growth, some_number}
use Rattle.refinement.proofs.Demand1Calls.{good_lengths, resized_good}
use Rattle.std.specs.Prelude.{Result, Ok, Err}
use Rattle.model.specs.declared.Error.{Error}

-- growth is due in a world, and what it leaves

unfoldable pub grows_at : World → Bool
grows_at w =
    not w.state.rehashing && growth_due w.state.resize_allowed w.state.old_size (keys_held w.state)

unfoldable pub resized_world : World → World
resized_world w = carry w (perform w (Call.resize (suggested true (keys_held w.state))))

unfoldable pub grown_world : World → World
grown_world w = cond (grows_at w) (resized_world w) w

-- it leaves the lengths
pub grown_lengths : (w : World) → lengths_of (grown_world w) ≡ lengths_of w
unfolding grown_world resized_world
grown_lengths w = by (grows_at w)
  where
    by : (t : Bool) → lengths_of (cond t (resized_world w) w) ≡ lengths_of w
    by true = good_lengths (resized_good w (suggested true (keys_held w.state)))
    by false = refl

-- What a call on a key comes to: no growth follows this one, or it was refused; or it is answered as it was before growth.
pub data Follows (w : World) (c : KeyCall) (before after : Outcome) : Type 0 where
  never : may_grow c ≡ false → after ≡ before → Follows w c before after
  refused : (n : ℕ) → before.reply.number ≡ suc n → after ≡ before → Follows w c before after
  answered : may_grow c ≡ true → before.reply.number ≡ 0 → after.reply.number ≡ 0
      → after.reply.values ≡ before.reply.values → carry w after ≡ grown_world (carry w before) → Follows w c before after

module _ (w : World) where
  abbrev added : After (Result State Error) → Outcome
  added a = left (state_reply w.state) a

  -- answered, and that world left
  record Leaves (o : Outcome) (v : World) : Type 0 where
    number : o.reply.number ≡ 0
    values : o.reply.values ≡ []
    world : carry w o ≡ v

  -- by what the resize answered
  resize_leaves : (t : State) (x y z : List ℕ) (a : After (Result State Error))
      → Leaves (added (grown_by t a)) (carry (world t x y z) (left (state_reply t) a))
  unfolding grown_by left state_reply reply carry carried_state world
  resize_leaves t x y z (After.after (Ok u) x' y' z') = record { number = refl; values = refl; world = refl }
  resize_leaves t x y z (After.after (Err e) x' y' z') =
      let (n, is) = some_number e in
      record {
        number = refl;
        values = refl;
        world = ap (λ (m : ℕ). world (carried_state m t t) x' y' z') (sym is);
      }

  grown_leaves : (t : State) (x y z : List ℕ) → Leaves (added (grown t x y z)) (grown_world (world t x y z))
  unfolding grown grown_world grows_at resized_world world perform given left state_reply reply carry carried_state
  grown_leaves t x y z =
      by (not t.rehashing && growth_due t.resize_allowed t.old_size (keys_held t))
    where
      size : ℕ
      size = suggested true (keys_held t)

      by : (due : Bool)
          → Leaves (added (cond due (grown_by t (calls.resize t x y z size)) (After.after (Ok t) x y z)))
          (cond due (carry (world t x y z) (left (state_reply t) (calls.resize t x y z size))) (world t x y z))
      by true = resize_leaves t x y z (calls.resize t x y z size)
      by false = record { number = refl; values = refl; world = refl }

  add_follows : (value : ℕ) (a : After (Result State Error)) → Follows w (KeyCall.add value) (added a) (added (then_grown a))
  unfolding then_grown left state_reply reply carry carried_state world may_grow
  add_follows value (After.after (Err e) x y z) = let (n, is) = some_number e in Follows.refused n is refl
  add_follows value (After.after (Ok t) x y z) =
      let l = grown_leaves t x y z in Follows.answered refl refl l.number l.values l.world

  pub follows : (key : ℕ) (c : KeyCall) → Follows w c (before_growth w key c) (perform w (Call.on key c))
  unfolding before_growth perform given calls.add may_grow
  follows key KeyCall.find = Follows.never refl refl
  follows key (KeyCall.update value) = Follows.never refl refl
  follows key (KeyCall.add value) = add_follows value (given w calls.add_after_step key value)
  follows key KeyCall.delete = Follows.never refl refl
