-- A refused call leaves the world: the next call is given the same state and the same buffers. A call that only reads
-- leaves it whatever it answers.
-- Assumes nothing.
use Prim.Native.Nat.{ℕ, zero, suc}
use mathlib.Core.Path.{◌≡◌, refl, ap, ◌∙◌}
use mathlib.Core.List.{List, [], ◌∷◌}
use Rattle.model.specs.declared.State.{State}
use Rattle.model.specs.Answers.{Reply, reply, value_reply, done_reply, table_reply, scan_reply}
use Rattle.model.specs.Calls as calls
use Rattle.model.specs.Walk.{AfterScan}
use Rattle.model.specs.Walk as walk
use Rattle.model.specs.Iterators as iterators
use Rattle.model.specs.Sequences.{World, world, KeyCall, ReadCall, Call, Outcome, kept, kept_scan, given, perform, carried_state, carry}
use Rattle.refinement.specs.Demand1.{Row, LeavesAll}
use Rattle.refinement.proofs.HiddenSteps.{alone, before_growth}
use Rattle.refinement.proofs.Demand1Calls.{Good, leaves, leaves_kept, alone_good}
use Rattle.refinement.proofs.Demand1Steps.{before_good}
use Rattle.std.specs.Prelude.{Result, Ok, Err}
use Rattle.model.specs.declared.Error.{Error}
use Rattle.model.specs.declared.ScanError.{ScanError}

-- the buffers stay, and the state if the call is answered
kept_carried : (w : World) (r : Reply State) (lent : List ℕ) → (r.number ≡ 0 → r.state ≡ w.state) → carry w (kept w r lent) ≡ w
unfolding carry kept world carried_state
kept_carried w r lent e = ap (λ (s : State). world s w.first w.second w.entries) (by r.number e)
  where
    by : (n : ℕ) → (n ≡ 0 → r.state ≡ w.state) → carried_state n w.state r.state ≡ w.state
    by zero e = e refl
    by (suc n) e = refl

module _ (w : World) where
  -- where the number is not 0, the world is as before
  left_keeps : (c : Call) (o : Outcome) → LeavesAll w c o → ¬ (o.reply.number ≡ 0) → carry w o ≡ w
  unfolding kept
  left_keeps c o l n =
      let (r, lent, is) = leaves_kept w c o l in
      ap (carry w) is ∙ kept_carried w r lent (λ e. absurd (n (ap (λ (o : Outcome). o.reply.number) is ∙ e)))

  pub refused_keeps : (c : Call) {rs : List Row} → Good w c rs (perform w c) → ¬ ((perform w c).reply.number ≡ 0)
      → carry w (perform w c) ≡ w
  refused_keeps c g n = left_keeps c (perform w c) (leaves g n) n

  pub alone_keeps : (key : ℕ) (c : KeyCall) → ¬ ((alone w key c).reply.number ≡ 0) → carry w (alone w key c) ≡ w
  alone_keeps key c n = left_keeps (Call.on key c) (alone w key c) (leaves (alone_good w key c) n) n

  pub before_keeps : (key : ℕ) (c : KeyCall) → ¬ ((before_growth w key c).reply.number ≡ 0)
      → carry w (before_growth w key c) ≡ w
  before_keeps key c n = left_keeps (Call.on key c) (before_growth w key c) (leaves (before_good w key c) n) n

  -- find, the calls that are lent a list, and those that only read leave it whatever they answer

  pub find_keeps : (key : ℕ) → carry w (perform w (Call.on key KeyCall.find)) ≡ w
  unfolding perform value_reply reply
  find_keeps key = by (given w calls.find key)
    where
      by : (a : Result ℕ Error) → carry w (kept w (value_reply w.state a) []) ≡ w
      by (Ok value) = kept_carried w _ _ (λ e. refl)
      by (Err error) = kept_carried w _ _ (λ e. refl)

  list_keeps : (a : AfterScan) → carry w (kept_scan w a) ≡ w
  unfolding kept_scan scan_reply reply
  list_keeps (AfterScan.after (Ok (next, count)) list) = kept_carried w _ _ (λ e. refl)
  list_keeps (AfterScan.after (Err (ScanError.Short count)) list) = kept_carried w _ _ (λ e. refl)
  list_keeps (AfterScan.after (Err (ScanError.Refused error)) list) = kept_carried w _ _ (λ e. refl)

  pub scan_keeps : (cursor : ℕ) (lent : List ℕ) → carry w (perform w (Call.scan cursor lent)) ≡ w
  unfolding perform
  scan_keeps cursor lent = list_keeps (given w walk.scan lent cursor)

  pub iterate_keeps : (place : ℕ) (lent : List ℕ) → carry w (perform w (Call.iterate place lent)) ≡ w
  unfolding perform
  iterate_keeps place lent = list_keeps (given w iterators.iterate lent place)

  pub read_keeps : (c : ReadCall) → carry w (perform w (Call.read c)) ≡ w
  unfolding perform value_reply table_reply done_reply reply
  read_keeps (ReadCall.suggested_size growing) = by (given w calls.suggested_size growing)
    where
      by : (a : Result ℕ Error) → carry w (kept w (value_reply w.state a) []) ≡ w
      by (Ok size) = kept_carried w _ _ (λ e. refl)
      by (Err error) = kept_carried w _ _ (λ e. refl)
  read_keeps ReadCall.current_table = by (given w calls.current_table)
    where
      by : (a : List ℕ) → carry w (kept w (table_reply w.state a) []) ≡ w
      by [] = kept_carried w _ _ (λ e. refl)
      by (head ∷ rest) = kept_carried w _ _ (λ e. refl)
  read_keeps ReadCall.begin_iterator = by (given w iterators.begin_iterator)
    where
      by : (a : Result ℕ Error) → carry w (kept w (value_reply w.state a) []) ≡ w
      by (Ok fingerprint) = kept_carried w _ _ (λ e. refl)
      by (Err error) = kept_carried w _ _ (λ e. refl)
  read_keeps (ReadCall.end_iterator fingerprint) = by (given w iterators.end_iterator fingerprint)
    where
      by : (a : Result (Unit {0}) Error) → carry w (kept w (done_reply w.state a) []) ≡ w
      by (Ok done) = kept_carried w _ _ (λ e. refl)
      by (Err error) = kept_carried w _ _ (λ e. refl)
