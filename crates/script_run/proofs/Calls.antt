-- From what a call of the store answers to what the definitions say of its line.
-- Assumes nothing.
use Prim.Native.Nat.{ℕ}
use mathlib.Core.Path.{◌≡◌, refl, sym, ap, ap₂, ◌∙◌, subst}
use mathlib.Core.Bool.{Bool, true, false, cond}
use mathlib.Core.List.{List, [], ◌∷◌, ◌++◌}
use native.Mathlib.Omega.{arith}
use mir.Val.{bool_byte}
use Rattle.std.proofs.Common.{Result, Ok, Err}
use Rattle.std.specs.Prelude.{IsErrAnd}
use Rattle.model.specs.declared.Error.{Error}
use Rattle.model.specs.declared.State.{State}
use Rattle.model.specs.declared.Unstarted.{Unstarted}
use Rattle.model.specs.Answers.{reply, error_number, init_reply, state_reply, value_reply, done_reply, step_reply}
use Rattle.model.specs.Calls.{After, init, resize}
use Rattle.model.specs.Sequences.{World, world, kept, left, carry, carried_state}
use Rattle.store.specs.Stores as stores
use Rattle.script.specs.declared.line.Command.{Command}
use Rattle.script.specs.Answers.{answer_line}
use Rattle.script.specs.Program.{answered, run_command}
use Rattle.script_run.specs.declared.answer.Refusal.{Refusal}
use Rattle.script_run.specs.declared.answer.Values.{Values}
use Rattle.script_run.specs.Answers.{values_of, handed, refusal_number, done_line, line_of, Fits}
use Rattle.script_run.specs.Runs.{Leaves}

-- A refused call: its line is its number, and its state is left behind.

refused_line : (e : Error) (values : List ℕ) → answer_line (error_number e) [] ≡ answer_line (error_number e) values
unfolding error_number answer_line
refused_line Error.BadState values = refl
refused_line Error.Damaged values = refl
refused_line Error.Absent values = refl
refused_line Error.Present values = refl
refused_line Error.Full values = refl
refused_line Error.BadSize values = refl
refused_line Error.Rehashing values = refl
refused_line Error.NotRehashing values = refl
refused_line Error.Changed values = refl
refused_line Error.NoSafeIterator values = refl
refused_line Error.TooManyIterators values = refl
refused_line Error.Paused values = refl

refused_state : (e : Error) (s t : State) → s ≡ carried_state (error_number e) s t
unfolding error_number carried_state
refused_state Error.BadState s t = refl
refused_state Error.Damaged s t = refl
refused_state Error.Absent s t = refl
refused_state Error.Present s t = refl
refused_state Error.Full s t = refl
refused_state Error.BadSize s t = refl
refused_state Error.Rehashing s t = refl
refused_state Error.NotRehashing s t = refl
refused_state Error.Changed s t = refl
refused_state Error.NoSafeIterator s t = refl
refused_state Error.TooManyIterators s t = refl
refused_state Error.Paused s t = refl

bool_value : (b : Bool) → bool_byte b ≡ cond b 1 0
bool_value true = refl
bool_value false = refl

-- one answer is no other

no_done : {a : Result (Unit {0}) Error} {u : Unit {0}} {e : Error} → a ≡ Ok u → a ≡ Err e → ⊥
no_done k c = cc

no_refused : {A : Type 0} {a : Result A Error} {v : A} {e : Error} → a ≡ Err e → a ≡ Ok v → ⊥
no_refused k c = cc

no_count : {a : Result ℕ Error} {v : ℕ} {e : Error} → a ≡ Ok v → a ≡ Err e → ⊥
no_count k c = cc

told : {A : Type 0} {a : Result A Error} {e f : Error} → a ≡ Err e → a ≡ Err f → e ≡ f
told k c = cc

counted : {a : Result ℕ Error} {n m : ℕ} → a ≡ Ok n → a ≡ Ok m → n ≡ m
counted k c = cc

module _ (s : State) (first second entries lent : List ℕ) where
  pub refused_leaves : (e : Error) (values : List ℕ) (t : State) (x y z more : List ℕ) (r : Result Values Refusal)
      → IsErrAnd r (λ f. f ≡ Refusal.Store e)
      → Leaves (answered (world s first second entries)
      (record { reply = reply (error_number e) values t; first = x; second = y; entries = z; lent = [] }) more lent)
      r (world s x y z) lent
  unfolding reply answered carry world line_of refusal_number Fits
  refused_leaves e values t x y z more (Ok v) k = elim k [ ]
  refused_leaves e values t x y z more (Err f) k =
      rw k
      (record {
        same =
            ap (λ (l : List ℕ). record { written = l; world = world s x y z; lent = lent }) (refused_line e (values ++ more))
            ∙ ap (λ (u : State). record { written = answer_line (error_number e) (values ++ more); world = world u x y z; lent = lent })
            (refused_state e s t);
        fits = tt;
      })

  -- a call that answers the state

  pub kept_done : (d : After (Result State Error)) {a : Result (Unit {0}) Error} {after : World} {u : Unit {0}} → (a, after) ≡ stores.kept s d → a ≡ Ok u
      → Leaves (answered (world s first second entries) (left (state_reply s) d) [] lent) (Ok Values.None) after lent
  unfolding stores.kept left state_reply reply answered carry carried_state world line_of done_line values_of handed Fits
  kept_done (After.after (Ok t) x y z) c k = rw (ap (λ (p : Result (Unit {0}) Error × World). p.1) c) (record { same = refl; fits = omega arith })
  kept_done (After.after (Err e) x y z) c k = absurd (no_done k (ap (λ (p : Result (Unit {0}) Error × World). p.0) c))

  pub kept_refused : (d : After (Result State Error)) {a : Result (Unit {0}) Error} {after : World} {e : Error} {r : Result Values Refusal}
      → (a, after) ≡ stores.kept s d → a ≡ Err e → IsErrAnd r (λ f. f ≡ Refusal.Store e)
      → Leaves (answered (world s first second entries) (left (state_reply s) d) [] lent) r after lent
  unfolding stores.kept left state_reply
  kept_refused (After.after (Ok t) x y z) c k h = absurd (no_refused k (ap (λ (p : Result (Unit {0}) Error × World). p.0) c))
  kept_refused (After.after (Err f) x y z) {e = e} {r = r} c k h =
      let same : e ≡ f = told k (ap (λ (p : Result (Unit {0}) Error × World). p.0) c) in
      rw (ap (λ (p : Result (Unit {0}) Error × World). p.1) c, ← same) (refused_leaves e [] s x y z [] r h)

  -- one that answers nothing more

  pub left_done : (d : After (Result (Unit {0}) Error)) {a : Result (Unit {0}) Error} {after : World} {u : Unit {0}} → (a, after) ≡ stores.left s d → a ≡ Ok u
      → Leaves (answered (world s first second entries) (left (done_reply s) d) [] lent) (Ok Values.None) after lent
  unfolding stores.left left done_reply reply answered carry carried_state world line_of done_line values_of handed Fits
  left_done (After.after (Ok v) x y z) c k = rw (ap (λ (p : Result (Unit {0}) Error × World). p.1) c) (record { same = refl; fits = omega arith })
  left_done (After.after (Err e) x y z) c k = absurd (no_done k (ap (λ (p : Result (Unit {0}) Error × World). p.0) c))

  pub left_refused : (d : After (Result (Unit {0}) Error)) {a : Result (Unit {0}) Error} {after : World} {e : Error} {r : Result Values Refusal}
      → (a, after) ≡ stores.left s d → a ≡ Err e → IsErrAnd r (λ f. f ≡ Refusal.Store e)
      → Leaves (answered (world s first second entries) (left (done_reply s) d) [] lent) r after lent
  unfolding stores.left left done_reply
  left_refused (After.after (Ok v) x y z) c k h = absurd (no_refused k (ap (λ (p : Result (Unit {0}) Error × World). p.0) c))
  left_refused (After.after (Err f) x y z) {e = e} {r = r} c k h =
      let same : e ≡ f = told k (ap (λ (p : Result (Unit {0}) Error × World). p.0) c) in
      rw (ap (λ (p : Result (Unit {0}) Error × World). p.1) c, ← same) (refused_leaves e [] s x y z [] r h)

  -- a step, whose second value says whether the rehash goes on

  pub step_done : (d : After (Result (ℕ × State) Error)) {a : Result ℕ Error} (t : State) (x y z : List ℕ) {moved goes_on : ℕ}
      → (a, world t x y z) ≡ stores.stepped s d → a ≡ Ok moved → goes_on ≡ bool_byte t.rehashing
      → Leaves (answered (world s first second entries) (left (step_reply s) d) [] lent) (Ok (Values.Two moved goes_on)) (world t x y z) lent
  unfolding stores.stepped left step_reply reply answered carry carried_state world line_of done_line values_of handed Fits
  step_done (After.after (Ok (n, u)) x' y' z') t x y z {moved = moved} c k g =
      let w : world t x y z ≡ world u x' y' z' = ap (λ (p : Result ℕ Error × World). p.1) c in
      let same : t ≡ u = ap (λ (v : World). v.state) w in
      let m : moved ≡ n = counted k (ap (λ (p : Result ℕ Error × World). p.0) c) in
      rw (w, g, same, m, bool_value u.rehashing) (record { same = refl; fits = omega arith })
  step_done (After.after (Err e) x' y' z') t x y z c k g = absurd (no_count k (ap (λ (p : Result ℕ Error × World). p.0) c))

  pub step_refused : (d : After (Result (ℕ × State) Error)) {a : Result ℕ Error} {after : World} {e : Error} {r : Result Values Refusal}
      → (a, after) ≡ stores.stepped s d → a ≡ Err e → IsErrAnd r (λ f. f ≡ Refusal.Store e)
      → Leaves (answered (world s first second entries) (left (step_reply s) d) [] lent) r after lent
  unfolding stores.stepped left step_reply
  step_refused (After.after (Ok (n, u)) x y z) c k h = absurd (no_refused k (ap (λ (p : Result ℕ Error × World). p.0) c))
  step_refused (After.after (Err f) x y z) {e = e} {r = r} c k h =
      let same : e ≡ f = told k (ap (λ (p : Result ℕ Error × World). p.0) c) in
      rw (ap (λ (p : Result ℕ Error × World). p.1) c, ← same) (refused_leaves e (0 ∷ 0 ∷ []) s x y z [] r h)

  -- a start

  start_done : (d : After (Result State Unstarted)) {a : Result (Unit {0}) Error} {after : World} {u : Unit {0}} → (a, after) ≡ stores.started s d → a ≡ Ok u
      → Leaves (answered (world s first second entries) (left init_reply d) [] lent) (Ok Values.None) after lent
  unfolding stores.started left init_reply reply answered carry carried_state world line_of done_line values_of handed Fits
  start_done (After.after (Ok t) x y z) c k = rw (ap (λ (p : Result (Unit {0}) Error × World). p.1) c) (record { same = refl; fits = omega arith })
  start_done (After.after (Err f) x y z) c k = absurd (no_done k (ap (λ (p : Result (Unit {0}) Error × World). p.0) c))

  start_refused : (d : After (Result State Unstarted)) {a : Result (Unit {0}) Error} {after : World} {e : Error} {r : Result Values Refusal}
      → (a, after) ≡ stores.started s d → a ≡ Err e → IsErrAnd r (λ f. f ≡ Refusal.Store e)
      → Leaves (answered (world s first second entries) (left init_reply d) [] lent) r after lent
  unfolding stores.started left init_reply
  start_refused (After.after (Ok t) x y z) c k h = absurd (no_refused k (ap (λ (p : Result (Unit {0}) Error × World). p.0) c))
  start_refused (After.after (Err f) x y z) {e = e} {r = r} c k h =
      let same : e ≡ f.error = told k (ap (λ (p : Result (Unit {0}) Error × World). p.0) c) in
      rw (ap (λ (p : Result (Unit {0}) Error × World). p.1) c)
      (refused_leaves f.error [] f.state x y z [] r (subst (λ (e : Error). IsErrAnd r (λ g. g ≡ Refusal.Store e)) same h))

  -- a start and a resize, for numbers that are known

  module _ {n m capacity size : ℕ} (p : n ≡ capacity) (q : m ≡ size) {a : Result (Unit {0}) Error} {after : World}
      (c : (a, after) ≡ stores.started s (init first second entries n m)) where
    started : (a, after) ≡ stores.started s (init first second entries capacity size)
    started = c ∙ ap₂ (λ (n m : ℕ). stores.started s (init first second entries n m)) p q

    pub init_done : {u : Unit {0}} → a ≡ Ok u
        → Leaves (answered (world s first second entries) (left init_reply (init first second entries capacity size)) [] lent) (Ok Values.None) after lent
    init_done k = start_done (init first second entries capacity size) started k

    pub init_refused : {e : Error} {r : Result Values Refusal} → a ≡ Err e → IsErrAnd r (λ f. f ≡ Refusal.Store e)
        → Leaves (answered (world s first second entries) (left init_reply (init first second entries capacity size)) [] lent) r after lent
    init_refused k h = start_refused (init first second entries capacity size) started k h

  module _ {n size : ℕ} (p : n ≡ size) {a : Result (Unit {0}) Error} {after : World} (c : (a, after) ≡ stores.kept s (resize s first second entries n)) where
    asked : (a, after) ≡ stores.kept s (resize s first second entries size)
    asked = c ∙ ap (λ (n : ℕ). stores.kept s (resize s first second entries n)) p

    pub resize_done : {u : Unit {0}} → a ≡ Ok u
        → Leaves (answered (world s first second entries) (left (state_reply s) (resize s first second entries size)) [] lent) (Ok Values.None) after lent
    resize_done k = kept_done (resize s first second entries size) asked k

    pub resize_refused : {e : Error} {r : Result Values Refusal} → a ≡ Err e → IsErrAnd r (λ f. f ≡ Refusal.Store e)
        → Leaves (answered (world s first second entries) (left (state_reply s) (resize s first second entries size)) [] lent) r after lent
    resize_refused k h = kept_refused (resize s first second entries size) asked k h

  -- a find, which only reads

  pub found : {d a : Result ℕ Error} {value : ℕ} → a ≡ d → a ≡ Ok value
      → Leaves (answered (world s first second entries) (kept (world s first second entries) (value_reply s d) []) [] lent)
      (Ok (Values.One value)) (world s first second entries) lent
  unfolding kept value_reply reply answered carry carried_state world line_of done_line values_of handed Fits
  found c e = rw (← c, e) (record { same = refl; fits = omega arith })

  pub not_found : {d a : Result ℕ Error} {e : Error} {r : Result Values Refusal} → a ≡ d → a ≡ Err e → IsErrAnd r (λ f. f ≡ Refusal.Store e)
      → Leaves (answered (world s first second entries) (kept (world s first second entries) (value_reply s d) []) [] lent)
      r (world s first second entries) lent
  unfolding kept value_reply world
  not_found {e = e} {r = r} c k h = rw (← c, k) (refused_leaves e (0 ∷ []) s first second entries [] r h)

-- what a command's clause says
pub command_leaves : (w : World) (lent : List ℕ) {c k : Command} {r : Result Values Refusal} {after : World} {lent' : List ℕ} → c ≡ k
    → Leaves (run_command w lent k) r after lent' → Leaves (run_command w lent c) r after lent'
command_leaves w lent {r = r} {after = after} {lent' = lent'} h l =
    subst (λ (c : Command). Leaves (run_command w lent c) r after lent') (sym h) l
