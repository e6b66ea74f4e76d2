-- What a call that takes a step first comes to, from what was told before the step.
-- Assumes nothing.
use Prim.Native.Nat.{ℕ}
use mathlib.Core.Path.{◌≡◌, refl, sym, ap, subst, ◌∙◌}
use mathlib.Core.Bool.{Bool, true, false, cond}
use mathlib.Core.List.{List}
use native.Mathlib.Omega.{arith}
use lib.ListN.{length}
use Rattle.model.specs.declared.State.{State}
use Rattle.model.specs.declared.Table.{Table}
use Rattle.model.specs.declared.Error.{Error}
use Rattle.model.specs.declared.Lookup.{Lookup}
use Rattle.model.specs.Calls.{After, oriented, back, writing, lookup, rehash_step, unless_refused, call_after, step_due, step_first}
use Rattle.model.proofs.StepLeaves.{Follows, RehashLeaves, rehash_leaves}
use Rattle.model.proofs.StepFirst.{resting_first, stepping_first}
use Rattle.memory.specs.Lent.{sound_lent}
use Rattle.memory.proofs.Orientation.{lent_oriented, writing_refused, writing_sound}
use Rattle.search.specs.Tables.{lookup_lent}
use Rattle.dict_rehash.proofs.Due.{due_rehashing, due_unpaused}
use Rattle.after_step.specs.Presence.{presence, presence_after, entries_after}
use Rattle.after_step.specs.Planned.{Planned}
use Rattle.std.specs.Prelude.{Result, Ok, Err}

-- ---- what a call answers

unfoldable pub answer_of : {A : Type 0} → After A → A
answer_of (After.after a x y z) = a

-- a call on a sound state, by what the lookup finds
pub answer_by : {A : Type 0} (s : State) (x y z : List ℕ) (key : ℕ) (refusal : A) (call : List ℕ → List ℕ → Lookup → After A)
    (meant : Lookup → A) → ((c o : List ℕ) (l : Lookup) → answer_of (call c o l) ≡ meant l)
    → sound_lent (length x) (length y) (length z) s ≡ true
    → answer_of (writing s x y z refusal (λ c o. call c o (lookup s c o z key))) ≡ meant (lookup_lent s x y z key)
unfolding answer_of lookup_lent oriented back
answer_by {A = A} s x y z key refusal call meant each h =
    ap answer_of (sym (writing_sound s x y z true (sym h) refusal (λ c o. call c o (lookup s c o z key)) _ refl refl))
    ∙ pick s.second_is_current
  where
    same : (f : Bool) (a : After A) → answer_of (back f a) ≡ answer_of a
    same false a = refl
    same true (After.after a c o e) = refl

    pick : (f : Bool)
        → answer_of (back f (oriented f (λ c o. call c o (lookup s c o z key)) x y))
        ≡ meant (oriented f (λ c o. lookup s c o z key) x y)
    pick false = each x y (lookup s x y z key)
    pick true = same true (call y x (lookup s y x z key)) ∙ each y x (lookup s y x z key)

-- what was told of a key says what its lookup finds

pub is_damaged : (l : Lookup) → (Err Error.Damaged) ≡ presence l → l ≡ Lookup.Damaged
unfolding presence
is_damaged Lookup.Damaged e = refl
is_damaged Lookup.Absent e = let z : ◌≡◌ {A = ℕ} 0 1 = cc in absurd (omega arith)
is_damaged (Lookup.At t before n) e = let z : ◌≡◌ {A = ℕ} 0 1 = cc in absurd (omega arith)

pub is_absent : (l : Lookup) → (Ok false) ≡ presence l → l ≡ Lookup.Absent
unfolding presence
is_absent Lookup.Damaged e = let z : ◌≡◌ {A = ℕ} 0 1 = cc in absurd (omega arith)
is_absent Lookup.Absent e = refl
is_absent (Lookup.At t before n) e = let z : ◌≡◌ {A = ℕ} 0 1 = cc in absurd (omega arith)

pub is_held : (l : Lookup) → (Ok true) ≡ presence l → (t : Table) × (before : ℕ) × (n : ℕ) × (l ≡ Lookup.At t before n)
unfolding presence
is_held Lookup.Damaged e = let z : ◌≡◌ {A = ℕ} 0 1 = cc in absurd (omega arith)
is_held Lookup.Absent e = let z : ◌≡◌ {A = ℕ} 0 1 = cc in absurd (omega arith)
is_held (Lookup.At t before n) e = (t, before, n, refl)

-- an error is damage

only_damage : (l : Lookup) (e : Error) → Err e ≡ presence l → e ≡ Error.Damaged
unfolding presence
only_damage Lookup.Damaged e h = cc
only_damage Lookup.Absent e h = let z : ◌≡◌ {A = ℕ} 0 1 = cc in absurd (omega arith)
only_damage (Lookup.At t before n) e h = let z : ◌≡◌ {A = ℕ} 0 1 = cc in absurd (omega arith)

pub damage_after : (key : ℕ) (a : After (Result (ℕ × State) Error)) (e : Error) → Err e ≡ presence_after key a → e ≡ Error.Damaged
unfolding presence_after
damage_after key (After.after (Err x) c o z) e h = cc
damage_after key (After.after (Ok (count, t)) c o z) e h = only_damage (lookup_lent t c o z key) e h

-- ---- the world after an answered step

module _ (s : State) (first second entries : List ℕ) (h : sound_lent (length first) (length second) (length entries) s ≡ true)
    (e : step_due s ≡ true) where
  leaves : RehashLeaves s first second entries (rehash_step s first second entries)
  leaves = rehash_leaves s first second entries (due_rehashing s e) (due_unpaused s e) (sym (lent_oriented s first second entries) ∙ h)

  module _ (count : ℕ) (t : State) (x y z : List ℕ)
      (r : After.after (Ok (count, t)) x y z ≡ rehash_step s first second entries) where
    stepped_sound : sound_lent (length x) (length y) (length z) t ≡ true
    unfolding RehashLeaves
    stepped_sound =
        let k : RehashLeaves s first second entries (After.after (Ok (count, t)) x y z) =
        subst (RehashLeaves s first second entries) (sym r) leaves in
        lent_oriented t x y z ∙ k.4

    stepped_follows : Follows s t
    unfolding RehashLeaves
    stepped_follows =
        let k : RehashLeaves s first second entries (After.after (Ok (count, t)) x y z) =
        subst (RehashLeaves s first second entries) (sym r) leaves in
        k.3

-- that world to a call that knew as much before the step
pub record StepTaken (s : State) (first second entries : List ℕ) (key : ℕ) (v : Result Bool Error) (count : ℕ) (t : State) (x y z : List ℕ) : Type 0 where
  pub step : After.after (Ok (count, t)) x y z ≡ rehash_step s first second entries
  pub sound : sound_lent (length x) (length y) (length z) t ≡ true
  pub follows : Follows s t
  pub told : v ≡ presence (lookup_lent t x y z key)

module _ (s : State) (first second entries : List ℕ) (key : ℕ) (v : Result Bool Error) (p : Planned s first second entries key v)
    (r : Result (ℕ × State) Error) (x y z : List ℕ) (e : After.after r x y z ≡ rehash_step s first second entries) where
  module _ (count : ℕ) (t : State) (d : r ≡ Ok (count, t)) where
    pub step_taken_lem : StepTaken s first second entries key v count t x y z
    unfolding presence_after
    step_taken_lem =
        let taken : After.after (Ok (count, t)) x y z ≡ rehash_step s first second entries = rw d at e in
        record {
          step = taken;
          sound = stepped_sound s first second entries p.sound p.due count t x y z taken;
          follows = stepped_follows s first second entries p.sound p.due count t x y z taken;
          told = p.told ∙ ap (presence_after key) (sym taken);
        }

-- ---- the call on it

module _ {A : Type 0} (refused : Error → A) (done : A → Bool) (call : State → List ℕ → List ℕ → List ℕ → After A) (s : State)
    (first second entries : List ℕ) where
  -- no step is due
  pub first_alone : (r : After A) → step_due s ≡ false → r ≡ call s first second entries
      → r ≡ step_first refused done call s first second entries
  first_alone r e h = h ∙ resting_first refused done call s first second entries e

  -- a state that is not sound: neither the step nor the call goes further than its test
  pub first_unsound : (t : Bool) → t ≡ sound_lent (length first) (length second) (length entries) s → t ≡ false
      → After.after (refused Error.BadState) first second entries ≡ call s first second entries
      → After.after (refused Error.BadState) first second entries ≡ step_first refused done call s first second entries
  unfolding step_first call_after rehash_step
  first_unsound t e f h = by (step_due s)
    where
      stopped : After.after (Err Error.BadState) first second entries ≡ rehash_step s first second entries
      stopped = writing_refused s first second entries t e (Err Error.BadState) _ f

      by : (b : Bool)
          → After.after (refused Error.BadState) first second entries
          ≡ cond b (call_after refused done call first second entries (rehash_step s first second entries)) (call s first second entries)
      by true = ap (call_after refused done call first second entries) stopped
      by false = h

  module _ (e : step_due s ≡ true) where
    -- the step is taken, and then the call
    pub first_done : (count : ℕ) (t : State) (x y z : List ℕ) (a : A) (p q w : List ℕ)
        → After.after (Ok (count, t)) x y z ≡ rehash_step s first second entries
        → After.after a p q w ≡ call t x y z → done a ≡ true
        → After.after a p q w ≡ step_first refused done call s first second entries
    unfolding call_after unless_refused
    first_done count t x y z a p q w r h d = (rw (← r, ← h, d) refl) ∙ stepping_first refused done call s first second entries e

    -- what is told of the key decides: no answered step leads to an answered call
    pub first_refused : (key : ℕ) (v : Result Bool Error) (answer : A)
        → sound_lent (length first) (length second) (length entries) s ≡ true
        → v ≡ presence_after key (rehash_step s first second entries)
        → (v ≡ (Err Error.Damaged) → answer ≡ refused Error.Damaged) → done answer ≡ false
        → ((t : State) (x y z : List ℕ) → sound_lent (length x) (length y) (length z) t ≡ true → Follows s t
        → z ≡ entries_after (rehash_step s first second entries) → v ≡ presence (lookup_lent t x y z key)
        → answer_of (call t x y z) ≡ answer)
        → After.after answer first second entries ≡ step_first refused done call s first second entries
    unfolding call_after unless_refused presence_after entries_after answer_of RehashLeaves
    first_refused key v answer h k damaged d each = by (rehash_step s first second entries) refl ∙ stepping_first refused done call s first second entries e
      where
        kept : (o : After A) → answer_of o ≡ answer
            → After.after answer first second entries ≡ unless_refused done first second entries o
        kept (After.after a x y z) f = rw (f, d) refl

        by : (o : After (Result (ℕ × State) Error)) → o ≡ rehash_step s first second entries
            → After.after answer first second entries ≡ call_after refused done call first second entries o
        by (After.after (Err error) x y z) r =
            let told : RehashLeaves s first second entries (After.after (Err error) x y z) =
            subst (RehashLeaves s first second entries) (sym r) (leaves s first second entries h e) in
            ap (λ (a : A). After.after a first second entries)
            (damaged (k ∙ ap (presence_after key) (sym r)) ∙ ap refused (sym told.0))
        by (After.after (Ok (count, t)) x y z) r =
            kept (call t x y z)
            (each t x y z (stepped_sound s first second entries h e count t x y z r)
            (stepped_follows s first second entries h e count t x y z r) (ap entries_after r)
            (k ∙ ap (presence_after key) (sym r)))
