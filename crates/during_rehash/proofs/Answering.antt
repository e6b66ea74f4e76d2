-- What an add alone answers and leaves, by what was told of the key and by the free list.
-- Assumes nothing.
use Prim.Native.Nat.{ℕ, ◌<◌}
use mathlib.Core.Path.{◌≡◌, refl, sym, ap}
use mathlib.Core.Bool.{Bool, true, false, ◌&&◌, not, cond}
use mathlib.Core.List.{List}
use native.Mathlib.Omega.{arith}
use lib.ListN.{length}
use lib.Dec.{eqb, leb}
use borrow.Author.Tests.{eqb-false, ne_eqb}
use Rattle.model.specs.declared.State.{State}
use Rattle.model.specs.declared.Table.{Table}
use Rattle.model.specs.declared.Error.{Error}
use Rattle.model.specs.declared.Lookup.{Lookup}
use Rattle.model.specs.Memory.{link_of, keys_held}
use Rattle.model.specs.Calls.{After, oriented, back, changed, lookup, pushed, takeable, target, added, add_alone}
use Rattle.model.proofs.StepLeaves.{Follows}
use Rattle.memory.specs.Lent.{sound_lent}
use Rattle.memory.proofs.Orientation.{writing_sound}
use Rattle.search.specs.Tables.{lookup_lent}
use Rattle.after_step.specs.Presence.{presence}
use Rattle.after_step.proofs.StepFirst.{answer_of, answer_by}
use Rattle.during_rehash.specs.Counts.{one_more}
use Rattle.during_rehash.specs.Free.{next_free}
use Rattle.std.specs.Prelude.{Result, Ok, Err}

-- What an add alone answers, by what a lookup tells.

unfoldable pub add_counted : State → Result ℕ Error → Result State Error
add_counted s (Err error) = Err error
add_counted s (Ok free) = Ok (one_more s (target s.rehashing) free)

unfoldable pub add_answer : State → List ℕ → Result Bool Error → Result State Error
add_answer s entries (Err error) = Err error
add_answer s entries (Ok held) = add_counted s (next_free s held entries)

answer_cond : {A : Type 0} (f : Bool) (x y : After A) → answer_of (cond f x y) ≡ cond f (answer_of x) (answer_of y)
answer_cond true x y = refl
answer_cond false x y = refl

answer_changed : {A : Type 0} (t : Table) (a : A) (c o b e : List ℕ) → answer_of (changed t a c o b e) ≡ a
unfolding answer_of changed
answer_changed Table.Old a c o b e = refl
answer_changed Table.New a c o b e = refl

counted_cond : (s : State) (f : Bool) (x y : Result ℕ Error) → add_counted s (cond f x y) ≡ cond f (add_counted s x) (add_counted s y)
unfolding add_counted
counted_cond s true x y = refl
counted_cond s false x y = refl

module _ (s : State) (x y z : List ℕ) (key value : ℕ) where
  answered : (c o : List ℕ) (l : Lookup) → answer_of (added s c o z key value l) ≡ add_answer s z (presence l)
  unfolding answer_of added pushed add_answer add_counted next_free one_more presence
  answered c o Lookup.Damaged = refl
  answered c o (Lookup.At t before n) = refl
  answered c o Lookup.Absent = simp (answer_cond, answer_changed, counted_cond)

  pub alone_answer : sound_lent (length x) (length y) (length z) s ≡ true
      → answer_of (add_alone s x y z key value) ≡ add_answer s z (presence (lookup_lent s x y z key))
  unfolding add_alone
  alone_answer h =
      answer_by s x y z key (Err Error.BadState) (λ c o l. added s c o z key value l) (λ l. add_answer s z (presence l)) answered h

-- The free list's next head.

-- the step keeps what it goes by
pub next_follows : (s t : State) (held : Bool) (z : List ℕ) → Follows s t → next_free t held z ≡ next_free s held z
unfolding next_free takeable
next_follows s t held z o = rw (o.keys, o.capacity, o.free)

-- where there is one, the key is absent, the store is not full, and the first free entry can be taken
pub record Takes (s : State) (held : Bool) (z : List ℕ) (free : ℕ) : Type 0 where
  pub absent : held ≡ false
  pub not_full : keys_held s ≡ s.capacity → ⊥
  pub takeable : takeable s z ≡ true
  pub link : free ≡ link_of z s.free_head

pub takes_free : (s : State) (held : Bool) (z : List ℕ) (free : ℕ) → Ok free ≡ next_free s held z → Takes s held z free
unfolding next_free
takes_free s held z free e = by held refl (eqb (keys_held s) s.capacity) refl (takeable s z) refl e
  where
    by : (f : Bool) → held ≡ f → (g : Bool) → eqb (keys_held s) s.capacity ≡ g → (h : Bool) → takeable s z ≡ h
        → Ok free ≡ cond f (Err Error.Present) (cond g (Err Error.Full) (cond h (Ok (link_of z s.free_head)) (Err Error.Damaged)))
        → Takes s held z free
    by true fe g ge h he w = let z : ◌≡◌ {A = ℕ} 0 1 = cc in absurd (omega arith)
    by false fe true ge h he w = let z : ◌≡◌ {A = ℕ} 0 1 = cc in absurd (omega arith)
    by false fe false ge false he w = let z : ◌≡◌ {A = ℕ} 0 1 = cc in absurd (omega arith)
    by false fe false ge true he w = record { absent = fe; not_full = eqb-false _ _ ge; takeable = he; link = cc }

pub some_free : (s : State) (z : List ℕ) → takeable s z ≡ true → 0 < s.free_head
unfolding takeable
some_free s z e = by (eqb s.free_head 0) refl e
  where
    by : (f : Bool) → eqb s.free_head 0 ≡ f → (not f && leb (link_of z s.free_head) s.capacity) ≡ true → 0 < s.free_head
    by true fe w = let z : ◌≡◌ {A = ℕ} 0 1 = cc in absurd (omega arith)
    by false fe w = let n = eqb-false s.free_head 0 fe in omega arith

-- The first free entry in the table that keys are added to, on the lent buffers.
unfoldable pub pushed_lent : State → List ℕ → List ℕ → List ℕ → ℕ → ℕ → After (Result State Error)
pushed_lent s x y z key value =
    back s.second_is_current
    (oriented s.second_is_current (λ c o. pushed s c o z key value (target s.rehashing)) x y)

-- an add that takes it
module _ (s : State) (x y z : List ℕ) (key value : ℕ) (h : sound_lent (length x) (length y) (length z) s ≡ true)
    (l : lookup_lent s x y z key ≡ Lookup.Absent) (room : keys_held s ≡ s.capacity → ⊥) (some_free : takeable s z ≡ true) where
  pushes : (c o : List ℕ) (l : Lookup) → l ≡ Lookup.Absent
      → pushed s c o z key value (target s.rehashing) ≡ added s c o z key value l
  unfolding added
  pushes c o l e = rw (e, ne_eqb (keys_held s) s.capacity room, some_free)

  pub alone_pushes : pushed_lent s x y z key value ≡ add_alone s x y z key value
  unfolding add_alone pushed_lent lookup_lent oriented back
  alone_pushes =
      writing_sound s x y z true (sym h) (Err Error.BadState) (λ c o. added s c o z key value (lookup s c o z key))
      (pushed_lent s x y z key value) refl (pick s.second_is_current l)
    where
      pick : (f : Bool) → oriented f (λ c o. lookup s c o z key) x y ≡ Lookup.Absent
          → back f (oriented f (λ c o. pushed s c o z key value (target s.rehashing)) x y)
          ≡ back f (oriented f (λ c o. added s c o z key value (lookup s c o z key)) x y)
      pick false e = pushes x y (lookup s x y z key) e
      pick true e = ap (back true) (pushes y x (lookup s y x z key) e)
