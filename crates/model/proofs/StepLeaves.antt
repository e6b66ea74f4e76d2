-- What a rehash step leaves, whatever the memory: refused, all that was there; answered, buffers of the same lengths, and a
-- sound state with as many keys held, the same capacity and the same free head.
-- Assumes nothing.
use Prim.Native.Nat.{ℕ, suc, ◌-◌, ◌≤◌, ◌<◌}
use mathlib.Core.Path.{◌≡◌, refl, sym, ap, subst, ◌∙◌}
use mathlib.Core.Bool.{Bool, true, false, not, cond}
use mathlib.Core.List.{List}
use mathlib.Core.Option.{Option, none, some}
use native.Mathlib.Omega.{arith}
use lib.ListN.{length, set, length-set}
use lib.Dec.{eqb}
use borrow.Author.Tests.{eqb-true}
use Rattle.model.specs.declared.State.{State}
use Rattle.model.specs.declared.Table.{Table}
use Rattle.model.specs.declared.Error.{Error}
use Rattle.model.specs.declared.Ahead.{Ahead}
use Rattle.model.specs.Limits.{empty_visits}
use Rattle.model.specs.Memory.{size_of, used_of, keys_held, Place, budget_at, chain_at}
use Rattle.model.specs.Calls.{After, sound, oriented, checked, back, writing, state_of, old_new, retabled, Chains, ahead, moved, advanced, finished, settled, step_done, moved_chain, moved_from, ahead_of, step_taken, paused, stepped, rehash_step}
use Rattle.model.proofs.Moved.{moved_length}
use Rattle.model.proofs.Linked.{read_sound}
use Rattle.model.proofs.Soundness.{Sound, sound_facts, sound_test}
use Rattle.model.proofs.StepAhead.{Comes, ahead_comes}
use Rattle.std.specs.Prelude.{Result, Ok, Err}

-- ---- the state after a step

-- By the lengths of the current and the other buffer before it: the rehash goes on, or it is over and the two change parts.
pub data Onward (s : State) (current other entries : ℕ) (t : State) : Type 0 where
  on : t.second_is_current ≡ s.second_is_current → Sound t current other entries
      → Onward s current other entries t
  over : t.second_is_current ≡ not s.second_is_current → Sound t other current entries
      → Onward s current other entries t

-- what a call on it finds as before
pub record Follows (s t : State) : Type 0 where
  pub keys : keys_held t ≡ keys_held s
  pub capacity : t.capacity ≡ s.capacity
  pub free : t.free_head ≡ s.free_head

module _ (s : State) (current other entries : ℕ) (h : Sound s current other entries) (e : s.rehashing ≡ true)
    (count next : ℕ) (few : count ≤ s.old_used) (within : next ≤ s.old_size) where
  abbrev then : State
  then = advanced s count next

  on_sound : Sound then current other entries
  unfolding advanced retabled state_of old_new size_of
  on_sound =
      record {
        some_entries = h.some_entries;
        capacity_limit = h.capacity_limit;
        entries_fit = h.entries_fit;
        old_legal = h.old_legal;
        old_fits = h.old_fits;
        used_fits = omega (arith, h.used_fits);
        free_fits = h.free_fits;
        iterators_fit = h.iterators_fit;
        resting = λ f. let z : ◌≡◌ {A = ℕ} 0 1 = cc in absurd (omega arith);
        rehashing =
            λ f.
            record {
              new_legal = (h.rehashing e).new_legal;
              new_fits = (h.rehashing e).new_fits;
              sizes_differ = (h.rehashing e).sizes_differ;
              index_fits = within;
            };
      }

  over_sound : Sound (finished then) other current entries
  unfolding finished advanced retabled state_of old_new size_of
  over_sound =
      record {
        some_entries = h.some_entries;
        capacity_limit = h.capacity_limit;
        entries_fit = h.entries_fit;
        old_legal = (h.rehashing e).new_legal;
        old_fits = (h.rehashing e).new_fits;
        used_fits = omega (arith, h.used_fits);
        free_fits = h.free_fits;
        iterators_fit = h.iterators_fit;
        resting = λ f. record { no_size = refl; no_keys = refl; no_index = refl };
        rehashing = λ f. let z : ◌≡◌ {A = ℕ} 0 1 = cc in absurd (omega arith);
      }

  settled_onward : Onward s current other entries (settled then)
  unfolding settled finished advanced retabled state_of
  settled_onward = by (eqb then.old_used 0)
    where
      by : (t : Bool) → Onward s current other entries (cond t (finished then) then)
      by true = Onward.over refl over_sound
      by false = Onward.on refl on_sound

  settled_follows : Follows s (settled then)
  unfolding settled finished advanced retabled state_of old_new keys_held
  settled_follows = by (eqb then.old_used 0) refl
    where
      by : (t : Bool) → eqb then.old_used 0 ≡ t → Follows s (cond t (finished then) then)
      by true z =
          let none_left = eqb-true then.old_used 0 z in
          record { keys = omega arith; capacity = refl; free = refl }
      by false z = record { keys = omega arith; capacity = refl; free = refl }

-- ---- on the current and the other buffer

unfoldable pub StepLeaves : State → List ℕ → List ℕ → List ℕ → After (Result (ℕ × State) Error) → Type 0
StepLeaves s current other entries (After.after (Err error) c o z) =
    (error ≡ Error.Damaged) × (c ≡ current) × (o ≡ other) × (z ≡ entries)
StepLeaves s current other entries (After.after (Ok (count, t)) c o z) =
    (length c ≡ length current)
    × (length o ≡ length other)
    × (length z ≡ length entries)
    × Follows s t
    × Onward s (length c) (length o) (length z) t

module _ (s : State) (current other entries : List ℕ) (h : Sound s (length current) (length other) (length entries))
    (e : s.rehashing ≡ true) (unpaused : paused s ≡ false) where
  abbrev Leaves : After (Result (ℕ × State) Error) → Type 0
  Leaves a = StepLeaves s current other entries a

  done_leaves : (count next : ℕ) → count ≤ s.old_used → next ≤ s.old_size → (c o z : List ℕ)
      → length c ≡ length current → length o ≡ length other → length z ≡ length entries
      → Leaves (After.after (step_done s count next) c o z)
  unfolding StepLeaves step_done
  done_leaves count next few within c o z x y w = (
    x,
    y,
    w,
    settled_follows s _ _ _ h e count next few within,
    settled_onward s _ _ _ (rw (x, y, w) h) e count next few within,
  )

  chain_leaves : (b : ℕ) → b < s.old_size → (r : Option (List ℕ))
      → chain_at s current other entries (Place.bucket Table.Old b) ≡ r → Leaves (moved_chain s current other entries b r)
  unfolding StepLeaves moved_chain chain_at budget_at used_of
  chain_leaves b below none f = (refl, refl, refl, refl)
  chain_leaves b below (some ns) f =
      let few = (read_sound _ entries s.capacity s.old_used _ ns f).1 in
      let chains : Chains = record { buckets = other; entries = entries } in
      let m = moved s.new_size ns chains in
      let (x, y) = moved_length s.new_size ns chains in
      done_leaves (length ns) (suc b) few (omega arith) (set current b 0) m.buckets m.entries (length-set current b 0) x y

  ahead_leaves : (r : Ahead) → ahead_of s current ≡ r → Leaves (moved_from s current other entries r)
  unfolding StepLeaves ahead_of moved_from Comes
  ahead_leaves r f = by r (subst (Comes current s.rehash_index s.old_size empty_visits) f comes)
    where
      comes : Comes current s.rehash_index s.old_size empty_visits (ahead current s.rehash_index (s.old_size - s.rehash_index) empty_visits)
      comes =
          ahead_comes current s.rehash_index (s.old_size - s.rehash_index) empty_visits s.old_size
          (omega (arith, (h.rehashing e).index_fits))

      by : (r : Ahead) → Comes current s.rehash_index s.old_size empty_visits r → Leaves (moved_from s current other entries r)
      by Ahead.End k = (refl, refl, refl, refl)
      by (Ahead.Empty b) k = done_leaves 0 b (omega arith) (omega (arith, k.1)) current other entries refl refl refl
      by (Ahead.Filled b) k = chain_leaves b k.1 (chain_at s current other entries (Place.bucket Table.Old b)) refl

  pub step_leaves : StepLeaves s current other entries (stepped s current other entries s.rehashing)
  unfolding stepped step_taken
  step_leaves =
      subst (λ (f : Bool). Leaves (stepped s current other entries f)) (sym e)
      (subst (λ (f : Bool). Leaves (cond f (After.after (Err Error.Paused) current other entries) (step_taken s current other entries)))
      (sym unpaused) (by (eqb s.old_used 0)))
    where
      by : (t : Bool)
          → Leaves (cond t (After.after (step_done s 0 s.rehash_index) current other entries) (moved_from s current other entries (ahead_of s current)))
      by true = done_leaves 0 s.rehash_index (omega arith) (h.rehashing e).index_fits current other entries refl refl refl
      by false = ahead_leaves (ahead_of s current) refl

-- ---- on the lent buffers

unfoldable pub RehashLeaves : State → List ℕ → List ℕ → List ℕ → After (Result (ℕ × State) Error) → Type 0
RehashLeaves s first second entries (After.after (Err error) x y z) =
    (error ≡ Error.Damaged) × (x ≡ first) × (y ≡ second) × (z ≡ entries)
RehashLeaves s first second entries (After.after (Ok (count, t)) x y z) =
    (length x ≡ length first)
    × (length y ≡ length second)
    × (length z ≡ length entries)
    × Follows s t
    × (oriented t.second_is_current (λ current other. sound t current other z) x y ≡ true)

module _ (s : State) (first second entries : List ℕ) (e : s.rehashing ≡ true) (unpaused : paused s ≡ false) where
  -- by the flag of the state before, and of the one after
  onward_sound : (f : Bool) → s.second_is_current ≡ f → (t : State) (c o z : List ℕ)
      → Onward s (length c) (length o) (length z) t
      → oriented t.second_is_current (λ current other. sound t current other z)
      (oriented f (λ x y. x) c o) (oriented f (λ x y. y) c o)
      ≡ true
  unfolding oriented
  onward_sound false p t c o z (Onward.on g h) =
      subst (λ (f : Bool). oriented f (λ current other. sound t current other z) c o ≡ true) (sym (g ∙ p)) (sound_test t c o z h)
  onward_sound false p t c o z (Onward.over g h) =
      subst (λ (f : Bool). oriented f (λ current other. sound t current other z) c o ≡ true) (sym (g ∙ ap not p)) (sound_test t o c z h)
  onward_sound true p t c o z (Onward.on g h) =
      subst (λ (f : Bool). oriented f (λ current other. sound t current other z) o c ≡ true) (sym (g ∙ p)) (sound_test t c o z h)
  onward_sound true p t c o z (Onward.over g h) =
      subst (λ (f : Bool). oriented f (λ current other. sound t current other z) o c ≡ true) (sym (g ∙ ap not p)) (sound_test t o c z h)

  turned_leaves : (f : Bool) → s.second_is_current ≡ f → (a : After (Result (ℕ × State) Error))
      → StepLeaves s (oriented f (λ x y. x) first second) (oriented f (λ x y. y) first second) entries a
      → RehashLeaves s first second entries (back f a)
  unfolding oriented back StepLeaves RehashLeaves
  turned_leaves false p (After.after (Err error) c o z) k = k
  turned_leaves true p (After.after (Err error) c o z) k = (k.0, k.2, k.1, k.3)
  turned_leaves false p (After.after (Ok (count, t)) c o z) k =
      (k.0, k.1, k.2, k.3, onward_sound false p t c o z k.4)
  turned_leaves true p (After.after (Ok (count, t)) c o z) k =
      (k.1, k.0, k.2, k.3, onward_sound true p t c o z k.4)

  -- once the state is found sound
  passed : (current other : List ℕ) → sound s current other entries ≡ true
      → StepLeaves s current other entries
      (checked s entries (λ c o. After.after (Err Error.BadState) c o entries)
      (λ c o. stepped s c o entries s.rehashing) current other)
  unfolding checked
  passed current other h =
      subst
      (λ (t : Bool).
      StepLeaves s current other entries
      (cond t (stepped s current other entries s.rehashing) (After.after (Err Error.BadState) current other entries)))
      (sym h) (step_leaves s current other entries (sound_facts s current other entries h) e unpaused)

  pub rehash_leaves : oriented s.second_is_current (λ current other. sound s current other entries) first second ≡ true
      → RehashLeaves s first second entries (rehash_step s first second entries)
  unfolding rehash_step writing oriented
  rehash_leaves = by s.second_is_current refl
    where
      by : (f : Bool) → s.second_is_current ≡ f → oriented f (λ current other. sound s current other entries) first second ≡ true
          → RehashLeaves s first second entries
          (back f
          (oriented f
          (checked s entries (λ current other. After.after (Err Error.BadState) current other entries)
          (λ current other. stepped s current other entries s.rehashing))
          first second))
      by false p h = turned_leaves false p _ (passed first second h)
      by true p h = turned_leaves true p _ (passed second first h)
