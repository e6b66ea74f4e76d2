-- Update keeps the shape: links and keys are as they were, the entry found has the new value, every other one its own.
-- Assumes nothing.
use Prim.Native.Nat.{ℕ, ◌*◌, ◌<◌, ◌≤◌}
use mathlib.Core.Path.{◌≡◌, refl, sym, ap, subst, ◌∙◌}
use mathlib.Core.Logic.{◌⊎◌, inl, inr}
use mathlib.Core.List.{List}
use mathlib.Core.Bool.{true}
use native.Mathlib.Decide.{ℕ_discrete}
use native.Mathlib.Omega.{arith}
use lib.ListN.{length}
use Rattle.cursor.specs.Member.{In}
use Rattle.model.specs.Memory.{Place, head_at, keys_held, set_value, sound_state, Live, key_of, value_of}
use Rattle.model.proofs.Fields.{length_set_value, value_set_same, value_set_other, link_set_value, key_set_value}
use Rattle.model.specs.declared.State.{State}
use Rattle.model.specs.Calls.{After}
use Rattle.model.proofs.Linked.{linked_kept}
use Rattle.invariant.proofs.Shape.{Home, IsBucket, Shape, facts}
use Rattle.invariant.proofs.LinkedChains.{shape_range}
use Rattle.invariant.proofs.StoreAfter.{HeldIn, held_as_lem, StoreAfter}
use Rattle.std.specs.Prelude.{Result, Ok}
use Rattle.model.specs.declared.Error.{Error}

module _ {s : State} {current other entries : List ℕ} (h : Shape s current other entries) (n value : ℕ) where
  -- the shape after the value of an entry is changed
  updated_shape : Shape s current other (set_value entries n value)
  updated_shape =
      record {
        state_sound =
            subst (λ (k : ℕ). sound_state (length current) (length other) k s ≡ true)
            (sym (length_set_value entries n value)) h.state_sound;
        at = h.at;
        linked =
            λ p l.
            linked_kept entries (set_value entries n value) s.capacity (head_at s current other p) (h.at p)
            (λ m i. link_set_value entries n m value) (h.linked p l);
        owner = h.owner;
        owned = h.owned;
        owns = h.owns;
        home =
            λ m p l i.
            subst (λ (key : ℕ). Home s key p) (sym (key_set_value entries n m value)) (h.home m p l i);
        keys_distinct =
            λ m k p q l j a b x y e.
            h.keys_distinct m k p q l j a b x y
            (sym (key_set_value entries n m value) ∙ e ∙ key_set_value entries n k value);
        passed_empty = h.passed_empty;
        counts = h.counts;
        free_count = h.free_count;
      }

  -- its chains and owners are those before
  updated_at : (p : Place) → updated_shape.at p ≡ h.at p
  unfolding updated_shape
  updated_at p = refl

-- which keys a bucket holds once a key's value is changed, by what it held
abbrev pub Changed : ℕ → ℕ → (ℕ → ℕ → Type 0) → ℕ → ℕ → Type 0
Changed key value before k v = ((k ≡ key) × (v ≡ value) × (was : ℕ) × before key was) ⊎ (before k v × (k ≡ key → ⊥))

module _ {s : State} {current other entries : List ℕ} (shape : Shape s current other entries) (key value n : ℕ) (p : Place)
    (live : Live s p) (bucket : IsBucket p) (there : In n (shape.at p)) (its_key : key_of entries n ≡ key) where
  -- the entry is inside the buffer
  inside : (0 < n) × (n * 3 ≤ length entries)
  inside =
      let (z, k) = shape_range shape p live n there in
      let fit = (facts shape).entries_fit in
      (z, omega arith)

  -- the entries with the key, and no others, are that one
  that_one : (t : Place) → Live s t → IsBucket t → (m : ℕ) → In m (shape.at t) → key_of entries m ≡ key → m ≡ n
  that_one t l b m i k = shape.keys_distinct m n t p l live b bucket i there (k ∙ sym its_key)

  -- the outcome of an update that found its key; the state stays
  pub updated_store : (l : StoreAfter {A = Result (Unit {0}) Error} s (λ t. Ok tt)
      (After.after (Ok tt) current other (set_value entries n value)) (keys_held s) s.rehash_index
      (λ t k v. Changed key value (HeldIn entries (shape.at t)) k v)) × (l.state ≡ s)
  updated_store = (
    record {
      state = s;
      current = current;
      other = other;
      entries = set_value entries n value;
      is = refl;
      shape = updated_shape shape n value;
      same = record { current = refl; capacity = refl; sizes = λ t. refl; rehashing = refl; allowed = refl; iterators = refl };
      keys_held_lem = refl;
      index_is = refl;
      held_only =
          λ t l b k v h.
          only t l b k v (held_as_lem (updated_at shape n value t) h)
          (ℕ_discrete h.entry n);
      held_all =
          λ t l b k v h.
          held_as_lem (sym (updated_at shape n value t))
          (all t l b k v h);
    },
    refl,
  )
    where
      only : (t : Place) → Live s t → IsBucket t → (k v : ℕ) (h : HeldIn (set_value entries n value) (shape.at t) k v)
          → Dec (h.entry ≡ n) → Changed key value (HeldIn entries (shape.at t)) k v
      only t l b k v h (yes e) =
          inl (
            sym h.its_key ∙ key_set_value entries n h.entry value ∙ ap (key_of entries) e ∙ its_key,
            sym h.its_value ∙ ap (value_of (set_value entries n value)) e ∙ value_set_same entries n value inside.0 inside.1,
            value_of entries h.entry,
            record {
              entry = h.entry;
              there = h.there;
              its_key = ap (key_of entries) e ∙ its_key;
              its_value = refl;
            },
          )
      only t l b k v h (no d) =
          let same_key : key_of entries h.entry ≡ k = sym (key_set_value entries n h.entry value) ∙ h.its_key in
          inr (
            record {
              entry = h.entry;
              there = h.there;
              its_key = same_key;
              its_value = sym (value_set_other entries n h.entry value d) ∙ h.its_value;
            },
            λ e. d (that_one t l b h.entry h.there (same_key ∙ e)),
          )

      all : (t : Place) → Live s t → IsBucket t → (k v : ℕ) → Changed key value (HeldIn entries (shape.at t)) k v
          → HeldIn (set_value entries n value) (shape.at t) k v
      all t l b k v (inl (e, f, was, h)) =
          record {
            entry = h.entry;
            there = h.there;
            its_key = key_set_value entries n h.entry value ∙ h.its_key ∙ sym e;
            its_value =
                ap (value_of (set_value entries n value)) (that_one t l b h.entry h.there h.its_key)
                ∙ value_set_same entries n value inside.0 inside.1
                ∙ sym f;
          }
      all t l b k v (inr (h, d)) =
          record {
            entry = h.entry;
            there = h.there;
            its_key = key_set_value entries n h.entry value ∙ h.its_key;
            its_value =
                value_set_other entries n h.entry value
                (λ e. d (sym h.its_key ∙ ap (key_of entries) e ∙ its_key))
                ∙ h.its_value;
          }
