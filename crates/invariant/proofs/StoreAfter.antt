-- What a call that changes the store leaves: its answer with a state in it, and memory that has a shape with that state;
-- and which keys its buckets then hold, with which values.
-- Assumes nothing.
use Prim.Native.Nat.{ℕ}
use mathlib.Core.Path.{◌≡◌, refl, sym, ap, subst, ◌∙◌}
use mathlib.Core.Logic.{◌⊎◌, inl, inr}
use mathlib.Core.List.{List}
use Rattle.cursor.specs.Member.{In}
use Rattle.model.specs.declared.State.{State}
use Rattle.model.specs.declared.Table.{Table}
use Rattle.model.specs.Memory.{Place, Live, size_of, keys_held, key_of, value_of}
use Rattle.model.specs.Calls.{After, state_of, recounted}
use Rattle.invariant.proofs.Shape.{IsBucket, Shape}
use Rattle.invariant.proofs.Relink.{Moved}

-- one of some entries has the key and the value
pub record HeldIn (entries ns : List ℕ) (key value : ℕ) : Type 0 where
  pub entry : ℕ
  pub there : In entry ns
  pub its_key : key_of entries entry ≡ key
  pub its_value : value_of entries entry ≡ value

-- so is one of the same entries, by another name for them
abbrev pub held_as_lem : {entries ns ms : List ℕ} {key value : ℕ} → ns ≡ ms → HeldIn entries ns key value → HeldIn entries ms key value
held_as_lem {entries} {ns} {ms} {key} {value} e h = subst (λ (ls : List ℕ). HeldIn entries ls key value) e h

-- the same capacity, the same tables in the same buffers, the same permission and the same safe iterators
pub record SameTables (s s' : State) : Type 0 where
  pub current : s'.second_is_current ≡ s.second_is_current
  pub capacity : s'.capacity ≡ s.capacity
  pub sizes : (t : Table) → size_of s' t ≡ size_of s t
  pub rehashing : s'.rehashing ≡ s.rehashing
  pub allowed : s'.resize_allowed ≡ s.resize_allowed
  pub iterators : s'.safe_iterators ≡ s.safe_iterators

pub recounted_same : (s : State) (free : ℕ) (used : Table → ℕ) → SameTables s (recounted s free used)
unfolding recounted state_of size_of
recounted_same s free used =
    record { current = refl; capacity = refl; sizes = sizes; rehashing = refl; allowed = refl; iterators = refl }
  where
    sizes : (t : Table) → size_of (recounted s free used) t ≡ size_of s t
    sizes Table.Old = refl
    sizes Table.New = refl

-- the state before, the answer as a function of the state in it, the outcome, the number of keys held then, the next bucket
-- of a rehash, and what each live bucket holds
pub record StoreAfter {A : Type 0} (s : State) (answer : State → A) (outcome : After A) (keys index : ℕ)
    (holds : Place → ℕ → ℕ → Type 0) : Type 0 where
  pub state : State
  pub current : List ℕ
  pub other : List ℕ
  pub entries : List ℕ
  pub is : outcome ≡ After.after (answer state) current other entries
  pub shape : Shape state current other entries
  pub same : SameTables s state
  pub keys_held_lem : keys_held state ≡ keys
  pub index_is : state.rehash_index ≡ index
  pub held_only : (t : Place) → Live s t → IsBucket t → (key value : ℕ) → HeldIn entries (shape.at t) key value
      → holds t key value
  pub held_all : (t : Place) → Live s t → IsBucket t → (key value : ℕ) → holds t key value
      → HeldIn entries (shape.at t) key value

-- What a place holds after one relink and before it, where the keys and values of the other entries are kept.
module _ (s : State) (at at' : Place → List ℕ) (p q : Place) (x : ℕ) (us vs : List ℕ)
    (moved : Moved s at at' p q x us vs) (entries entries' : List ℕ)
    (keys_kept : (n : ℕ) → (n ≡ x → ⊥) → key_of entries' n ≡ key_of entries n)
    (values_kept : (n : ℕ) → (n ≡ x → ⊥) → value_of entries' n ≡ value_of entries n) where
  pub held_before : (t : Place) → Live s t → (key value : ℕ) → HeldIn entries' (at' t) key value
      → ((t ≡ q) × (key_of entries' x ≡ key) × (value_of entries' x ≡ value))
      ⊎ ((h : HeldIn entries (at t) key value) × (h.entry ≡ x → ⊥))
  held_before t l key value h = go (moved.before h.entry t l h.there)
    where
      go : ((h.entry ≡ x) × (t ≡ q)) ⊎ ((h.entry ≡ x → ⊥) × In h.entry (at t))
          → ((t ≡ q) × (key_of entries' x ≡ key) × (value_of entries' x ≡ value))
          ⊎ ((h : HeldIn entries (at t) key value) × (h.entry ≡ x → ⊥))
      go (inl e) =
          inl (
            e.1,
            ap (key_of entries') (sym e.0) ∙ h.its_key,
            ap (value_of entries') (sym e.0) ∙ h.its_value,
          )
      go (inr e) =
          inr (
            record {
              entry = h.entry;
              there = e.1;
              its_key = sym (keys_kept h.entry e.0) ∙ h.its_key;
              its_value = sym (values_kept h.entry e.0) ∙ h.its_value;
            },
            e.0,
          )

  pub held_kept : (t : Place) (key value : ℕ) (h : HeldIn entries (at t) key value) → (h.entry ≡ x → ⊥)
      → HeldIn entries' (at' t) key value
  held_kept t key value h d =
      record {
        entry = h.entry;
        there = moved.after h.entry t d h.there;
        its_key = keys_kept h.entry d ∙ h.its_key;
        its_value = values_kept h.entry d ∙ h.its_value;
      }
