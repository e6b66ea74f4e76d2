-- The shape of an undamaged store: for each place the entries of its chain, for each entry the place that owns it. It is
-- what the calls' proofs keep; the statements do not name it.
-- Assumes nothing.
use Prim.Native.Nat.{ℕ, ◌+◌, ◌<◌, ◌≤◌}
use mathlib.Core.Path.{◌≡◌}
use mathlib.Core.Bool.{true}
use mathlib.Core.List.{List}
use lib.ListN.{length, get_or}
use Rattle.cursor.specs.Member.{In}
use Rattle.model.specs.declared.State.{State}
use Rattle.model.specs.declared.Table.{Table}
use Rattle.model.specs.Keys.{bucket_of}
use Rattle.model.specs.Memory.{Place, Live, head_at, size_of, used_of, key_of, sound_state, sum}
use Rattle.model.specs.Calls.{sound}
use Rattle.model.proofs.Linked.{Linked}
use Rattle.model.proofs.Soundness.{Sound, sound_facts}

-- the bucket that a key calls for; the free list takes any
unfoldable pub Home : State → ℕ → Place → Type 0
Home s key Place.free = Unit {0}
Home s key (Place.bucket t b) = bucket_of key (size_of s t) ≡ b

unfoldable pub IsBucket : Place → Type 0
IsBucket Place.free = ⊥
IsBucket (Place.bucket t b) = Unit {0}

pub record Shape (s : State) (current other entries : List ℕ) : Type 0 where
  pub state_sound : sound_state (length current) (length other) (length entries) s ≡ true
  pub at : Place → List ℕ
  pub linked : (p : Place) → Live s p → Linked entries s.capacity (head_at s current other p) (at p)
  pub owner : ℕ → Place
  pub owned : (n : ℕ) → 0 < n → n ≤ s.capacity → Live s (owner n) × In n (at (owner n))
  pub owns : (n : ℕ) (p : Place) → Live s p → In n (at p) → owner n ≡ p
  pub home : (n : ℕ) (p : Place) → Live s p → In n (at p) → Home s (key_of entries n) p
  pub keys_distinct : (n m : ℕ) (p q : Place) → Live s p → Live s q → IsBucket p → IsBucket q
      → In n (at p) → In m (at q) → key_of entries n ≡ key_of entries m → n ≡ m
  pub passed_empty : (b : ℕ) → b < s.rehash_index → get_or current b 0 ≡ 0
  pub counts : (t : Table) → used_of s t ≡ sum (λ b. length (at (Place.bucket t b))) (size_of s t)
  pub free_count : length (at Place.free) + (s.old_used + s.new_used) ≡ s.capacity

module _ {s : State} {current other entries : List ℕ} (h : Shape s current other entries) where
  -- the state is sound, and what that says
  pub shape_sound : sound s current other entries ≡ true
  unfolding sound
  shape_sound = h.state_sound

  pub facts : Sound s (length current) (length other) (length entries)
  facts = sound_facts s current other entries shape_sound
