-- What a sound state tells, fact by fact, and that these facts make it sound.
-- Assumes nothing.
use Prim.Native.Nat.{ℕ, ◌+◌, ◌*◌, ◌≤◌, ◌<◌}
use mathlib.Core.Path.{◌≡◌, refl, sym, ap, ◌∙◌}
use mathlib.Core.Bool.{Bool, true, false, ◌&&◌, not}
use mathlib.Core.List.{List}
use native.Mathlib.Omega.{arith}
use lib.ListN.{length}
use lib.Dec.{leb, eqb}
use Rattle.model.specs.declared.State.{State}
use Rattle.model.specs.Limits.{largest_capacity, legal_capacity, legal_size, most_safe_iterators}
use Rattle.model.specs.declared.Table.{Table}
use Rattle.model.specs.Memory.{size_of, keys_held, sound_capacity, sound_table, sound_rehash, sound_base, sound_state}
use Rattle.model.specs.Calls.{sound, old_new}
use Rattle.model.proofs.Tests.{Tells, told, tested, tells_true, tells_same, tells_and, tells_not, tells_le, tells_eq, true_not_false}

-- with no rehash under way
pub record Resting (s : State) : Type 0 where
  pub no_size : s.new_size ≡ 0
  pub no_keys : s.new_used ≡ 0
  pub no_index : s.rehash_index ≡ 0

pub record Rehashing (s : State) (other : ℕ) : Type 0 where
  pub new_legal : legal_size s.new_size ≡ true
  pub new_fits : s.new_size ≤ other
  pub sizes_differ : s.old_size ≡ s.new_size → ⊥
  pub index_fits : s.rehash_index ≤ s.old_size

-- Beside buffers of these lengths. It is also what the functions below the calls require.
pub record Sound (s : State) (current other entries : ℕ) : Type 0 where
  pub some_entries : 1 ≤ s.capacity
  pub capacity_limit : s.capacity ≤ largest_capacity
  pub entries_fit : s.capacity * 3 ≤ entries
  pub old_legal : legal_size s.old_size ≡ true
  pub old_fits : s.old_size ≤ current
  pub used_fits : s.old_used + s.new_used ≤ s.capacity
  pub free_fits : s.free_head ≤ s.capacity
  pub iterators_fit : s.safe_iterators ≤ most_safe_iterators
  pub resting : s.rehashing ≡ false → Resting s
  pub rehashing : s.rehashing ≡ true → Rehashing s other

-- The parts of the test.

pub tells_legal : (capacity : ℕ) → Tells ((1 ≤ capacity) × (capacity ≤ largest_capacity)) (legal_capacity capacity)
unfolding legal_capacity
tells_legal capacity = tells_and (tells_le 1 capacity) (tells_le capacity largest_capacity)

pub tells_capacity : (entries capacity : ℕ)
    → Tells ((1 ≤ capacity) × (capacity ≤ largest_capacity) × (capacity * 3 ≤ entries)) (sound_capacity entries capacity)
unfolding sound_capacity
tells_capacity entries capacity =
    tells_same (λ h. (h.0.0, h.0.1, h.1)) (λ h. ((h.0, h.1), h.2))
    (tells_and (tells_legal capacity) (tells_le (capacity * 3) entries))

pub tells_table : (buffer size : ℕ) → Tells ((legal_size size ≡ true) × (size ≤ buffer)) (sound_table buffer size)
unfolding sound_table
tells_table buffer size = tells_and (tells_true (legal_size size)) (tells_le size buffer)

module _ (s : State) where
  tells_base : (current entries : ℕ)
      → Tells
      ((((1 ≤ s.capacity) × (s.capacity ≤ largest_capacity) × (s.capacity * 3 ≤ entries))
      × ((legal_size s.old_size ≡ true) × (s.old_size ≤ current)))
      × (s.old_used + s.new_used ≤ s.capacity)
      × (s.free_head ≤ s.capacity)
      × (s.safe_iterators ≤ most_safe_iterators))
      (sound_base current entries s)
  unfolding sound_base keys_held
  tells_base current entries =
      tells_same (λ h. (h.0.0.0, h.0.0.1, h.0.1, h.1)) (λ h. (((h.0, h.1), h.2), h.3))
      (tells_and
      (tells_and
      (tells_and (tells_and (tells_capacity entries s.capacity) (tells_table current s.old_size))
      (tells_le (s.old_used + s.new_used) s.capacity))
      (tells_le s.free_head s.capacity))
      (tells_le s.safe_iterators most_safe_iterators))

  tells_rehashing : (other : ℕ) → Tells (Rehashing s other) (sound_rehash other s true)
  unfolding sound_rehash
  tells_rehashing other =
      tells_same
      (λ h. record { new_legal = h.0.0.0; new_fits = h.0.0.1; sizes_differ = h.0.1; index_fits = h.1 })
      (λ h. (((h.new_legal, h.new_fits), h.sizes_differ), h.index_fits))
      (tells_and
      (tells_and (tells_table other s.new_size) (tells_not (tells_eq s.old_size s.new_size)))
      (tells_le s.rehash_index s.old_size))

  tells_resting : (other : ℕ) → Tells (Resting s) (sound_rehash other s false)
  unfolding sound_rehash
  tells_resting other =
      tells_same (λ h. record { no_size = h.0.0; no_keys = h.0.1; no_index = h.1 })
      (λ h. ((h.no_size, h.no_keys), h.no_index))
      (tells_and (tells_and (tells_eq s.new_size 0) (tells_eq s.new_used 0)) (tells_eq s.rehash_index 0))

  tells_flag : (other : ℕ) (t : Bool) → s.rehashing ≡ t
      → Tells ((s.rehashing ≡ false → Resting s) × (s.rehashing ≡ true → Rehashing s other)) (sound_rehash other s t)
  tells_flag other true e =
      tells_same (λ h. (λ f. absurd (true_not_false (sym e ∙ f)), λ f. h)) (λ h. h.1 e) (tells_rehashing other)
  tells_flag other false e =
      tells_same (λ h. (λ f. h, λ f. absurd (true_not_false (sym f ∙ e)))) (λ h. h.0 e) (tells_resting other)

  -- the whole test
  pub tells_sound : (current other entries : ℕ) → Tells (Sound s current other entries) (sound_state current other entries s)
  unfolding sound_state
  tells_sound current other entries =
      tells_same
      (λ h.
      record {
        some_entries = h.0.0.0.0;
        capacity_limit = h.0.0.0.1;
        entries_fit = h.0.0.0.2;
        old_legal = h.0.0.1.0;
        old_fits = h.0.0.1.1;
        used_fits = h.0.1;
        free_fits = h.0.2;
        iterators_fit = h.0.3;
        resting = h.1.0;
        rehashing = h.1.1;
      })
      (λ h. (
        (
          ((h.some_entries, h.capacity_limit, h.entries_fit), (h.old_legal, h.old_fits)),
          h.used_fits,
          h.free_fits,
          h.iterators_fit,
        ),
        (h.resting, h.rehashing),
      ))
      (tells_and (tells_base current entries) (tells_flag other s.rehashing refl))

-- from the code's test
pub tested_sound : (s : State) (current other entries : ℕ) (r : Bool) → r ≡ sound_state current other entries s → r ≡ true
    → Sound s current other entries
tested_sound s current other entries r e h = told (tells_sound s current other entries) (sym e ∙ h)

-- from the definitions' test, and to it

module _ (s : State) (current other entries : List ℕ) where
  pub sound_facts : sound s current other entries ≡ true → Sound s (length current) (length other) (length entries)
  unfolding sound
  sound_facts h = told (tells_sound s (length current) (length other) (length entries)) h

  pub sound_test : Sound s (length current) (length other) (length entries) → sound s current other entries ≡ true
  unfolding sound
  sound_test h = tested (tells_sound s (length current) (length other) (length entries)) h

-- the part of it that counts keys
pub record Counted (s : State) : Type 0 where
  pub held_fit : s.old_used + s.new_used ≤ s.capacity
  pub capacity_limit : s.capacity ≤ largest_capacity

pub tested_counts : (s : State) (current other entries : ℕ) (r : Bool) → r ≡ sound_state current other entries s → r ≡ true
    → Counted s
tested_counts s current other entries r e h =
    let all = tested_sound s current other entries r e h in
    record { held_fit = all.used_fits; capacity_limit = all.capacity_limit }

-- The code's test, once it knows whether a rehash is under way.

sound_at_lem : (current other entries : ℕ) (s : State) (t : Bool) → s.rehashing ≡ t
    → (sound_base current entries s && sound_rehash other s t) ≡ sound_state current other entries s
unfolding sound_state
sound_at_lem current other entries s t e = ap (λ (f : Bool). sound_base current entries s && sound_rehash other s f) (sym e)

pub sound_rehashing : (current other entries : ℕ) (s : State) (base new : Bool) → s.rehashing ≡ true
    → base ≡ sound_base current entries s → new ≡ sound_table other s.new_size
    → (base && (new && not (eqb s.old_size s.new_size) && leb s.rehash_index s.old_size))
    ≡ sound_state current other entries s
unfolding sound_rehash
sound_rehashing current other entries s base new e b n = rw (b, n) (sound_at_lem current other entries s true e)

pub sound_resting : (current other entries : ℕ) (s : State) (base : Bool) → s.rehashing ≡ false
    → base ≡ sound_base current entries s
    → (base && (eqb s.new_size 0 && eqb s.new_used 0 && eqb s.rehash_index 0))
    ≡ sound_state current other entries s
unfolding sound_rehash
sound_resting current other entries s base e b = rw b (sound_at_lem current other entries s false e)

-- What a sound state says of each table, where there is one.
module _ (s : State) (current other entries : ℕ) (h : Sound s current other entries) where
  pub table_legal : (t : Table) (b : ℕ) → b < size_of s t → legal_size (size_of s t) ≡ true
  unfolding size_of
  table_legal Table.Old b l = h.old_legal
  table_legal Table.New b l = by s.rehashing refl
    where
      by : (t : Bool) → s.rehashing ≡ t → legal_size s.new_size ≡ true
      by true e = (h.rehashing e).new_legal
      by false e = let z = (h.resting e).no_size in absurd (omega arith)

  pub table_fits : (t : Table) → size_of s t ≤ old_new current other t
  unfolding size_of old_new
  table_fits Table.Old = h.old_fits
  table_fits Table.New = by s.rehashing refl
    where
      by : (t : Bool) → s.rehashing ≡ t → s.new_size ≤ other
      by true e = (h.rehashing e).new_fits
      by false e = let z = (h.resting e).no_size in omega arith

  pub index_within : s.rehash_index ≤ s.old_size
  index_within = by s.rehashing refl
    where
      by : (t : Bool) → s.rehashing ≡ t → s.rehash_index ≤ s.old_size
      by true e = (h.rehashing e).index_fits
      by false e = let z = (h.resting e).no_index in omega arith
