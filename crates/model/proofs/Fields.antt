-- An entry's fields at the places where the code reads and writes them, that a write keeps the length, and that what is
-- written is read back there and leaves all else.
-- Assumes nothing.
use Prim.Native.Nat.{ℕ, zero, suc, ◌+◌, ◌*◌, ◌-◌, ◌<◌, ◌≤◌}
use mathlib.Core.Path.{◌≡◌, refl}
use mathlib.Core.List.{List}
use native.Mathlib.Numerals.{sub-one}
use native.Mathlib.Omega.{arith}
use lib.ListN.{length, get_or, set, length-set}
use lib.Seq.{get_or-set_same, get_or-set_other}
use Rattle.model.specs.Memory.{link_of, key_of, value_of, set_link, set_key, set_value, set_entry}

module _ (entries : List ℕ) where
  pub link_at : (n : ℕ) → 0 < n → get_or entries ((n - 1) * 3) 0 ≡ link_of entries n
  unfolding link_of
  link_at zero h = absurd (omega arith)
  link_at (suc n) h = rw sub-one

  pub key_at : (n : ℕ) → 0 < n → get_or entries ((n - 1) * 3 + 1) 0 ≡ key_of entries n
  unfolding key_of
  key_at zero h = absurd (omega arith)
  key_at (suc n) h = rw sub-one

  pub value_at : (n : ℕ) → 0 < n → get_or entries ((n - 1) * 3 + 2) 0 ≡ value_of entries n
  unfolding value_of
  value_at zero h = absurd (omega arith)
  value_at (suc n) h = rw sub-one

  pub set_link_at : (n x : ℕ) → 0 < n → set entries ((n - 1) * 3) x ≡ set_link entries n x
  unfolding set_link
  set_link_at zero x h = absurd (omega arith)
  set_link_at (suc n) x h = rw sub-one

  pub set_key_at : (n x : ℕ) → 0 < n → set entries ((n - 1) * 3 + 1) x ≡ set_key entries n x
  unfolding set_key
  set_key_at zero x h = absurd (omega arith)
  set_key_at (suc n) x h = rw sub-one

  pub set_value_at : (n x : ℕ) → 0 < n → set entries ((n - 1) * 3 + 2) x ≡ set_value entries n x
  unfolding set_value
  set_value_at zero x h = absurd (omega arith)
  set_value_at (suc n) x h = rw sub-one

  pub length_set_link : (n x : ℕ) → length (set_link entries n x) ≡ length entries
  unfolding set_link
  length_set_link zero x = refl
  length_set_link (suc n) x = length-set entries (n * 3) x

  pub length_set_key : (n x : ℕ) → length (set_key entries n x) ≡ length entries
  unfolding set_key
  length_set_key zero x = refl
  length_set_key (suc n) x = length-set entries (n * 3 + 1) x

  pub length_set_value : (n x : ℕ) → length (set_value entries n x) ≡ length entries
  unfolding set_value
  length_set_value zero x = refl
  length_set_value (suc n) x = length-set entries (n * 3 + 2) x

  -- a written link, and the other two of any entry

  pub link_set_same : (n x : ℕ) → 0 < n → n * 3 ≤ length entries → link_of (set_link entries n x) n ≡ x
  unfolding link_of set_link
  link_set_same zero x h l = absurd (omega arith)
  link_set_same (suc n) x h l = get_or-set_same entries (n * 3) x 0 (omega arith)

  pub key_set_link : (n m x : ℕ) → key_of (set_link entries n x) m ≡ key_of entries m
  unfolding key_of set_link
  key_set_link zero zero x = refl
  key_set_link zero (suc m) x = refl
  key_set_link (suc n) zero x = refl
  key_set_link (suc n) (suc m) x = get_or-set_other entries (n * 3) (m * 3 + 1) x 0 (λ h. omega arith)

  pub value_set_link : (n m x : ℕ) → value_of (set_link entries n x) m ≡ value_of entries m
  unfolding value_of set_link
  value_set_link zero zero x = refl
  value_set_link zero (suc m) x = refl
  value_set_link (suc n) zero x = refl
  value_set_link (suc n) (suc m) x = get_or-set_other entries (n * 3) (m * 3 + 2) x 0 (λ h. omega arith)

-- the three writes of a whole entry
pub set_entry_at : (entries : List ℕ) (n link key value : ℕ) → 0 < n
    → set (set (set entries ((n - 1) * 3) link) ((n - 1) * 3 + 1) key) ((n - 1) * 3 + 2) value
    ≡ set_entry entries n link key value
unfolding set_entry
set_entry_at entries n link key value h = simp (set_link_at, set_key_at, set_value_at, h)

pub length_set_entry : (entries : List ℕ) (n link key value : ℕ) → length (set_entry entries n link key value) ≡ length entries
unfolding set_entry
length_set_entry entries n link key value = simp (length_set_value, length_set_key, length_set_link)

-- An entry's key and value, and each of its three numbers at a write of another one.

module _ (e : List ℕ) where
  -- at the entry written, which is inside the buffer

  pub key_set_same : (n x : ℕ) → 0 < n → n * 3 ≤ length e → key_of (set_key e n x) n ≡ x
  unfolding key_of set_key
  key_set_same zero x h l = absurd (omega arith)
  key_set_same (suc n) x h l = get_or-set_same e (n * 3 + 1) x 0 (omega arith)

  pub value_set_same : (n x : ℕ) → 0 < n → n * 3 ≤ length e → value_of (set_value e n x) n ≡ x
  unfolding value_of set_value
  value_set_same zero x h l = absurd (omega arith)
  value_set_same (suc n) x h l = get_or-set_same e (n * 3 + 2) x 0 (omega arith)

  -- at another entry (the law of the link is `link_set_other`, proofs/Linked)

  pub key_set_other : (n m x : ℕ) → (m ≡ n → ⊥) → key_of (set_key e n x) m ≡ key_of e m
  unfolding key_of set_key
  key_set_other zero zero x d = refl
  key_set_other zero (suc m) x d = refl
  key_set_other (suc n) zero x d = refl
  key_set_other (suc n) (suc m) x d = get_or-set_other e (n * 3 + 1) (m * 3 + 1) x 0 (λ h. d (omega arith))

  pub value_set_other : (n m x : ℕ) → (m ≡ n → ⊥) → value_of (set_value e n x) m ≡ value_of e m
  unfolding value_of set_value
  value_set_other zero zero x d = refl
  value_set_other zero (suc m) x d = refl
  value_set_other (suc n) zero x d = refl
  value_set_other (suc n) (suc m) x d = get_or-set_other e (n * 3 + 2) (m * 3 + 2) x 0 (λ h. d (omega arith))

  -- one of the three at a write of another one

  pub link_set_key : (n m x : ℕ) → link_of (set_key e n x) m ≡ link_of e m
  unfolding link_of set_key
  link_set_key zero zero x = refl
  link_set_key zero (suc m) x = refl
  link_set_key (suc n) zero x = refl
  link_set_key (suc n) (suc m) x = get_or-set_other e (n * 3 + 1) (m * 3) x 0 (λ h. omega arith)

  pub link_set_value : (n m x : ℕ) → link_of (set_value e n x) m ≡ link_of e m
  unfolding link_of set_value
  link_set_value zero zero x = refl
  link_set_value zero (suc m) x = refl
  link_set_value (suc n) zero x = refl
  link_set_value (suc n) (suc m) x = get_or-set_other e (n * 3 + 2) (m * 3) x 0 (λ h. omega arith)

  pub key_set_value : (n m x : ℕ) → key_of (set_value e n x) m ≡ key_of e m
  unfolding key_of set_value
  key_set_value zero zero x = refl
  key_set_value zero (suc m) x = refl
  key_set_value (suc n) zero x = refl
  key_set_value (suc n) (suc m) x = get_or-set_other e (n * 3 + 2) (m * 3 + 1) x 0 (λ h. omega arith)

  pub value_set_key : (n m x : ℕ) → value_of (set_key e n x) m ≡ value_of e m
  unfolding value_of set_key
  value_set_key zero zero x = refl
  value_set_key zero (suc m) x = refl
  value_set_key (suc n) zero x = refl
  value_set_key (suc n) (suc m) x = get_or-set_other e (n * 3 + 1) (m * 3 + 2) x 0 (λ h. omega arith)
