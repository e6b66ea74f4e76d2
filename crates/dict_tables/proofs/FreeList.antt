-- Linking the free list of a new store, one entry a turn, from the last one down.
-- Assumes nothing.
use Prim.Native.Nat.{ℕ, zero, suc, ◌+◌, ◌*◌, ◌-◌, ◌≤◌, ◌<◌}
use mathlib.Core.Path.{◌≡◌, refl, sym, ap, ◌∙◌}
use mathlib.Core.List.{List, [], ◌∷◌, ◌++◌, append_assoc}
use native.Mathlib.Numerals.{sub-one}
use native.Mathlib.Nat.{sub_self}
use native.Mathlib.Omega.{arith}
use lib.ListN.{length, set, take, drop, take-append-drop, length-append}
use lib.Seq.{sets-eq, take-append-le, take-take, drop_at, length-take-le}
use Rattle.model.specs.Memory.{set_link, set_key, set_value, set_entry}
use Rattle.model.specs.Calls.{free_link, free_entries}
use Rattle.model.proofs.Fields.{length_set_entry}

-- the entries above n are on the free list, link is what entry n is to be linked to, and the rest is as it was
pub record Linking (entries₀ : List ℕ) (capacity n link : ℕ) (entries : List ℕ) : Type 0 where
  pub in_range : n ≤ capacity
  pub same_length : length entries ≡ length entries₀
  pub linked : link ≡ free_link n (capacity - n)
  pub so_far : entries ≡ take (n * 3) entries₀ ++ (free_entries (suc n) (capacity - n) ++ drop (capacity * 3) entries₀)

-- three stores at the end of what is kept of a list
three_stores : (kept rest : List ℕ) (p x y z : ℕ) → p + 3 ≤ length kept
    → set (set (set (take (p + 3) kept ++ rest) p x) (p + 1) y) (p + 2) z ≡ take p kept ++ (x ∷ y ∷ z ∷ rest)
three_stores kept rest p x y z fits =
    let whole = take (p + 3) kept ++ rest in
    let cut : length (take (p + 3) kept) ≡ p + 3 = length-take-le (p + 3) kept fits in
    let below : p ≤ length (take (p + 3) kept) = omega arith in
    let front : take p whole ≡ take p kept = take-append-le p (take (p + 3) kept) rest below ∙ take-take p (p + 3) kept (omega arith) in
    let long : p + 3 ≤ length whole = simp length-append (omega arith) in
    let one : p + 1 ≡ suc p = omega arith in
    let two : p + 2 ≡ suc (suc p) = omega arith in
    rw (one, two) (sets-eq (x ∷ y ∷ z ∷ []) whole p long ∙ rw (front, drop_at (take (p + 3) kept) rest (p + 3) cut, append_assoc))

-- a whole entry written between what is kept and what was written before
entry_between : (entries₀ rest : List ℕ) (n link : ℕ) → suc n * 3 ≤ length entries₀
    → set_entry (take (suc n * 3) entries₀ ++ rest) (suc n) link 0 0 ≡ take (n * 3) entries₀ ++ (link ∷ 0 ∷ 0 ∷ rest)
unfolding set_entry set_value set_key set_link
entry_between entries₀ rest n link fits =
    let e : suc n * 3 ≡ n * 3 + 3 = omega arith in
    rw e (three_stores entries₀ rest (n * 3) link 0 0 (omega arith))

module _ (entries₀ : List ℕ) (capacity : ℕ) (fits : capacity * 3 ≤ length entries₀) where
  pub linking_start : Linking entries₀ capacity capacity 0 entries₀
  unfolding free_link free_entries
  linking_start =
      record {
        in_range = omega arith;
        same_length = refl;
        linked = rw sub_self;
        so_far = rw sub_self (sym (take-append-drop (capacity * 3) entries₀));
      }

  module _ (n link : ℕ) (entries : List ℕ) (h : Linking entries₀ capacity n link entries) where
    pub linking_next : (entries' : List ℕ) → 0 < n → entries' ≡ set_entry entries (n - 1 + 1) link 0 0
        → Linking entries₀ capacity (n - 1) (n - 1 + 1) entries'
    unfolding free_link free_entries
    linking_next entries' l e = let same : n - 1 + 1 ≡ n = omega arith in rw same (stepped n h l (rw same at e))
      where
        stepped : (n : ℕ) → Linking entries₀ capacity n link entries → 0 < n → entries' ≡ set_entry entries n link 0 0
            → Linking entries₀ capacity (n - 1) n entries'
        stepped zero h l e = absurd (omega arith)
        stepped (suc n) h l e =
            let behind : capacity - n ≡ suc (capacity - suc n) = omega arith in
            let rest = free_entries (suc (suc n)) (capacity - suc n) ++ drop (capacity * 3) entries₀ in
            let written : entries' ≡ take (n * 3) entries₀ ++ (link ∷ 0 ∷ 0 ∷ rest) =
            (rw h.so_far at e) ∙ entry_between entries₀ rest n link (omega arith) in
            rw sub-one
            record {
              in_range = omega arith;
              same_length = ap length e ∙ length_set_entry entries (suc n) link 0 0 ∙ h.same_length;
              linked = rw behind;
              so_far = rw (behind, ← h.linked) written;
            }

    pub linking_end : n ≤ 0 → entries ≡ free_entries 1 capacity ++ drop (capacity * 3) entries₀
    linking_end l =
        let e : n ≡ 0 = omega arith in
        let all : capacity - 0 ≡ capacity = omega arith in
        rw (e, all) at h.so_far
