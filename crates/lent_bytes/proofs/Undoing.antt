-- A state and its eleven numbers: one undoes the other. With the laws of `little_endian` on numbers and bytes this is so of a
-- state and its bytes.
-- Assumes nothing.
use Prim.Native.Nat.{ℕ, zero, suc}
use native.Mathlib.Omega.{arith}
use mathlib.Core.Path.{◌≡◌, refl, sym, ap, ◌∙◌}
use mathlib.Core.Bool.{Bool, true, false, ◌&&◌}
use mathlib.Core.List.{List, [], ◌∷◌}
use lib.ListN.{length, get_or}
use lib.Dec.{leb, eqb}
use Rattle.little_endian.specs.Words.{decode, encode}
use Rattle.little_endian.specs.Reading.{Decoded}
use Rattle.little_endian.proofs.Laws.{encode_length}
use Rattle.model.specs.declared.State.{State}
use Rattle.model.proofs.Tests.{Tells, told, tells_true, tells_and, tells_le}
use Rattle.lent_bytes.specs.Exports.{flag, state_numbers, state_from, state_bytes, flags_fit}
use Rattle.lent_bytes.specs.Checked.{flag_from, StateFits, StateRead, StateGiven}
use Rattle.std.specs.Prelude.{Option, Some, None}
use Rattle.std.proofs.Math.Bool.{and-false}

-- A flag and its number

flag_number : (n : ℕ) → leb n 1 ≡ true → flag (eqb n 1) ≡ n
unfolding flag
flag_number zero h = refl
flag_number (suc zero) h = refl
flag_number (suc (suc n)) h = absurd (omega (arith, told (tells_le (suc (suc n)) 1) h))

number_flag : (on : Bool) → eqb (flag on) 1 ≡ on
unfolding flag
number_flag true = refl
number_flag false = refl

-- A list is its elements, one by one

elements : ℕ → (ℕ → ℕ) → List ℕ
elements zero at = []
elements (suc n) at = at 0 ∷ elements n (λ i. at (suc i))

listed : (ns : List ℕ) → elements (length ns) (λ i. get_or ns i 0) ≡ ns
unfolding elements
listed [] = refl
listed (n ∷ ns) = ap (λ (l : List ℕ). n ∷ l) (listed ns)

-- The two laws

pub numbers_state : (ns : List ℕ) → length ns ≡ 11 → flags_fit ns ≡ true → state_numbers (state_from ns) ≡ ns
unfolding flags_fit state_numbers state_from elements
numbers_state ns eleven h =
    let fits : (i : ℕ) → Tells (leb (get_or ns i 0) 1 ≡ true) (leb (get_or ns i 0) 1) = λ i. tells_true (leb (get_or ns i 0) 1) in
    let t = told (tells_and (tells_and (fits 0) (fits 5)) (fits 9)) h in
    rw (flag_number (get_or ns 0 0) t.0.0, flag_number (get_or ns 5 0) t.0.1, flag_number (get_or ns 9 0) t.1)
    (ap (λ (n : ℕ). elements n (λ i. get_or ns i 0)) (sym eleven) ∙ listed ns)

pub state_numbers_lem : (s : State) → state_from (state_numbers s) ≡ s
unfolding state_numbers state_from
state_numbers_lem s =
    rw (number_flag s.second_is_current, number_flag s.rehashing, number_flag s.resize_allowed)

-- What the code reads of a state

pub state_read : (state ns : List ℕ) → StateFits state → Decoded state ns → StateRead state (state_from ns)
unfolding state_bytes
state_read state ns f d =
    let l : length ns ≡ 11 = omega (arith, encode_length ns, ap length d.back, f.has_all_bytes) in
    let h : flags_fit ns ≡ true = ap flags_fit d.read ∙ f.flags in
    record { read = ap state_from d.read; back = d.back ∙ ap encode (sym (numbers_state ns l h)) }

-- a flag that is read, or is none

flag_given : (n : ℕ) (on : Bool) → flag_from n ≡ Some on → (leb n 1 ≡ true) × (on ≡ eqb n 1)
unfolding flag_from
flag_given n on e = grind arith

flag_missing : (n : ℕ) → flag_from n ≡ None → leb n 1 ≡ false
unfolding flag_from
flag_missing n e = grind arith

module _ (state ns : List ℕ) (d : Decoded state ns) where
  pub unfit_at_0 : flag_from (get_or ns 0 0) ≡ None → flags_fit (decode state) ≡ false
  unfolding flags_fit
  unfit_at_0 e = rw (sym d.read, flag_missing (get_or ns 0 0) e) refl

  pub unfit_at_5 : flag_from (get_or ns 5 0) ≡ None → flags_fit (decode state) ≡ false
  unfolding flags_fit
  unfit_at_5 e = rw (sym d.read, flag_missing (get_or ns 5 0) e, and-false (leb (get_or ns 0 0) 1)) refl

  pub unfit_at_9 : flag_from (get_or ns 9 0) ≡ None → flags_fit (decode state) ≡ false
  unfolding flags_fit
  unfit_at_9 e = rw (sym d.read, flag_missing (get_or ns 9 0) e, and-false (leb (get_or ns 0 0) 1 && leb (get_or ns 5 0) 1)) refl

  pub fitting : (x y z : Option Bool) (a b e : Bool) → length state ≡ state_bytes
      → x ≡ flag_from (get_or ns 0 0) → y ≡ flag_from (get_or ns 5 0) → z ≡ flag_from (get_or ns 9 0)
      → x ≡ Some a → y ≡ Some b → z ≡ Some e
      → StateGiven state
      (record {
        second_is_current = a;
        old_size = get_or ns 1 0;
        new_size = get_or ns 2 0;
        old_used = get_or ns 3 0;
        new_used = get_or ns 4 0;
        rehashing = b;
        rehash_index = get_or ns 6 0;
        free_head = get_or ns 7 0;
        capacity = get_or ns 8 0;
        resize_allowed = e;
        safe_iterators = get_or ns 10 0;
      })
  unfolding flags_fit state_from
  fitting x y z a b e l x_is y_is z_is p q r =
      let (u, a_is) = flag_given (get_or ns 0 0) a (sym x_is ∙ p) in
      let (v, b_is) = flag_given (get_or ns 5 0) b (sym y_is ∙ q) in
      let (w, e_is) = flag_given (get_or ns 9 0) e (sym z_is ∙ r) in
      let f : StateFits state = record { has_all_bytes = l; flags = rw (sym d.read, u, v, w) refl } in
      record { fits = f; read = rw (a_is, b_is, e_is) (state_read state ns f d) }
