-- An entry that is kept is the first met with its key: none before it in its bucket has the key, and for one in the new table
-- none that is met in the old one.
-- Assumes nothing.
use Prim.Native.Nat.{ℕ, zero, suc, ◌<◌}
use mathlib.Core.Path.{◌≡◌, refl, sym, ap, subst, ◌∙◌}
use mathlib.Core.Logic.{inl, inr, ⊎_elim}
use mathlib.Core.Bool.{Bool, true, false, cond}
use mathlib.Core.List.{List, [], ◌∷◌, ◌++◌, append_assoc, append-nil}
use native.Mathlib.Decide.{dec_lt}
use native.Mathlib.Omega.{arith}
use lib.Dec.{eqb}
use borrow.Author.Tests.{eqb-true, eqb-false}
use Rattle.cursor.specs.Member.{In, Distinct}
use Rattle.model.specs.declared.State.{State}
use Rattle.model.specs.declared.Table.{Table}
use Rattle.model.specs.Memory.{key_of, size_of, buckets_of}
use Rattle.model.specs.Repair.{followed_in, met_in, met_before, met_at, met_all, first_met, is_kept}
use Rattle.model.proofs.Lists.{in_left, in_right, in_middle, in_either, parts_apart}
use Rattle.model.proofs.Followed.{here_met, here_distinct, before_in, here_in}

-- no entry before the first one with the key has it
first_none : (entries : List ℕ) (key n : ℕ) (xs ys : List ℕ) → first_met entries key (xs ++ ys) ≡ n → (In n xs → ⊥)
    → (m : ℕ) → In m xs → key_of entries m ≡ key → ⊥
unfolding first_met
first_none entries key n [] ys first new m i e = elim i [ ]
first_none entries key n (x ∷ xs) ys first new m i e =
    by (eqb (key_of entries x) key) refl first (λ f. first_none entries key n xs ys f (λ j. new (inr j)) m)
  where
    by : (b : Bool) → eqb (key_of entries x) key ≡ b → cond b x (first_met entries key (xs ++ ys)) ≡ n
        → (first_met entries key (xs ++ ys) ≡ n → In m xs → key_of entries m ≡ key → ⊥) → ⊥
    by true t f rest = new (inl (sym f))
    by false t f rest =
        ⊎_elim (λ same. eqb-false (key_of entries x) key t (ap (key_of entries) (sym same) ∙ e)) (λ j. rest f j e) i

-- what is met up to a bucket and in it is the front of what is met up to any later one
module _ (entries : List ℕ) (capacity : ℕ) (buckets : List ℕ) (size : ℕ) (before : List ℕ) where
  abbrev up_to : ℕ → List ℕ
  up_to b = met_in entries capacity buckets size before b

  abbrev here : ℕ → List ℕ
  here b = followed_in entries capacity buckets size (up_to b) b

  met_front : (b c : ℕ) → b < c → (rest : List ℕ) × (up_to c ≡ up_to b ++ (here b ++ rest))
  unfolding met_in
  met_front b zero l = absurd (omega arith)
  met_front b (suc c) l =
      elim (dec_lt b c) [
        | yes k ↦
            let (rest, e) = met_front b c k in (
              rest ++ here c,
              ap (λ (ns : List ℕ). ns ++ here c) e
                  ∙ append_assoc (up_to b) (here b ++ rest) (here c)
                  ∙ ap (λ (ns : List ℕ). up_to b ++ ns) (append_assoc (here b) rest (here c)),
            )
        | no k ↦
            let same : c ≡ b = omega arith in (
              [],
              ap (λ (a : ℕ). up_to a ++ here a) same ∙ ap (λ (ns : List ℕ). up_to b ++ ns) (sym (append-nil (here b))),
            )
      ]

  from_before : (c : ℕ) → (rest : List ℕ) × (up_to c ≡ before ++ rest)
  unfolding met_in
  from_before zero = ([], sym (append-nil before))
  from_before (suc c) =
      let (rest, e) = from_before c in
      (rest ++ here c, ap (λ (ns : List ℕ). ns ++ here c) e ∙ append_assoc before rest (here c))

module _ (s : State) (current other entries : List ℕ) where
  -- what is met before a bucket
  abbrev first : Table → ℕ → List ℕ
  first t b = met_in entries s.capacity (buckets_of current other t) (size_of s t) (met_before s current entries t) b

  -- all that is met: before a bucket, in it, and behind it
  around : (t : Table) (b : ℕ) → b < size_of s t
      → (rest : List ℕ) × (met_all s current other entries ≡ first t b ++ (met_at s current other entries t b ++ rest))
  unfolding met_all met_at met_before size_of buckets_of
  around Table.New b l = met_front entries s.capacity other s.new_size (met_before s current entries Table.New) b s.new_size l
  around Table.Old b l =
      let (rest, e) = met_front entries s.capacity current s.old_size [] b s.old_size l in
      let (more, f) =
      from_before entries s.capacity other s.new_size (met_before s current entries Table.New) s.new_size in (
        rest ++ more,
        f
            ∙ ap (λ (ns : List ℕ). ns ++ more) e
            ∙ append_assoc (first Table.Old b) (met_at s current other entries Table.Old b ++ rest) more
            ∙ ap (λ (ns : List ℕ). first Table.Old b ++ ns) (append_assoc (met_at s current other entries Table.Old b) rest more),
      )

  module _ (t : Table) (b n : ℕ) (l : b < size_of s t) (us vs : List ℕ) (split : met_at s current other entries t b ≡ us ++ (n ∷ vs))
      (kept : is_kept s current other entries n ≡ true) where
    its_bucket : In n (met_at s current other entries t b)
    its_bucket = subst (In n) (sym split) (in_middle n us vs)

    -- neither met before the bucket nor before it there
    alone : In n (first t b ++ us) → ⊥
    unfolding met_at
    alone i =
        ⊎_elim
        (here_met entries s.capacity (buckets_of current other t) (size_of s t) (met_before s current entries t) b n its_bucket).new
        (λ j.
        parts_apart n us (n ∷ vs)
        (subst (λ (ns : List ℕ). Distinct ns) split
        (here_distinct entries s.capacity (buckets_of current other t) (size_of s t) (met_before s current entries t) b))
        j (inl refl))
        (in_either n (first t b) us i)

    none_before : (m : ℕ) → In m (first t b ++ us) → key_of entries m ≡ key_of entries n → ⊥
    unfolding is_kept
    none_before m i e =
        let (rest, all) = around t b l in
        let front : met_all s current other entries ≡ (first t b ++ us) ++ ((n ∷ vs) ++ rest) =
        all
        ∙ ap (λ (ns : List ℕ). first t b ++ (ns ++ rest)) split
        ∙ ap (λ (ns : List ℕ). first t b ++ ns) (append_assoc us (n ∷ vs) rest)
        ∙ sym (append_assoc (first t b) us ((n ∷ vs) ++ rest)) in
        first_none entries (key_of entries n) n (first t b ++ us) ((n ∷ vs) ++ rest)
        (ap (first_met entries (key_of entries n)) (sym front) ∙ eqb-true _ n kept) alone m i e

    pub first_there : (m : ℕ) → In m us → key_of entries m ≡ key_of entries n → ⊥
    first_there m i = none_before m (in_right m (first t b) us i)

    pub first_old : t ≡ Table.New → (a m : ℕ) → a < s.old_size → In m (met_at s current other entries Table.Old a)
        → key_of entries m ≡ key_of entries n → ⊥
    unfolding met_at met_before size_of buckets_of
    first_old new a m k i =
        none_before m
        (in_left m (first t b) us
        (subst (λ (u : Table). In m (first u b)) (sym new)
        (before_in entries s.capacity other s.new_size (met_before s current entries Table.New) b m
        (here_in entries s.capacity current s.old_size [] a s.old_size m k i))))
