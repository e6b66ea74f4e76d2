-- The plain map's pairs: which value a key has, and how many pairs there are, once a pair is put in front, changed or taken
-- away; and that no key then has two.
-- Assumes nothing.
use Prim.Native.Nat.{ℕ, suc}
use mathlib.Core.Path.{◌≡◌, refl, sym, ap, subst, ◌∙◌}
use mathlib.Core.Logic.{inl, inr}
use mathlib.Core.Bool.{Bool, cond}
use mathlib.Core.List.{List, [], ◌∷◌}
use mathlib.Core.Option.{Option, none, some}
use native.Mathlib.Decide.{ℕ_discrete}
use native.Mathlib.Omega.{arith}
use lib.ListN.{length, length-map}
use lib.Dec.{eqb}
use borrow.Author.Tests.{eq-eqb, ne_eqb}
use Rattle.cursor.specs.Member.{Distinct, In}
use Rattle.model.specs.Sequences.{Pair, keys_of, value_for, with_value, without}
use Rattle.model.proofs.Tests.{Tells, tells_same, tells_eq}
use Rattle.refinement.specs.Demand3.{among}
use Rattle.model.proofs.Lists.{in_map, tells_any}

-- a pair of the map
abbrev pub pair : ℕ → ℕ → Pair
pair key value = record { key = key; value = value }

-- The three functions at the first pair, by whether it has the key.
module _ (key : ℕ) (p : Pair) (ps : List Pair) where
  value_here : p.key ≡ key → value_for key (p ∷ ps) ≡ some p.value
  unfolding value_for
  value_here e = ap (λ (t : Bool). cond t (some p.value) (value_for key ps)) (eq-eqb p.key key e)

  value_behind : (p.key ≡ key → ⊥) → value_for key (p ∷ ps) ≡ value_for key ps
  unfolding value_for
  value_behind d = ap (λ (t : Bool). cond t (some p.value) (value_for key ps)) (ne_eqb p.key key d)

  changed_here : (value : ℕ) → p.key ≡ key → with_value key value (p ∷ ps) ≡ pair key value ∷ ps
  unfolding with_value
  changed_here value e =
      ap (λ (t : Bool). cond t (pair key value ∷ ps) (p ∷ with_value key value ps)) (eq-eqb p.key key e)

  changed_behind : (value : ℕ) → (p.key ≡ key → ⊥) → with_value key value (p ∷ ps) ≡ p ∷ with_value key value ps
  unfolding with_value
  changed_behind value d =
      ap (λ (t : Bool). cond t (pair key value ∷ ps) (p ∷ with_value key value ps)) (ne_eqb p.key key d)

  taken_here : p.key ≡ key → without key (p ∷ ps) ≡ ps
  unfolding without
  taken_here e = ap (λ (t : Bool). cond t ps (p ∷ without key ps)) (eq-eqb p.key key e)

  taken_behind : (p.key ≡ key → ⊥) → without key (p ∷ ps) ≡ p ∷ without key ps
  unfolding without
  taken_behind d = ap (λ (t : Bool). cond t ps (p ∷ without key ps)) (ne_eqb p.key key d)

-- the same value behind the same first pair
value_under : (key : ℕ) (p : Pair) (ps qs : List Pair) → value_for key ps ≡ value_for key qs
    → value_for key (p ∷ ps) ≡ value_for key (p ∷ qs)
value_under key p ps qs e =
    elim (ℕ_discrete p.key key) [
      | yes k ↦ value_here key p ps k ∙ sym (value_here key p qs k)
      | no d ↦ value_behind key p ps d ∙ e ∙ sym (value_behind key p qs d)
    ]

-- Which keys have a value.

pub value_key : (key value : ℕ) (ps : List Pair) → value_for key ps ≡ some value → In key (keys_of ps)
unfolding value_for keys_of
value_key key value [] e = let z : ◌≡◌ {A = ℕ} 0 1 = cc in absurd (omega arith)
value_key key value (p ∷ ps) e =
    elim (ℕ_discrete p.key key) [
      | yes h ↦ inl (sym h)
      | no d ↦ inr (value_key key value ps (sym (value_behind key p ps d) ∙ e))
    ]

pub key_value : (key : ℕ) (ps : List Pair) → In key (keys_of ps) → (value : ℕ) × (value_for key ps ≡ some value)
unfolding value_for keys_of
key_value key [] i = elim i [ ]
key_value key (p ∷ ps) (inl e) = (p.value, value_here key p ps (sym e))
key_value key (p ∷ ps) (inr i) =
    elim (ℕ_discrete p.key key) [
      | yes h ↦ (p.value, value_here key p ps h)
      | no d ↦ let (value, e) = key_value key ps i in (value, value_behind key p ps d ∙ e)
    ]

no_key : (key : ℕ) (ps : List Pair) → value_for key ps ≡ none → In key (keys_of ps) → ⊥
no_key key ps e i =
    let (value, f) = key_value key ps i in let z : ◌≡◌ {A = ℕ} 0 1 = cc in omega arith

no_value : (key : ℕ) (ps : List Pair) → (In key (keys_of ps) → ⊥) → value_for key ps ≡ none
no_value key ps f = by (value_for key ps) refl
  where
    by : (o : Option ℕ) → value_for key ps ≡ o → o ≡ none
    by none e = refl
    by (some value) e = absurd (f (value_key key value ps e))

module _ (key : ℕ) where
  -- A pair put in front.

  pub value_new : (value : ℕ) (ps : List Pair) → value_for key (pair key value ∷ ps) ≡ some value
  value_new value ps = value_here key (pair key value) ps refl

  pub value_not_new : (k value : ℕ) (ps : List Pair) → (k ≡ key → ⊥) → value_for k (pair key value ∷ ps) ≡ value_for k ps
  value_not_new k value ps d = value_behind k (pair key value) ps (λ e. d (sym e))

  pub distinct_new : (value : ℕ) (ps : List Pair) → value_for key ps ≡ none → Distinct (keys_of ps)
      → Distinct (keys_of (pair key value ∷ ps))
  unfolding keys_of
  distinct_new value ps e d = (no_key key ps e, d)

  -- The key's pair changed.
  module _ (value : ℕ) where
    pub value_changed : (held : ℕ) (ps : List Pair) → value_for key ps ≡ some held
        → value_for key (with_value key value ps) ≡ some value
    unfolding value_for
    value_changed held [] e = let z : ◌≡◌ {A = ℕ} 0 1 = cc in absurd (omega arith)
    value_changed held (p ∷ ps) e =
        elim (ℕ_discrete p.key key) [
          | yes h ↦ ap (value_for key) (changed_here key p ps value h) ∙ value_new value ps
          | no d ↦
              ap (value_for key) (changed_behind key p ps value d)
              ∙ value_behind key p (with_value key value ps) d
              ∙ value_changed held ps (sym (value_behind key p ps d) ∙ e)
        ]

    pub value_not_changed : (k : ℕ) (ps : List Pair) → (k ≡ key → ⊥) → value_for k (with_value key value ps) ≡ value_for k ps
    unfolding with_value
    value_not_changed k [] d = refl
    value_not_changed k (p ∷ ps) d =
        elim (ℕ_discrete p.key key) [
          | yes h ↦
              ap (value_for k) (changed_here key p ps value h)
              ∙ value_not_new k value ps d
              ∙ sym (value_behind k p ps (λ e. d (sym e ∙ h)))
          | no f ↦
              ap (value_for k) (changed_behind key p ps value f)
              ∙ value_under k p (with_value key value ps) ps (value_not_changed k ps d)
        ]

    -- the keys are the same
    pub keys_changed : (ps : List Pair) → keys_of (with_value key value ps) ≡ keys_of ps
    unfolding keys_of with_value
    keys_changed [] = refl
    keys_changed (p ∷ ps) =
        elim (ℕ_discrete p.key key) [
          | yes h ↦ ap keys_of (changed_here key p ps value h) ∙ ap (λ (k : ℕ). k ∷ keys_of ps) (sym h)
          | no d ↦ ap keys_of (changed_behind key p ps value d) ∙ ap (λ (ks : List ℕ). p.key ∷ ks) (keys_changed ps)
        ]

    pub length_changed : (ps : List Pair) → length (with_value key value ps) ≡ length ps
    unfolding keys_of
    length_changed ps =
        sym (length-map (with_value key value ps) (λ (p : Pair). p.key))
        ∙ ap length (keys_changed ps)
        ∙ length-map ps (λ (p : Pair). p.key)

  -- The key's pair taken away.

  -- its keys are among those before
  pub taken_keys : (k : ℕ) (ps : List Pair) → In k (keys_of (without key ps)) → In k (keys_of ps)
  unfolding keys_of without
  taken_keys k [] i = elim i [ ]
  taken_keys k (p ∷ ps) i = pick (ℕ_discrete p.key key) (taken_keys k ps)
    where
      behind : (In k (keys_of (without key ps)) → In k (keys_of ps)) → In k (p.key ∷ keys_of (without key ps))
          → In k (p.key ∷ keys_of ps)
      behind ih (inl e) = inl e
      behind ih (inr j) = inr (ih j)

      pick : Dec (p.key ≡ key) → (In k (keys_of (without key ps)) → In k (keys_of ps)) → In k (keys_of (p ∷ ps))
      pick (yes h) ih = inr (subst (λ (l : List Pair). In k (keys_of l)) (taken_here key p ps h) i)
      pick (no d) ih = behind ih (subst (λ (l : List Pair). In k (keys_of l)) (taken_behind key p ps d) i)

  pub distinct_taken : (ps : List Pair) → Distinct (keys_of ps) → Distinct (keys_of (without key ps))
  unfolding keys_of without
  distinct_taken [] d = d
  distinct_taken (p ∷ ps) d =
      elim (ℕ_discrete p.key key) [
        | yes h ↦ subst (λ (l : List Pair). Distinct (keys_of l)) (sym (taken_here key p ps h)) d.1
        | no f ↦
            subst (λ (l : List Pair). Distinct (keys_of l)) (sym (taken_behind key p ps f))
            (λ i. d.0 (taken_keys p.key ps i), distinct_taken ps d.1)
      ]

  pub value_taken : (ps : List Pair) → Distinct (keys_of ps) → value_for key (without key ps) ≡ none
  unfolding keys_of without value_for
  value_taken [] d = refl
  value_taken (p ∷ ps) d =
      elim (ℕ_discrete p.key key) [
        | yes h ↦
            ap (value_for key) (taken_here key p ps h)
            ∙ no_value key ps (λ i. d.0 (subst (λ (k : ℕ). In k (keys_of ps)) (sym h) i))
        | no f ↦
            ap (value_for key) (taken_behind key p ps f) ∙ value_behind key p (without key ps) f ∙ value_taken ps d.1
      ]

  pub value_not_taken : (k : ℕ) (ps : List Pair) → (k ≡ key → ⊥) → value_for k (without key ps) ≡ value_for k ps
  unfolding without
  value_not_taken k [] d = refl
  value_not_taken k (p ∷ ps) d =
      elim (ℕ_discrete p.key key) [
        | yes h ↦ ap (value_for k) (taken_here key p ps h) ∙ sym (value_behind k p ps (λ e. d (sym e ∙ h)))
        | no f ↦ ap (value_for k) (taken_behind key p ps f) ∙ value_under k p (without key ps) ps (value_not_taken k ps d)
      ]

  pub length_taken : (held : ℕ) (ps : List Pair) → value_for key ps ≡ some held → suc (length (without key ps)) ≡ length ps
  unfolding value_for
  length_taken held [] e = let z : ◌≡◌ {A = ℕ} 0 1 = cc in absurd (omega arith)
  length_taken held (p ∷ ps) e =
      elim (ℕ_discrete p.key key) [
        | yes h ↦ ap (λ (l : List Pair). suc (length l)) (taken_here key p ps h)
        | no d ↦
            ap (λ (l : List Pair). suc (length l)) (taken_behind key p ps d)
            ∙ ap suc (length_taken held ps (sym (value_behind key p ps d) ∙ e))
      ]

-- A key's pair.

pub value_pair : (key value : ℕ) (ps : List Pair) → value_for key ps ≡ some value → In (pair key value) ps
unfolding value_for
value_pair key value [] e = let z : ◌≡◌ {A = ℕ} 0 1 = cc in absurd (omega arith)
value_pair key value (p ∷ ps) e =
    elim (ℕ_discrete p.key key) [
      | yes h ↦ let same : p.value ≡ value = some_same (sym (value_here key p ps h) ∙ e) in
          inl (λ k. record { key = sym h k; value = sym same k })
      | no d ↦ inr (value_pair key value ps (sym (value_behind key p ps d) ∙ e))
    ]
  where
    some_same : {m n : ℕ} → some m ≡ some n → m ≡ n
    some_same e = cc

pub pair_value : (p : Pair) (ps : List Pair) → Distinct (keys_of ps) → In p ps → value_for p.key ps ≡ some p.value
unfolding keys_of
pair_value p [] d i = elim i [ ]
pair_value p (q ∷ ps) d (inl e) =
    value_here p.key q ps (ap (λ (x : Pair). x.key) (sym e)) ∙ ap (λ (x : Pair). some x.value) (sym e)
pair_value p (q ∷ ps) d (inr i) =
    value_behind p.key q ps
    (λ e. d.0 (subst (λ (k : ℕ). In k (keys_of ps)) (sym e) (in_map (λ (r : Pair). r.key) p ps i)))
    ∙ pair_value p ps d.1 i

-- The test for a key among some.
pub tells_among : (key : ℕ) (keys : List ℕ) → Tells (In key keys) (among key keys)
unfolding among
tells_among key keys =
    tells_same (λ h. subst (λ (k : ℕ). In k keys) h.2 h.1) (λ i. (key, i, refl))
    (tells_any (λ k. k ≡ key) (λ k. eqb k key) (λ k. tells_eq k key) keys)
