-- What the calls find in the memory that they read, in demand 1's words: a lookup's answer, a walk call's entries, what a
-- step meets, and what a call that iterates does.
-- Assumes nothing.
use Prim.Native.Nat.{ℕ, ◌+◌, ◌-◌, ◌<◌, ◌≤◌}
use mathlib.Core.Path.{◌≡◌, refl, sym, subst, ◌∙◌}
use mathlib.Core.Bool.{Bool, true, false}
use mathlib.Core.List.{List, [], ◌∷◌, map}
use mathlib.Core.Logic.{inl, inr}
use mathlib.Core.Option.{Option, none, some}
use native.Mathlib.Omega.{arith}
use lib.ListN.{length, length-append}
use Rattle.cursor.specs.Member.{In}
use Rattle.model.specs.declared.Table.{Table}
use Rattle.model.specs.declared.Lookup.{Lookup}
use Rattle.model.specs.declared.Ahead.{Ahead}
use Rattle.model.specs.Limits.{empty_visits}
use Rattle.model.specs.Memory.{Place, buckets_of, key_place, head_at, chain_at}
use Rattle.model.specs.Calls.{first_with, searched, both, lookup_in, lookup_while, lookup, ahead_of}
use Rattle.model.specs.Walk.{tables_of, joined, chains_at}
use Rattle.model.specs.Iterators.{end_place, filled}
use Rattle.model.specs.Sequences.{World}
use Rattle.model.proofs.StepAhead.{AllEmpty, Comes, ahead_comes}
use Rattle.model.proofs.FirstPlace.{NonePass, Found, first_found}
use Rattle.refinement.specs.Worlds.{current, other}
use Rattle.refinement.specs.Demand1.{head_of, SoundChain, Damaged, OnChain, live_tables, key_places, EmptyFrom, FirstFilled, EndFirst, KeysOn, place_at, FirstFrom}
use Rattle.refinement.specs.Demand2.{first_filled}
use Rattle.model.proofs.Lists.{in_middle}
use Rattle.invariant.proofs.Lookups.{FirstIn, first_in}
use Rattle.refinement.proofs.Demand1Tests.{Passes, not_given, given, passes_ne}
use Rattle.refinement.proofs.Demand1Chains.{AtPlace, place_read, place_chain, place_sound, same_count, on_chain, in_chain}

-- one of a list is such
abbrev Some : {A : Type 0} → (A → Type 0) → List A → Type 0
Some {A} Q xs = (x : A) × In x xs × Q x

module _ {A : Type 0} {Q : A → Type 0} (x : A) (xs : List A) where
  some_here : Q x → Some Q (x ∷ xs)
  some_here q = (x, inl refl, q)

  some_later : Some Q xs → Some Q (x ∷ xs)
  some_later (y, i, q) = (y, inr i, q)

  some_not : ¬ Q x → ¬ Some Q xs → ¬ Some Q (x ∷ xs)
  some_not f g (y, inl e, q) = f (subst Q e q)
  some_not f g (y, inr i, q) = g (y, i, q)

-- of the heads from one number on there is one first that is not 0
module _ (head : ℕ → ℕ) (from : ℕ) where
  abbrev EmptyTo : ℕ → Type 0
  EmptyTo end = (m : ℕ) → from ≤ m → m < end → head m ≡ 0

  one_first : (m n : ℕ) → from ≤ m → ¬ (head m ≡ 0) → EmptyTo m → from ≤ n → ¬ (head n ≡ 0) → EmptyTo n → m ≡ n
  one_first m n below_m filled_m to_m below_n filled_n to_n =
      let not_later : ¬ (n < m) = λ l. filled_n (to_m n below_n l) in
      let not_earlier : ¬ (m < n) = λ l. filled_m (to_n m below_m l) in
      omega arith

module _ (w : World) where
  -- ---- a lookup

  module _ (key : ℕ) where
    -- what a lookup's answer says of the chain of one place
    SaysAt : Place → Lookup → Type 0
    SaysAt p Lookup.Damaged = ¬ SoundChain w p
    SaysAt p Lookup.Absent = SoundChain w p × (¬ OnChain w key p)
    SaysAt p (Lookup.At t before n) = SoundChain w p × OnChain w key p

    searched_says : (t : Table) (p : Place) (o : Option (List ℕ)) → AtPlace w p o
        → SaysAt p (searched w.entries key t 0 o)
    unfolding AtPlace searched SaysAt FirstIn
    searched_says t p none f = f
    searched_says t p (some ns) r = by (first_with w.entries key t 0 ns) (first_in w.entries key t 0 ns)
      where
        by : (l : Lookup) → FirstIn w.entries key t 0 ns l → SaysAt p l
        by Lookup.Damaged h = absurd h
        by Lookup.Absent h = (place_sound w p ns r, λ c. let (n, i, e) = in_chain w key p ns r c in h n i e)
        by (Lookup.At u before n) (us, vs, split, last, e, same) =
            (place_sound w p ns r, on_chain w key p ns r n (rw split (in_middle n us vs)) e)

    -- and of those of some places
    unfoldable pub Says : List Place → Lookup → Type 0
    Says ps Lookup.Damaged = Damaged w ps
    Says ps Lookup.Absent = (¬ Damaged w ps) × (¬ Some (OnChain w key) ps)
    Says ps (Lookup.At t before n) = (¬ Damaged w ps) × Some (OnChain w key) ps

    module _ (p : Place) (ps : List Place) where
      sound_too : SoundChain w p → ¬ Damaged w ps → ¬ Damaged w (p ∷ ps)
      unfolding Damaged
      sound_too c d = some_not p ps (λ f. f c) d

      both_says : (l m : Lookup) → SaysAt p l → Says ps m → Says (p ∷ ps) (both l m)
      unfolding SaysAt Says both Damaged
      both_says Lookup.Damaged m a b = some_here p ps a
      both_says Lookup.Absent Lookup.Damaged a b = some_later p ps b
      both_says Lookup.Absent Lookup.Absent a b = (sound_too a.0 b.0, some_not p ps a.1 b.1)
      both_says Lookup.Absent (Lookup.At t before n) a b = (sound_too a.0 b.0, some_later p ps b.1)
      both_says (Lookup.At t before n) Lookup.Damaged a b = some_later p ps b
      both_says (Lookup.At t before n) Lookup.Absent a b = (sound_too a.0 b.0, some_here p ps a.1)
      both_says (Lookup.At t before n) (Lookup.At u c m) a b = (sound_too a.0 b.0, some_here p ps a.1)

    -- the lookup of find, update, add and delete
    pub lookup_says : Says (key_places w key) (lookup w.state (current w) (other w) w.entries key)
    unfolding lookup key_places live_tables lookup_while lookup_in Says Damaged both
    lookup_says = by w.state.rehashing
      where
        none_says : Says [] Lookup.Absent
        none_says = (λ d. d.1, λ h. h.1)

        alone : (l : Lookup) → both l Lookup.Absent ≡ l
        alone Lookup.Damaged = refl
        alone Lookup.Absent = refl
        alone (Lookup.At t before n) = refl

        at : (t : Table) → SaysAt (key_place w.state key t) (lookup_in w.state (current w) (other w) w.entries key t)
        at t = searched_says t (key_place w.state key t) _ (place_read w (key_place w.state key t))

        last : (t : Table)
            → Says (key_place w.state key t ∷ []) (lookup_in w.state (current w) (other w) w.entries key t)
        last t = rw alone at (both_says (key_place w.state key t) [] _ Lookup.Absent (at t) none_says)

        by : (t : Bool)
            → Says (map (λ u. key_place w.state key u) (live_tables t))
            (lookup_while t w.state (current w) (other w) w.entries key)
        by false = last Table.Old
        by true = both_says (key_place w.state key Table.Old) (key_place w.state key Table.New ∷ []) _ _ (at Table.Old) (last Table.New)

  -- ---- a walk call's group

  -- what its entries say of the chains of some places
  unfoldable pub Entries : List Place → Option (List ℕ) → Type 0
  Entries ps none = Damaged w ps
  Entries ps (some ns) = (¬ Damaged w ps) × KeysOn w ps (length ns)

  pub places_say : (ps : List Place) → Entries ps (chains_at w.state (current w) (other w) w.entries ps)
  unfolding Entries KeysOn chains_at AtPlace joined Damaged
  places_say [] = (λ d. d.1, refl)
  places_say (p ∷ ps) =
      more (chain_at w.state (current w) (other w) w.entries p)
      (chains_at w.state (current w) (other w) w.entries ps) (place_read w p) (places_say ps)
    where
      more : (o q : Option (List ℕ)) → AtPlace w p o → Entries ps q → Entries (p ∷ ps) (joined o q)
      more none q f b = some_here p ps f
      more (some ns) none r b = some_later p ps b
      more (some ns) (some ms) r b = (
        some_not p ps (λ f. f (place_sound w p ns r)) b.0,
        (length ns, length ms, place_chain w p ns r, b.1, length-append ns ms),
      )

  -- some chains have one number of keys
  pub same_keys : (ps : List Place) (m n : ℕ) → KeysOn w ps m → KeysOn w ps n → m ≡ n
  unfolding KeysOn
  same_keys [] m n c d = c ∙ sym d
  same_keys (p ∷ ps) m n c d =
      omega (arith, same_count w p c.0 d.0 c.2 d.2, same_keys ps c.1 d.1 c.3 d.3, c.4, d.4)

  -- ---- what a step meets

  unfoldable pub StepMeets : Ahead → Type 0
  StepMeets (Ahead.Filled b) = FirstFilled w b
  StepMeets (Ahead.Empty b) =
      (b ≡ w.state.rehash_index + empty_visits) × (b < w.state.old_size) × EmptyFrom w b
  StepMeets Ahead.End = EndFirst w

  pub step_meets : StepMeets (ahead_of w.state (current w))
  unfolding AllEmpty Comes StepMeets EndFirst EmptyFrom head_of head_at buckets_of ahead_of
  step_meets =
      let s = w.state in
      by (ahead_of s (current w))
      (ahead_comes (current w) s.rehash_index (s.old_size - s.rehash_index) empty_visits _ refl)
    where
      by : (r : Ahead)
          → Comes (current w) w.state.rehash_index (w.state.rehash_index + (w.state.old_size - w.state.rehash_index))
          empty_visits r
          → StepMeets r
      by (Ahead.Filled b) (from, below, reach, filled, before) =
          record { from_next = from; in_reach = reach; in_table = omega arith; filled = filled; empty_before = before }
      by (Ahead.Empty b) (is, below, before) = (is, omega arith, before)
      by Ahead.End (reach, before) = (omega arith, λ b l m. before b l (omega arith))

  pub same_first : (b c : ℕ) → FirstFilled w b → FirstFilled w c → b ≡ c
  unfolding EmptyFrom
  same_first b c f g =
      one_first (λ b. head_of w (Place.bucket Table.Old b)) w.state.rehash_index b c f.from_next f.filled
      f.empty_before g.from_next g.filled g.empty_before

  -- ---- what a call that iterates meets

  -- the test that it makes of a place
  abbrev fills : ℕ → Bool
  fills n = filled w.state (current w) (other w) n

  passes_filled_lem : (n : ℕ) → Passes (head_of w (place_at w n) ≡ 0) (fills n)
  unfolding head_of place_at filled
  passes_filled_lem n = passes_ne _ 0

  module _ (place : ℕ) where
    unfoldable pub PassMeets : Option ℕ → Type 0
    PassMeets none = (n : ℕ) → ¬ FirstFrom w place n
    PassMeets (some n) = FirstFrom w place n

    pub pass_meets : PassMeets (first_filled w place)
    unfolding PassMeets first_filled Found NonePass
    pass_meets = by (first_filled w place) (first_found fills (tables_of w.state) place)
      where
        by : (o : Option ℕ) → Found fills place (end_place (tables_of w.state)) o → PassMeets o
        by none nowhere = λ n f. f.filled (given (passes_filled_lem n) (nowhere n f.from_place f.before_end))
        by (some n) f =
            record {
              from_place = f.from_place;
              before_end = f.before_end;
              filled = not_given (passes_filled_lem n) f.passes;
              empty_before = λ m from below. given (passes_filled_lem m) (f.none_before m from below);
            }

    pub same_from : (m n : ℕ) → FirstFrom w place m → FirstFrom w place n → m ≡ n
    same_from m n f g =
        one_first (λ n. head_of w (place_at w n)) place m n f.from_place f.filled f.empty_before g.from_place
        g.filled g.empty_before
