-- Find, update, add and delete alone, with no step, on a store that agrees with the ideal: each answers as the plain map does,
-- and the store agrees with the map after it.
-- Assumes nothing.
use Prim.Native.Nat.{ℕ, suc, ◌+◌, ◌-◌}
use mathlib.Core.Path.{◌≡◌, refl, sym, ap, subst, ◌∙◌}
use mathlib.Core.Logic.{◌⊎◌, inl, inr}
use mathlib.Core.Bool.{Bool, true, false, cond}
use mathlib.Core.List.{List, [], ◌∷◌}
use mathlib.Core.Option.{Option, none, some}
use native.Mathlib.Decide.{ℕ_discrete}
use native.Mathlib.Omega.{arith}
use lib.ListN.{length}
use lib.Dec.{eqb}
use borrow.Author.Tests.{eqb-true, eqb-false}
use Rattle.cursor.specs.Member.{In, Distinct, keep}
use Rattle.model.specs.declared.State.{State}
use Rattle.model.specs.declared.Table.{Table}
use Rattle.model.specs.declared.Error.{Error}
use Rattle.model.specs.Answers.{Reply, reply, error_number, value_reply, done_reply, state_reply}
use Rattle.model.specs.Memory.{Place, Live, size_of, keys_held, key_place, value_of}
use Rattle.model.specs.Calls.{After, writing, lookup, found, updated, added, deleted, target}
use Rattle.model.specs.Calls as calls
use Rattle.model.specs.Sequences.{Outcome, World, KeyCall, kept, left, given, perform, carry, Pair, PlainMap, keys_of, value_for, with_value, without, with_pairs, map_answer, map_does}
use Rattle.model.proofs.Tests.{told, tested}
use Rattle.refinement.specs.Worlds.{current, other}
use Rattle.refinement.specs.Demand3.{Ideal, ideal, among, key_answer}
use Rattle.model.proofs.Lists.{in_keep, of_keep, distinct_keep, keep_all}
use Rattle.invariant.proofs.Shape.{IsBucket, shape_sound}
use Rattle.invariant.proofs.Places.{key_bucket, key_live}
use Rattle.invariant.proofs.StoreAfter.{HeldIn, StoreAfter}
use Rattle.invariant.proofs.Add.{target_live, added_store}
use Rattle.invariant.proofs.Delete.{deleted_store}
use Rattle.invariant.proofs.Update.{Changed, updated_store}
use Rattle.invariant.proofs.Lookups.{NotHeld}
use Rattle.invariant.proofs.CallAnswers.{find_held, update_held, add_held, delete_held, find_absent, update_absent, delete_absent, add_full, add_free}
use Rattle.refinement.proofs.Orientation.{sound_at, reads_sound, left_reply, left_world}
use Rattle.refinement.proofs.HiddenSteps.{alone}
use Rattle.refinement.proofs.Refusals.{alone_keeps, find_keeps}
use Rattle.refinement.proofs.PlainMaps.{pair, value_key, key_value, value_new, value_not_new, distinct_new, value_changed, value_not_changed, keys_changed, length_changed, value_taken, value_not_taken, length_taken, distinct_taken, tells_among}
use Rattle.refinement.proofs.Agreement.{Agrees, Comes, Says, after_agrees, kept_agrees}
use Rattle.std.specs.Prelude.{Result, Ok, Err}

not_new : (b c : ℕ) → Place.bucket Table.Old b ≡ Place.bucket Table.New c → ⊥
not_new b c e = let z : ◌≡◌ {A = ℕ} 0 1 = cc in omega arith

module _ (w : World) (i : Ideal) (a : Agrees w i) where
  abbrev s : State
  s = w.state

  abbrev ps : List Pair
  ps = i.plain.pairs

  sound : sound_at w ≡ true
  sound = shape_sound a.shape

  -- the keys that are unmoved still, of those that have a pair among these
  abbrev still : List Pair → List ℕ
  still qs = keep (λ k. among k (keys_of qs)) i.unmoved

  abbrev with_pairs_lem : List Pair → Ideal
  with_pairs_lem qs = ideal (with_pairs i.plain qs) i.tables i.turned (still qs) i.index i.allowed i.iterators

  -- an unmoved key has a pair
  unmoved_held : (k : ℕ) → In k i.unmoved → In k (keys_of ps)
  unfolding Live IsBucket size_of
  unmoved_held k j =
      let h = a.unmoved_in k j in
      value_key k h.value ps
      (a.in_map k h.value
      (record { place = Place.bucket Table.Old h.index; live = h.live; bucket = tt; held = h.held }))

  all_still : still ps ≡ i.unmoved
  all_still =
      keep_all (λ k. among k (keys_of ps)) i.unmoved (λ k j. tested (tells_among k (keys_of ps)) (unmoved_held k j))

  -- what a place held
  abbrev Was : Place → ℕ → ℕ → Type 0
  Was t k v = HeldIn w.entries (a.shape.at t) k v

  -- What the new pairs have to say of the new places. Of the old table: what is there was there, and what was there is there
  -- if it still has a pair.
  record Pairs (qs : List Pair) (keys : ℕ) (places : Place → ℕ → ℕ → Type 0) : Type 0 where
    count : length qs ≡ keys
    distinct : Distinct (keys_of qs)
    in_map : (t : Place) → Live s t → IsBucket t → (k v : ℕ) → places t k v → value_for k qs ≡ some v
    in_store : (k v : ℕ) → value_for k qs ≡ some v → (t : Place) × Live s t × IsBucket t × places t k v
    old_before : s.rehashing ≡ true → (b k v : ℕ) → places (Place.bucket Table.Old b) k v
        → (u : ℕ) × Was (Place.bucket Table.Old b) k u
    old_after : (b k u : ℕ) → Was (Place.bucket Table.Old b) k u → In k (keys_of qs)
        → (v : ℕ) × places (Place.bucket Table.Old b) k v

  says : (qs : List Pair) (keys : ℕ) (places : Place → ℕ → ℕ → Type 0) → Pairs qs keys places
      → Says s keys s.rehash_index places (with_pairs_lem qs)
  unfolding ideal with_pairs IsBucket Live size_of
  says qs keys places p =
      record {
        capacity = a.capacity;
        count = p.count;
        distinct = p.distinct;
        tables = a.tables;
        turned = a.turned;
        next = a.index;
        allowed = a.allowed;
        iterators = a.iterators;
        in_map = p.in_map;
        in_store = p.in_store;
        in_unmoved =
            λ rehashing b k v l h.
            let (u, was) = p.old_before rehashing b k v h in
            in_keep held k i.unmoved (a.in_unmoved rehashing k (record { value = u; index = b; live = l; held = was }))
            (tested (tells_among k (keys_of qs)) (value_key k v qs (p.in_map (Place.bucket Table.Old b) l tt k v h)));
        unmoved_in =
            λ k j.
            let (there, t) = of_keep held k i.unmoved j in
            let h = a.unmoved_in k there in
            let (v, is) = p.old_after h.index k h.value h.held (told (tells_among k (keys_of qs)) t) in
            (h.index, v, h.live, is);
        unmoved_once = distinct_keep held i.unmoved a.unmoved_once;
      }
    where
      held : ℕ → Bool
      held k = among k (keys_of qs)

  module _ (key : ℕ) (c : KeyCall) where
    -- A call that leaves the world, and whose map answers so.
    pub stays : (o : Outcome) (n : ℕ) (vs : List ℕ) → map_does i.plain key c ≡ reply n vs i.plain → carry w o ≡ w
        → o.reply.number ≡ n → o.reply.values ≡ vs → Comes w o (key_answer i (map_does i.plain key c))
    unfolding key_answer reply ideal
    stays o n vs is world number values =
        subst (λ (r : Reply PlainMap). Comes w o (key_answer i r)) (sym is)
        (record {
          number = number;
          values = values;
          agrees =
              subst (λ (ks : List ℕ). Agrees (carry w o) (ideal i.plain i.tables i.turned ks i.index i.allowed i.iterators)) (sym all_still)
              (subst (λ (v : World). Agrees v i) (sym world) a);
        })

    -- A writing call, refused and answered.
    module _ {A : Type 0} (replies : A → Reply State) (refusal : A) (call : List ℕ → List ℕ → After A)
        (is_call : alone w key c
        ≡ left replies (writing s w.first w.second w.entries refusal call)) where
      refused : (answer : A) (n : ℕ) → map_does i.plain key c ≡ reply (suc n) [] i.plain
          → (replies answer).number ≡ suc n → (replies answer).values ≡ []
          → call (current w) (other w) ≡ After.after answer (current w) (other w) w.entries
          → Comes w (alone w key c) (key_answer i (map_does i.plain key c))
      refused answer n is number values e =
          let replied =
          ap (λ (o : Outcome). o.reply) is_call
          ∙ left_reply w replies refusal call sound answer (current w) (other w) w.entries e in
          let zero_not = ap (λ (r : Reply State). r.number) replied ∙ number in
          stays (alone w key c) (suc n) [] is (alone_keeps w key c (λ z. omega (arith, zero_not))) zero_not (ap (λ (r : Reply State). r.values) replied ∙ values)

      answered : (answer : State → A) (keys : ℕ) (places : Place → ℕ → ℕ → Type 0)
          (l : StoreAfter s answer (call (current w) (other w)) keys s.rehash_index places) (qs : List Pair)
          → map_does i.plain key c ≡ reply 0 [] (with_pairs i.plain qs)
          → (replies (answer l.state)).number ≡ 0 → (replies (answer l.state)).values ≡ []
          → (replies (answer l.state)).state ≡ l.state → Pairs qs keys places
          → Comes w (alone w key c) (key_answer i (map_does i.plain key c))
      unfolding key_answer reply with_pairs
      answered answer keys places l qs is number values state p =
          let replied =
          ap (λ (o : Outcome). o.reply) is_call
          ∙ left_reply w replies refusal call sound (answer l.state) l.current l.other l.entries l.is in
          subst (λ (r : Reply PlainMap). Comes w (alone w key c) (key_answer i r)) (sym is)
          (record {
            number = ap (λ (r : Reply State). r.number) replied ∙ number;
            values = ap (λ (r : Reply State). r.values) replied ∙ values;
            agrees =
                subst (λ (v : World). Agrees v (with_pairs_lem qs))
                (sym
                (ap (carry w) is_call
                ∙ left_world w replies refusal call sound (answer l.state) l.current l.other l.entries l.is
                l.state number state))
                (kept_agrees s.second_is_current l.state l.current l.other l.entries (with_pairs_lem qs)
                l.same.current (after_agrees l (with_pairs_lem qs) (says qs keys places p)));
          })

  module _ (key : ℕ) where
    -- what the map answers, by the key's value
    does : (c : KeyCall) (o : Option ℕ) → value_for key ps ≡ o → map_does i.plain key c ≡ map_answer i.plain key c o
    unfolding map_does
    does c o e = ap (map_answer i.plain key c) e

    -- a key with no pair is in no live bucket
    not_held : value_for key ps ≡ none → NotHeld a.shape key
    not_held e t l b n j k =
        let h =
        a.in_map key (value_of w.entries n)
        (record {
          place = t;
          live = l;
          bucket = b;
          held = record { entry = n; there = j; its_key = k; its_value = refl };
        }) in
        let z : ◌≡◌ {A = ℕ} 0 1 = cc in
        omega arith

    -- Find.

    keyed_find : Comes w (alone w key KeyCall.find) (key_answer i (map_does i.plain key KeyCall.find))
    unfolding alone perform given kept calls.find value_reply reply error_number map_answer
    keyed_find = pick (value_for key ps) refl
      where
        read : Result ℕ Error → Type 0
        read r = calls.find s w.first w.second w.entries key ≡ r

        stays_by : (r : Result ℕ Error) (n : ℕ) (vs : List ℕ) → map_does i.plain key KeyCall.find ≡ reply n vs i.plain
            → (value_reply s r).number ≡ n → (value_reply s r).values ≡ vs → read r
            → Comes w (alone w key KeyCall.find) (key_answer i (map_does i.plain key KeyCall.find))
        stays_by r n vs is number values e =
            stays key KeyCall.find (alone w key KeyCall.find) n vs is (find_keeps w key)
            (ap (λ (x : Result ℕ Error). (value_reply s x).number) e ∙ number)
            (ap (λ (x : Result ℕ Error). (value_reply s x).values) e ∙ values)

        body : List ℕ → List ℕ → Result ℕ Error
        body current other = found w.entries (lookup s current other w.entries key)

        pick : (o : Option ℕ) → value_for key ps ≡ o
            → Comes w (alone w key KeyCall.find) (key_answer i (map_does i.plain key KeyCall.find))
        pick none e =
            stays_by (Err Error.Absent) 3 (0 ∷ []) (does KeyCall.find none e) refl refl
            (reads_sound w (Err Error.BadState) body sound ∙ find_absent a.shape key (not_held e))
        pick (some value) e =
            let h = a.in_store key value e in
            stays_by (Ok value) 0 (value ∷ []) (does KeyCall.find (some value) e) refl refl
            (reads_sound w (Err Error.BadState) body sound
            ∙ find_held a.shape key h.held.entry h.place h.live h.bucket h.held.there h.held.its_key
            ∙ ap Ok h.held.its_value)

    -- Update.
    module _ (value : ℕ) where
      update_pairs : (held : ℕ) → value_for key ps ≡ some held
          → Pairs (with_value key value ps) (keys_held s) (λ t k v. Changed key value (Was t) k v)
      update_pairs held e =
          record {
            count = length_changed key value ps ∙ a.count;
            distinct = subst (λ (ks : List ℕ). Distinct ks) (sym (keys_changed key value ps)) a.distinct;
            in_map = in_map;
            in_store = λ k v f. in_store k v f (ℕ_discrete k key);
            old_before = λ rehashing b k v h. before b k v h;
            old_after = λ b k u h j. after b k u h (ℕ_discrete k key);
          }
        where
          value_then : value_for key (with_value key value ps) ≡ some value
          value_then = value_changed key value held ps e

          in_map : (t : Place) → Live s t → IsBucket t → (k v : ℕ) → Changed key value (Was t) k v
              → value_for k (with_value key value ps) ≡ some v
          in_map t l b k v (inl (f, g, was, h)) =
              ap (λ (j : ℕ). value_for j (with_value key value ps)) f ∙ value_then ∙ ap some (sym g)
          in_map t l b k v (inr (h, d)) =
              value_not_changed key value k ps d
              ∙ a.in_map k v (record { place = t; live = l; bucket = b; held = h })

          in_store : (k v : ℕ) → value_for k (with_value key value ps) ≡ some v → Dec (k ≡ key)
              → (t : Place) × Live s t × IsBucket t × Changed key value (Was t) k v
          in_store k v f (yes g) =
              let same : some v ≡ some value =
              sym f ∙ ap (λ (j : ℕ). value_for j (with_value key value ps)) g ∙ value_then in
              let h = a.in_store key held e in
              (h.place, h.live, h.bucket, inl (g, (cc), held, h.held))
          in_store k v f (no d) =
              let h = a.in_store k v (sym (value_not_changed key value k ps d) ∙ f) in
              (h.place, h.live, h.bucket, inr (h.held, d))

          before : (b k v : ℕ) → Changed key value (Was (Place.bucket Table.Old b)) k v
              → (u : ℕ) × Was (Place.bucket Table.Old b) k u
          before b k v (inl (f, g, was, h)) =
              (was, subst (λ (j : ℕ). Was (Place.bucket Table.Old b) j was) (sym f) h)
          before b k v (inr (h, d)) = (v, h)

          after : (b k u : ℕ) → Was (Place.bucket Table.Old b) k u → Dec (k ≡ key)
              → (v : ℕ) × Changed key value (Was (Place.bucket Table.Old b)) k v
          after b k u h (yes f) =
              (value, inl (f, refl, u, subst (λ (j : ℕ). Was (Place.bucket Table.Old b) j u) f h))
          after b k u h (no d) = (u, inr (h, d))

      keyed_update : Comes w (alone w key (KeyCall.update value))
          (key_answer i (map_does i.plain key (KeyCall.update value)))
      unfolding alone perform given calls.update done_reply reply error_number map_answer
      keyed_update = pick (value_for key ps) refl
        where
          c : KeyCall
          c = KeyCall.update value

          call : List ℕ → List ℕ → After (Result (Unit {0}) Error)
          call current other = updated current other w.entries value (lookup s current other w.entries key)

          bad : Result (Unit {0}) Error
          bad = Err Error.BadState

          pick : (o : Option ℕ) → value_for key ps ≡ o → Comes w (alone w key c) (key_answer i (map_does i.plain key c))
          pick none e =
              refused key c (done_reply s) bad call refl (Err Error.Absent) 2 (does c none e) refl refl
              (update_absent a.shape key (not_held e) value)
          pick (some held) e =
              let h = a.in_store key held e in
              let answer : State → Result (Unit {0}) Error = λ t. (Ok tt) in
              let places : Place → ℕ → ℕ → Type 0 = λ t k v. Changed key value (Was t) k v in
              let (l, same) =
              subst
              (λ (o : After (Result (Unit {0}) Error)).
              (l : StoreAfter s answer o (keys_held s) s.rehash_index places) × (l.state ≡ s))
              (sym (update_held a.shape key h.held.entry h.place h.live h.bucket h.held.there h.held.its_key value))
              (updated_store a.shape key value h.held.entry h.place h.live h.bucket h.held.there h.held.its_key) in
              answered key c (done_reply s) bad call refl answer (keys_held s) places l (with_value key value ps)
              (does c (some held) e) refl refl (sym same) (update_pairs held e)

      -- Add.

      -- the table that the key is added to
      abbrev to : Table
      to = target s.rehashing

      -- where an added key is, and those that were held
      abbrev Joined : Place → ℕ → ℕ → Type 0
      Joined t k v = ((t ≡ key_place s key to) × (k ≡ key) × (v ≡ value)) ⊎ Was t k v

      add_pairs : value_for key ps ≡ none → Pairs (pair key value ∷ ps) (keys_held s + 1) Joined
      unfolding key_place target
      add_pairs e =
          record {
            count = omega (arith, a.count);
            distinct = distinct_new key value ps e a.distinct;
            in_map = in_map;
            in_store = λ k v f. in_store k v f (ℕ_discrete k key);
            old_before = before;
            old_after = λ b k u h j. (u, inr h);
          }
        where
          in_map : (t : Place) → Live s t → IsBucket t → (k v : ℕ) → Joined t k v → value_for k (pair key value ∷ ps) ≡ some v
          in_map t l b k v (inl (p, f, g)) =
              ap (λ (j : ℕ). value_for j (pair key value ∷ ps)) f ∙ value_new key value ps ∙ ap some (sym g)
          in_map t l b k v (inr h) =
              let there = a.in_map k v (record { place = t; live = l; bucket = b; held = h }) in
              value_not_new key k value ps
              (λ f.
              let other_way = ap (λ (j : ℕ). value_for j ps) f in
              let z : ◌≡◌ {A = ℕ} 0 1 = cc in
              omega arith)
              ∙ there

          in_store : (k v : ℕ) → value_for k (pair key value ∷ ps) ≡ some v → Dec (k ≡ key)
              → (t : Place) × Live s t × IsBucket t × Joined t k v
          in_store k v f (yes g) =
              let same : some v ≡ some value =
              sym f ∙ ap (λ (j : ℕ). value_for j (pair key value ∷ ps)) g ∙ value_new key value ps in
              (key_place s key to, key_live a.shape key to (target_live s), key_bucket s key to, inl (refl, g, (cc)))
          in_store k v f (no d) =
              let h = a.in_store k v (sym (value_not_new key k value ps d) ∙ f) in
              (h.place, h.live, h.bucket, inr h.held)

          before : s.rehashing ≡ true → (b k v : ℕ) → Joined (Place.bucket Table.Old b) k v
              → (u : ℕ) × Was (Place.bucket Table.Old b) k u
          before rehashing b k v (inl (p, f, g)) =
              absurd (not_new b _ (p ∙ ap (λ (r : Bool). key_place s key (target r)) rehashing))
          before rehashing b k v (inr h) = (v, h)

      keyed_add : Comes w (alone w key (KeyCall.add value)) (key_answer i (map_does i.plain key (KeyCall.add value)))
      unfolding alone given calls.add_alone state_reply reply error_number map_answer keys_held
      keyed_add = pick (value_for key ps) refl
        where
          c : KeyCall
          c = KeyCall.add value

          call : List ℕ → List ℕ → After (Result State Error)
          call current other = added s current other w.entries key value (lookup s current other w.entries key)

          bad : Result State Error
          bad = Err Error.BadState

          full : (t : Bool) → eqb (length ps) i.plain.capacity ≡ t → value_for key ps ≡ none
              → map_does i.plain key c
              ≡ cond t (reply 5 [] i.plain) (reply 0 [] (with_pairs i.plain (pair key value ∷ ps)))
          full t f e =
              does c none e
              ∙ ap (λ (b : Bool). cond b (reply 5 [] i.plain) (reply 0 [] (with_pairs i.plain (pair key value ∷ ps)))) f

          room : value_for key ps ≡ none → (t : Bool) → eqb (length ps) i.plain.capacity ≡ t
              → Comes w (alone w key c) (key_answer i (map_does i.plain key c))
          room e true f =
              let reached = eqb-true (length ps) i.plain.capacity f in
              refused key c (state_reply s) bad call refl (Err Error.Full) 4 (full true f e) refl refl
              (add_full a.shape key (not_held e) value
              (omega (arith, a.count, a.capacity)))
          room e false f =
              let differs = eqb-false (length ps) i.plain.capacity f in
              let count = a.count in
              let capacity = a.capacity in
              let l =
              subst (λ (o : After (Result State Error)). StoreAfter s Ok o (keys_held s + 1) s.rehash_index Joined)
              (sym (add_free a.shape key (not_held e) value (λ f. omega arith)))
              (added_store a.shape key value (omega arith) (λ n t l b j k. not_held e t l b n j k) to refl) in
              answered key c (state_reply s) bad call refl Ok (keys_held s + 1) Joined l (pair key value ∷ ps)
              (full false f e) refl refl refl (add_pairs e)

          pick : (o : Option ℕ) → value_for key ps ≡ o → Comes w (alone w key c) (key_answer i (map_does i.plain key c))
          pick none e = room e (eqb (length ps) i.plain.capacity) refl
          pick (some held) e =
              let h = a.in_store key held e in
              refused key c (state_reply s) bad call refl (Err Error.Present) 3 (does c (some held) e) refl refl
              (add_held a.shape key h.held.entry h.place h.live h.bucket h.held.there h.held.its_key value)

    -- Delete.

    -- the keys that are left, where they were
    abbrev Left : Place → ℕ → ℕ → Type 0
    Left t k v = Was t k v × (k ≡ key → ⊥)

    delete_pairs : (held : ℕ) → value_for key ps ≡ some held → Pairs (without key ps) (keys_held s - 1) Left
    delete_pairs held e =
        record {
          count = omega (arith, length_taken key held ps e, a.count);
          distinct = distinct_taken key ps a.distinct;
          in_map =
              λ t l b k v h.
              value_not_taken key k ps h.1 ∙ a.in_map k v (record { place = t; live = l; bucket = b; held = h.0 });
          in_store = λ k v f. in_store k v f (ℕ_discrete k key);
          old_before = λ rehashing b k v h. (v, h.0);
          old_after = λ b k u h j. (u, (h, λ f. gone (subst (λ (n : ℕ). In n (keys_of (without key ps))) f j)));
        }
      where
        gone : In key (keys_of (without key ps)) → ⊥
        gone j =
            let (v, f) = key_value key (without key ps) j in
            let none = value_taken key ps a.distinct in
            let z : ◌≡◌ {A = ℕ} 0 1 = cc in
            omega arith

        in_store : (k v : ℕ) → value_for k (without key ps) ≡ some v → Dec (k ≡ key)
            → (t : Place) × Live s t × IsBucket t × Left t k v
        in_store k v f (yes g) =
            absurd (gone (subst (λ (n : ℕ). In n (keys_of (without key ps))) g (value_key k v (without key ps) f)))
        in_store k v f (no d) =
            let h = a.in_store k v (sym (value_not_taken key k ps d) ∙ f) in
            (h.place, h.live, h.bucket, (h.held, d))

    keyed_delete : Comes w (alone w key KeyCall.delete) (key_answer i (map_does i.plain key KeyCall.delete))
    unfolding alone given calls.delete_alone state_reply reply error_number map_answer
    keyed_delete = pick (value_for key ps) refl
      where
        call : List ℕ → List ℕ → After (Result State Error)
        call current other = deleted s current other w.entries key (lookup s current other w.entries key)

        bad : Result State Error
        bad = Err Error.BadState

        pick : (o : Option ℕ) → value_for key ps ≡ o
            → Comes w (alone w key KeyCall.delete) (key_answer i (map_does i.plain key KeyCall.delete))
        pick none e =
            refused key KeyCall.delete (state_reply s) bad call refl (Err Error.Absent) 2
            (does KeyCall.delete none e) refl refl (delete_absent a.shape key (not_held e))
        pick (some held) e =
            let h = a.in_store key held e in
            let (t, before, at, is) =
            delete_held a.shape key h.held.entry h.place h.live h.bucket h.held.there h.held.its_key in
            let l =
            subst (λ (o : After (Result State Error)). StoreAfter s Ok o (keys_held s - 1) s.rehash_index Left)
            (sym is)
            (deleted_store a.shape key t h.held.entry before at.us at.vs at.live at.split
            at.before_last at.its_key) in
            answered key KeyCall.delete (state_reply s) bad call refl Ok (keys_held s - 1) Left l
            (without key ps) (does KeyCall.delete (some held) e) refl refl refl (delete_pairs held e)

  pub keyed_steps : (key : ℕ) (c : KeyCall) → Comes w (alone w key c) (key_answer i (map_does i.plain key c))
  keyed_steps key KeyCall.find = keyed_find key
  keyed_steps key (KeyCall.update value) = keyed_update key value
  keyed_steps key (KeyCall.add value) = keyed_add key value
  keyed_steps key KeyCall.delete = keyed_delete key
