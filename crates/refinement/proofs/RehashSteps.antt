-- One rehash step on a store that agrees with the ideal: refused with one live table, and while safe iterators hold it up;
-- else it moves the chain of the first filled bucket, or passes empty ones, or finds no keys in the old table; and with no
-- keys left there the rehash is over.
-- Assumes nothing.
use Prim.Native.Nat.{ℕ, suc, ◌+◌, ◌<◌, ◌≤◌}
use mathlib.Core.Path.{◌≡◌, refl, sym, ap, subst, ◌∙◌}
use mathlib.Core.Logic.{◌≢◌, inl, inr}
use mathlib.Core.Bool.{Bool, true, false, not, cond}
use mathlib.Core.List.{List, [], ◌∷◌}
use mathlib.Core.Option.{some}
use native.Mathlib.Decide.{ℕ_discrete}
use native.Mathlib.Omega.{arith}
use lib.ListN.{length, get_or, set}
use lib.Dec.{eqb, ltb}
use borrow.Author.Tests.{lt-ltb, le-ltb, eq-eqb, eqb-false, ne_eqb, not-true}
use Rattle.cursor.specs.Member.{In, keep}
use Rattle.model.specs.declared.State.{State}
use Rattle.model.specs.declared.Error.{Error}
use Rattle.model.specs.declared.Table.{Table}
use Rattle.model.specs.Answers.{Reply, reply, error_number, step_reply}
use Rattle.model.specs.Keys.{bucket_of}
use Rattle.model.specs.Limits.{empty_visits}
use Rattle.model.specs.Memory.{Place, Live, head_at, size_of, buckets_of, keys_held, key_place}
use Rattle.model.specs.Calls.{After, Chains, state_of, old_new, retabled, advanced, finished, settled, step_done, moved_chain, paused, stepped}
use Rattle.model.specs.Calls as calls
use Rattle.model.specs.Walk.{Tables, tables_by, tables_of}
use Rattle.model.specs.Sequences.{value_for, World, Call, given, perform}
use Rattle.model.proofs.Linked.{Linked}
use Rattle.refinement.specs.Worlds.{current, other}
use Rattle.refinement.specs.Demand3.{Lengths, Ideal, ideal, after_step, step_taken, step_answer, predict}
use Rattle.model.proofs.Lists.{in_keep, of_keep, distinct_keep}
use Rattle.invariant.proofs.Shape.{IsBucket, Shape, facts, shape_sound}
use Rattle.invariant.proofs.Places.{same, LiveTable, key_bucket, key_live}
use Rattle.invariant.proofs.LinkedChains.{shape_linked}
use Rattle.invariant.proofs.FirstEntries.{EmptyBefore, Meets, old_empty, step_meets}
use Rattle.invariant.proofs.StoreAfter.{HeldIn, held_as_lem, StoreAfter}
use Rattle.invariant.proofs.RehashMove.{after, HeldThen, moved_store, passed_store}
use Rattle.invariant.proofs.RehashEnd.{swapped_table, swapped_place, finished_shape, finished_at}
use Rattle.invariant.proofs.CallAnswers.{step_none, step_paused, step_taken_lem, step_idle, step_passes, step_moves}
use Rattle.refinement.proofs.Orientation.{world_by, sound_at, left_reply, left_world}
use Rattle.refinement.proofs.Demand1Calls.{step_good}
use Rattle.refinement.proofs.Refusals.{refused_keeps}
use Rattle.refinement.proofs.IdealSteps.{by_test}
use Rattle.refinement.proofs.Agreement.{HeldAt, AgreesOn, Agrees, Steps, leaves, Says, after_agrees, retabled_agrees, kept_agrees, turned_agrees}
use Rattle.refinement.proofs.MovedKeys.{lowest_of, lowest_reached, called_for_lem, none_unmoved, none_left, not_lower, lowest_first, moved_count}
use Rattle.std.specs.Prelude.{Result, Ok, Err}

-- ---- the end of the rehash

module _ {s : State} {current other entries : List ℕ} (h : Shape s current other entries) (rehashing : s.rehashing ≡ true)
    (none_left : s.old_used ≡ 0) (key value : ℕ) where
  -- what is held then, and what was held: the buckets of the new table
  finished_before : HeldAt (finished s) entries (finished_shape h rehashing none_left).at key value
      → HeldAt s entries h.at key value
  unfolding Live IsBucket finished retabled state_of old_new size_of swapped_table swapped_place
  finished_before k =
      by k.place k.live k.bucket
      (held_as_lem (finished_at h rehashing none_left k.place) k.held)
    where
      by : (p : Place) → Live (finished s) p → IsBucket p → HeldIn entries (h.at (swapped_place p)) key value
          → HeldAt s entries h.at key value
      by Place.free l b k = absurd b
      by (Place.bucket Table.Old n) l b k = record { place = Place.bucket Table.New n; live = l; bucket = tt; held = k }
      by (Place.bucket Table.New n) l b k = absurd (omega arith)

  finished_after : HeldAt s entries h.at key value
      → HeldAt (finished s) entries (finished_shape h rehashing none_left).at key value
  unfolding Live IsBucket finished retabled state_of old_new size_of swapped_table swapped_place
  finished_after k = by k.place k.live k.bucket k.held
    where
      by : (p : Place) → Live s p → IsBucket p → HeldIn entries (h.at p) key value
          → HeldAt (finished s) entries (finished_shape h rehashing none_left).at key value
      by Place.free l b k = absurd b
      by (Place.bucket Table.Old n) l b k =
          absurd (subst (λ (ns : List ℕ). In k.entry ns) (old_empty h none_left n l) k.there)
      by (Place.bucket Table.New n) l b k =
          record {
            place = Place.bucket Table.Old n;
            live = l;
            bucket = tt;
            held =
                held_as_lem (sym (finished_at h rehashing none_left (Place.bucket Table.Old n))) k;
          }

-- the store then agrees, the buffers having changed parts
finished_on : {s : State} {current other entries : List ℕ} {i : Ideal} (a : AgreesOn s current other entries i)
    → s.rehashing ≡ true → s.old_used ≡ 0
    → AgreesOn (finished s) other current entries
    (ideal i.plain (Tables.one s.new_size) (not s.second_is_current) [] 0 i.allowed i.iterators)
unfolding finished retabled state_of old_new keys_held tables_of tables_by
finished_on a rehashing none_left =
    retabled_agrees a (finished_shape a.shape rehashing none_left) refl (omega arith) refl refl
    (finished_before a.shape rehashing none_left) (finished_after a.shape rehashing none_left)
    [] (λ key j. absurd j) (λ again key k. let z : ◌≡◌ {A = ℕ} 0 1 = cc in absurd (omega arith)) tt

-- ---- the store, before it is asked whether the rehash is over

AgreesAfter : Ideal → After State → Type 0
AgreesAfter i (After.after t c o e) = AgreesOn t c o e i

stored : {s t : State} {c o e : List ℕ} {keys index : ℕ} {places : Place → ℕ → ℕ → Type 0}
    (l : StoreAfter s (λ u. u) (After.after t c o e) keys index places) (i : Ideal) → Says s keys index places i
    → AgreesOn t c o e i
unfolding AgreesAfter
stored l i says = subst (AgreesAfter i) (sym l.is) (after_agrees l i says)

-- empty buckets passed, up to bucket b
passed_on : {s : State} {current other entries : List ℕ} {i : Ideal} (a : AgreesOn s current other entries i)
    → s.rehashing ≡ true → (b : ℕ) → b ≤ s.old_size → ((c : ℕ) → c < b → get_or current c 0 ≡ 0)
    → AgreesOn (advanced s 0 b) current other entries
    (ideal i.plain (Tables.two s.old_size s.new_size) i.turned i.unmoved b i.allowed i.iterators)
unfolding ideal tables_of tables_by Live IsBucket size_of
passed_on {s} a rehashing b fits empty =
    stored (passed_store a.shape rehashing b fits empty) _
    (record {
      capacity = a.capacity;
      count = a.count;
      distinct = a.distinct;
      tables = ap (λ (t : Bool). tables_by t s.old_size s.new_size) rehashing;
      turned = a.turned;
      next = refl;
      allowed = a.allowed;
      iterators = a.iterators;
      in_map = λ t l c k v h. a.in_map k v (record { place = t; live = l; bucket = c; held = h });
      in_store = λ k v e. let h = a.in_store k v e in (h.place, h.live, h.bucket, h.held);
      in_unmoved = λ t c k v l h. a.in_unmoved t k (record { value = v; index = c; live = l; held = h });
      unmoved_in = λ k j. let h = a.unmoved_in k j in (h.index, h.value, h.live, h.held);
      unmoved_once = a.unmoved_once;
    })

old_number : (b c : ℕ) → Place.bucket Table.Old b ≡ Place.bucket Table.Old c → b ≡ c
old_number b c e = cc

module _ {s : State} {current other entries : List ℕ} {i : Ideal} (a : AgreesOn s current other entries i)
    (rehashing : s.rehashing ≡ true) (b : ℕ) (before : EmptyBefore a.shape b) where
  abbrev from : Place
  from = Place.bucket Table.Old b

  -- the buckets before have no head
  no_head : (c : ℕ) → c < b → get_or current c 0 ≡ 0
  unfolding Linked head_at buckets_of size_of Live
  no_head c l =
      shape_linked a.shape (Place.bucket Table.Old c) (omega (arith, before.live)) [] (before.empty c l)

  abbrev HoldsThen : Place → ℕ → ℕ → Type 0
  HoldsThen = HeldThen s entries a.shape.at b

  abbrev gone_to : Chains
  gone_to = after s other entries (a.shape.at from)

  -- the keys that stay
  abbrev stays : ℕ → Bool
  stays j = not (eqb (bucket_of j s.old_size) b)

  -- the chain of this one moved
  moved_on : AgreesOn (advanced s (length (a.shape.at from)) (suc b)) (set current b 0) gone_to.buckets gone_to.entries
      (ideal i.plain (Tables.two s.old_size s.new_size) i.turned (keep stays i.unmoved) (suc b) i.allowed i.iterators)
  unfolding key_place Live IsBucket size_of LiveTable tables_of tables_by ideal
  moved_on =
      stored (moved_store a.shape rehashing b before.live no_head) _
      (record {
        capacity = a.capacity;
        count = a.count;
        distinct = a.distinct;
        tables = ap (λ (t : Bool). tables_by t s.old_size s.new_size) rehashing;
        turned = a.turned;
        next = refl;
        allowed = a.allowed;
        iterators = a.iterators;
        in_map = in_map;
        in_store = in_store;
        in_unmoved = λ t c k v l h. old_only c k v l h;
        unmoved_in = old_all;
        unmoved_once = distinct_keep stays i.unmoved a.unmoved_once;
      })
    where
      in_map : (t : Place) → Live s t → IsBucket t → (k v : ℕ) → HoldsThen t k v → value_for k i.plain.pairs ≡ some v
      in_map t l bucket k v (inl h) = a.in_map k v (record { place = t; live = l; bucket = bucket; held = h.1 })
      in_map t l bucket k v (inr h) =
          a.in_map k v (record { place = from; live = before.live; bucket = tt; held = h.1 })

      in_store : (k v : ℕ) → value_for k i.plain.pairs ≡ some v → (t : Place) × Live s t × IsBucket t × HoldsThen t k v
      in_store k v e =
          let h = a.in_store k v e in
          elim (same h.place from) [
            | yes e ↦ (
              key_place s k Table.New,
              key_live a.shape k Table.New (λ e. rehashing),
              key_bucket s k Table.New,
              inr (refl, subst (λ (p : Place). HeldIn entries (a.shape.at p) k v) e h.held),
            )
            | no d ↦ (h.place, h.live, h.bucket, inl (d, h.held))
          ]

      old_only : (c k v : ℕ) → c < s.old_size → HoldsThen (Place.bucket Table.Old c) k v
          → In k (keep stays i.unmoved)
      old_only c k v l (inl h) =
          in_keep stays k i.unmoved (a.in_unmoved rehashing k (record { value = v; index = c; live = l; held = h.1 }))
          (ap not
          (ne_eqb (bucket_of k s.old_size) b
          (λ e. h.0 (ap (Place.bucket Table.Old) (sym (called_for_lem a k v c l h.1) ∙ e)))))
      old_only c k v l (inr h) = let new = h.0 in let z : ◌≡◌ {A = ℕ} 0 1 = cc in absurd (omega arith)

      old_all : (k : ℕ) → In k (keep stays i.unmoved)
          → (c v : ℕ) × (c < s.old_size) × HoldsThen (Place.bucket Table.Old c) k v
      old_all k j =
          let (there, t) = of_keep stays k i.unmoved j in
          let h = a.unmoved_in k there in
          let calls = called_for_lem a k h.value h.index h.live h.held in
          let other_one = eqb-false (bucket_of k s.old_size) b (not-true (eqb (bucket_of k s.old_size) b) t) in
          (h.index, h.value, h.live, inl ((λ e. other_one (calls ∙ old_number h.index b e)), h.held))

-- ---- the call

-- what a step answers where some keys are unmoved: those of the lowest bucket go, if it is in reach
unfoldable moving_from : Ideal → ℕ → ℕ → List ℕ → ℕ → Bool → Reply Ideal
moving_from i old new ks b near =
    cond near
    (after_step i old new (length (keep (λ j. eqb (bucket_of j old) b) ks)) (keep (λ j. not (eqb (bucket_of j old) b)) ks) (suc b))
    (after_step i old new 0 ks (i.index + empty_visits))

some_moving : (i : Ideal) (old new : ℕ) (ks : List ℕ) → ks ≢ []
    → step_taken i old new ks
    ≡ moving_from i old new ks (lowest_of old ks) (ltb (lowest_of old ks) (i.index + empty_visits))
unfolding step_taken moving_from lowest_of
some_moving i old new [] f = absurd (f refl)
some_moving i old new (k ∷ ks) f = refl

module _ (w : World) (i : Ideal) (a : Agrees w i) where
  abbrev s : State
  s = w.state

  abbrev call : List ℕ → List ℕ → After (Result (ℕ × State) Error)
  call current other = stepped s current other w.entries s.rehashing

  abbrev bad : Result (ℕ × State) Error
  bad = Err Error.BadState

  sound : sound_at w ≡ true
  sound = shape_sound a.shape

  -- a step answered 0, from what it leaves on the current and the other buffer
  step_answered : (count : ℕ) (t : State) (c o e : List ℕ) (j : Ideal)
      → call (current w) (other w) ≡ After.after (Ok (count, t)) c o e
      → Agrees (world_by s.second_is_current t c o e) j
      → Steps w Call.rehash_step (reply 0 (count ∷ cond t.rehashing 1 0 ∷ []) j)
  unfolding perform given calls.rehash_step step_reply reply
  step_answered count t c o e j is agrees =
      let replied = left_reply w (step_reply s) bad call sound (Ok (count, t)) c o e is in
      record {
        number = ap (λ (r : Reply State). r.number) replied;
        values = λ f. ap (λ (r : Reply State). r.values) replied;
        agrees =
            subst (λ (v : World). Agrees v j)
            (sym (left_world w (step_reply s) bad call sound (Ok (count, t)) c o e is t refl refl))
            agrees;
      }

  refused : (error : Error) (n : ℕ) → error_number error ≡ suc n
      → call (current w) (other w) ≡ After.after (Err error) (current w) (other w) w.entries
      → Steps w Call.rehash_step (reply (suc n) (0 ∷ 0 ∷ []) i)
  unfolding perform given calls.rehash_step step_reply reply
  refused error n is e =
      let replied = left_reply w (step_reply s) bad call sound (Err error) (current w) (other w) w.entries e in
      let number = ap (λ (r : Reply State). r.number) replied ∙ is in
      leaves w i a Call.rehash_step (suc n) (0 ∷ 0 ∷ []) (refused_keeps w Call.rehash_step (step_good w) (λ z. omega (arith, number))) number
      (λ f. ap (λ (r : Reply State). r.values) replied)

  abbrev old : ℕ
  old = s.old_size

  abbrev new : ℕ
  new = s.new_size

  -- Once so many keys have moved, and the store agrees with the ideal as far as that goes: with none unmoved the rehash is
  -- over, else it goes on.
  module _ (count next : ℕ) (c o e ks : List ℕ)
      (is : call (current w) (other w) ≡ After.after (step_done s count next) c o e)
      (then : AgreesOn (advanced s count next) c o e (ideal i.plain (Tables.two old new) i.turned ks next i.allowed i.iterators)) where
    abbrev t : State
    t = advanced s count next

    over : t.old_used ≡ 0 → Steps w Call.rehash_step (after_step i old new count ks next)
    unfolding step_done settled advanced finished retabled state_of size_of ideal after_step
    over z =
        let j : Bool → Ideal = λ f. ideal i.plain (Tables.one new) (not f) [] 0 i.allowed i.iterators in
        subst (λ (js : List ℕ). Steps w Call.rehash_step (after_step i old new count js next)) (sym (none_unmoved then z))
        (step_answered count (finished t) c o e (j i.turned)
        (is ∙ ap (λ (b : Bool). After.after (Ok (count, (cond b (finished t) t))) c o e) (eq-eqb t.old_used 0 z))
        (turned_agrees s.second_is_current (finished t) c o e (j i.turned) refl
        (subst (λ (f : Bool). AgreesOn (finished t) o c e (j f)) then.turned (finished_on then refl z))))

    on : t.old_used ≢ 0 → Steps w Call.rehash_step (after_step i old new count ks next)
    unfolding step_done settled advanced retabled state_of ideal after_step
    on f = by ks (λ e. f (none_left then refl e)) then
      where
        by : (js : List ℕ) → js ≢ []
            → AgreesOn t c o e (ideal i.plain (Tables.two old new) i.turned js next i.allowed i.iterators)
            → Steps w Call.rehash_step (after_step i old new count js next)
        by [] g h = absurd (g refl)
        by (k ∷ js) g h =
            step_answered count t c o e _
            (is ∙ ap (λ (b : Bool). After.after (Ok (count, (cond b (finished t) t))) c o e) (ne_eqb t.old_used 0 f))
            (kept_agrees s.second_is_current t c o e _ refl h)

    settles : Steps w Call.rehash_step (after_step i old new count ks next)
    settles = elim (ℕ_discrete t.old_used 0) [ yes z ↦ over z | no f ↦ on f ]

  Moves : List ℕ → Type 0
  Moves ks = Steps w Call.rehash_step (step_taken i old new ks)

  module _ (rehashing : s.rehashing ≡ true) (not_paused : paused s ≡ false) where
    -- what a step that nothing holds up leaves
    taken : (o : After (Result (ℕ × State) Error)) → calls.step_taken s (current w) (other w) w.entries ≡ o → call (current w) (other w) ≡ o
    taken o e = step_taken_lem a.shape rehashing not_paused ∙ e

    -- with no keys in the old table
    idle : s.old_used ≡ 0 → Moves i.unmoved
    unfolding Moves step_taken after_step
    idle z =
        let fits = ((facts a.shape).rehashing rehashing).index_fits in
        let none = none_unmoved a z in
        subst Moves (sym none)
        (subst (λ (ks : List ℕ). Steps w Call.rehash_step (after_step i old new 0 ks s.rehash_index)) none
        (settles 0 s.rehash_index _ _ _ i.unmoved (taken _ (step_idle a.shape z))
        (passed_on a rehashing s.rehash_index fits a.shape.passed_empty)))

    -- with some, by what a step meets
    moves : s.old_used ≢ 0 → Moves i.unmoved
    unfolding Moves moving_from moved_chain
    moves f =
        let some_left : i.unmoved ≢ [] = λ e. f (none_left a rehashing e) in
        subst (λ (r : Reply Ideal). Steps w Call.rehash_step r) (sym (some_moving i old new i.unmoved some_left))
        (by some_left (step_meets a.shape rehashing f))
      where
        near : (b : ℕ) (t : Bool) → lowest_of old i.unmoved ≡ b → ltb b (i.index + empty_visits) ≡ t
            → moving_from i old new i.unmoved b t
            ≡ moving_from i old new i.unmoved (lowest_of old i.unmoved) (ltb (lowest_of old i.unmoved) (i.index + empty_visits))
        near b t e l = rw (e, l)

        by : i.unmoved ≢ [] → Meets a.shape
            → Steps w Call.rehash_step
            (moving_from i old new i.unmoved (lowest_of old i.unmoved) (ltb (lowest_of old i.unmoved) (i.index + empty_visits)))
        by some_left (Meets.filled b e before filled reach) =
            subst (λ (r : Reply Ideal). Steps w Call.rehash_step r)
            (ap (λ (n : ℕ). after_step i old new n (keep (stays a rehashing b before) i.unmoved) (suc b))
            (sym (moved_count a rehashing b before filled))
            ∙ near b true (lowest_first a rehashing b before filled)
            (lt-ltb b (i.index + empty_visits) (omega (arith, a.index))))
            (settles (length (a.shape.at (Place.bucket Table.Old b))) (suc b) _ _ _ (keep (stays a rehashing b before) i.unmoved)
            (taken _ (step_moves a.shape f b e before.live)) (moved_on a rehashing b before))
        by some_left (Meets.passed b e before is) =
            let (low, j, l) = lowest_reached old i.unmoved some_left in
            let far = not_lower a b before low j in
            subst (λ (r : Reply Ideal). Steps w Call.rehash_step r)
            (ap (after_step i old new 0 i.unmoved) (omega (arith, a.index))
            ∙ near (lowest_of old i.unmoved) false refl
            (le-ltb (lowest_of old i.unmoved) (i.index + empty_visits) (omega (arith, a.index))))
            (settles 0 b _ _ _ i.unmoved (taken _ (step_passes a.shape f b e))
            (passed_on a rehashing b (omega (arith, before.live)) (no_head a rehashing b before)))

  -- a step, refused or answered
  pub step_steps : (l : Lengths) → Steps w Call.rehash_step (predict l i Call.rehash_step)
  unfolding predict step_answer Moves error_number paused tables_of tables_by
  step_steps l =
      subst (λ (t : Tables). Steps w Call.rehash_step (step_answer i t i.unmoved)) a.tables (by s.rehashing refl)
    where
      by : (t : Bool) → s.rehashing ≡ t
          → Steps w Call.rehash_step (step_answer i (tables_by t s.old_size s.new_size) i.unmoved)
      by false e = refused Error.NotRehashing 7 refl (step_none a.shape e)
      by true e =
          let count = ap (ltb 0) a.iterators in
          by_test (λ (r : Reply Ideal). Steps w Call.rehash_step r) (ltb 0 i.iterators) _ _
          (λ t. refused Error.Paused 17 refl (step_paused a.shape e (count ∙ t)))
          (λ f. elim (ℕ_discrete s.old_used 0) [ yes z ↦ idle e (count ∙ f) z | no g ↦ moves e (count ∙ f) g ])
