-- The ideal from call to call: what the calls leave of a rehash that is under way.
-- Assumes nothing.
use Prim.Native.Nat.{ℕ, zero, suc, ◌+◌, ◌<◌, ◌≤◌}
use mathlib.Core.Path.{◌≡◌, refl, sym, ap, subst, ◌∙◌}
use mathlib.Core.Logic.{◌≢◌, ◌⊎◌, inl, inr}
use mathlib.Core.Bool.{Bool, true, false, ◌&&◌, not, cond}
use mathlib.Core.List.{List, [], ◌∷◌}
use native.Mathlib.Decide.{ℕ_discrete}
use native.Mathlib.Omega.{arith}
use lib.ListN.{length}
use lib.Dec.{ltb, eqb}
use borrow.Author.Tests.{ltb-true, ltb-false, ne_eqb}
use Rattle.cursor.specs.Member.{In, keep}
use Rattle.model.specs.Answers.{Reply, reply}
use Rattle.model.specs.Keys.{bucket_of}
use Rattle.model.specs.Limits.{empty_visits}
use Rattle.model.specs.Walk.{Tables}
use Rattle.model.specs.Sequences.{KeyCall, Call, PlainMap, keys_of, map_does}
use Rattle.model.proofs.Tests.{true_not_false}
use Rattle.refinement.specs.Worlds.{takes_step}
use Rattle.refinement.specs.Demand3.{Lengths, Ideal, ideal, among, begun, start_number, start_answer, key_answer, resize_answer, after_step, step_taken, step_answer, steps_first, on_answer, then_grows, with_notes, predict}
use Rattle.refinement.specs.RehashesEnd.{steps_in}
use Rattle.model.proofs.Lists.{of_keep}
use Rattle.refinement.proofs.IdealSteps.{by_test, one_not_two, any_step, any_resize, any_hand, any_read, any_note, any_growth, not_paused, paused_refused, paused_stays}
use Rattle.refinement.proofs.MovedKeys.{lowest_of, lowest_reached, lowest_below}
use Rattle.refinement.proofs.CalledBuckets.{steps_left, in_table, rest_sub, rest_behind, moving_less, passing_less, fewer_less}

-- under way from a table of that size: the keys still to move are held, and none calls for a bucket before the next one
pub record During (size : ℕ) (i : Ideal) : Type 0 where
  pub new : ℕ
  pub tables : i.tables ≡ Tables.two size new
  pub above : (k : ℕ) → In k i.unmoved → i.index ≤ bucket_of k size

abbrev pub left : ℕ → Ideal → ℕ
left size i = steps_left size i.unmoved i.index

-- With a step the next bucket comes to stand so many further on, and all keys call for later ones; or one beyond the lowest
-- that a key calls for.
unfoldable pub Onward : ℕ → List ℕ → ℕ → ℕ → Type 0
Onward size keys now then =
    ((then ≡ now + empty_visits) × (now + empty_visits < size) × ((k : ℕ) → In k keys → now + empty_visits ≤ bucket_of k size))
    ⊎ ((k : ℕ)
    × In k keys
    × (bucket_of k size < now + empty_visits)
    × (then ≡ suc (bucket_of k size))
    × ((j : ℕ) → In j keys → bucket_of k size ≤ bucket_of j size))

-- A step on some unmoved keys, after which it is still under way: the same pairs, fewer steps to go, no keys but those.
pub record Goes (size : ℕ) (i : Ideal) (keys : List ℕ) (j : Ideal) : Type 0 where
  pub new : ℕ
  pub tables : j.tables ≡ Tables.two size new
  pub above : (k : ℕ) → In k j.unmoved → j.index ≤ bucket_of k size
  pub less : left size j < steps_left size keys i.index
  pub only : (k : ℕ) → In k j.unmoved → In k keys
  pub onward : Onward size keys i.index j.index

module _ (i : Ideal) (size new a b : ℕ) (pos : 0 < size) where
  abbrev StepGoes : List ℕ → Reply Ideal → Type 0
  StepGoes keys r = r.state.tables ≡ Tables.two a b → Goes size i keys r.state

  done_goes : (keys : List ℕ) (count : ℕ) (ks : List ℕ) (next : ℕ) → ((k : ℕ) → In k ks → next ≤ bucket_of k size)
      → (ks ≢ [] → steps_left size ks next < steps_left size keys i.index) → ((k : ℕ) → In k ks → In k keys)
      → Onward size keys i.index next → StepGoes keys (after_step i size new count ks next)
  unfolding after_step reply ideal
  done_goes keys count [] next above less only onward e = absurd (one_not_two e)
  done_goes keys count (k ∷ ks) next above less only onward e =
      record {
        new = new;
        tables = refl;
        above = above;
        less = less (λ n. let z : ◌≡◌ {A = ℕ} 0 1 = cc in omega arith);
        only = only;
        onward = onward;
      }

  step_goes : (keys : List ℕ) → ((k : ℕ) → In k keys → i.index ≤ bucket_of k size)
      → StepGoes keys (step_taken i size new keys)
  unfolding step_taken after_step reply ideal lowest_of Onward
  step_goes [] above e = absurd (one_not_two e)
  step_goes (k ∷ ks) above e = by (ltb low (i.index + empty_visits)) refl e
    where
      keys : List ℕ
      keys = k ∷ ks

      low : ℕ
      low = lowest_of size keys

      some_left : keys ≢ []
      some_left n = let z : ◌≡◌ {A = ℕ} 0 1 = cc in omega arith

      behind : ltb low (i.index + empty_visits) ≡ false → (j : ℕ) → In j keys → i.index + empty_visits ≤ bucket_of j size
      behind f j h = omega (arith, ltb-false low (i.index + empty_visits) f, lowest_below size keys j h)

      by : (t : Bool) → ltb low (i.index + empty_visits) ≡ t
          → StepGoes keys
          (cond t
          (after_step i size new (length (keep (λ j. eqb (bucket_of j size) low) keys)) (keep (λ j. not (eqb (bucket_of j size) low)) keys)
          (suc low))
          (after_step i size new 0 keys (i.index + empty_visits)))
      by true f =
          let (k, h, is) = lowest_reached size keys some_left in
          done_goes keys _ _ (suc low) (rest_behind size keys) (λ g. moving_less size keys pos some_left g i.index above)
          (rest_sub size keys)
          (inr (
            k,
            h,
            omega (arith, ltb-true low (i.index + empty_visits) f, is),
            ap suc (sym is),
            λ j g. omega (arith, is, lowest_below size keys j g),
          ))
      by false f =
          done_goes keys 0 keys (i.index + empty_visits) (behind f)
          (λ g. passing_less size keys pos some_left i.index (behind f)) (λ k h. h)
          (inl (refl, omega (arith, behind f k (inl refl), in_table size pos k), behind f))

-- Any other call leaves the tables and the next bucket, and brings no key to the old table.
pub record Kept (i j : Ideal) : Type 0 where
  pub tables : j.tables ≡ i.tables
  pub turned : j.turned ≡ i.turned
  pub index : j.index ≡ i.index
  pub only : (k : ℕ) → In k j.unmoved → In k i.unmoved

same : (i : Ideal) → Kept i i
same i = record { tables = refl; turned = refl; index = refl; only = λ k h. h }

-- a resize leaves the current buffer
resize_turned : (l : Lengths) (i : Ideal) (size : ℕ) (t : Tables) → (resize_answer l i size t).state.turned ≡ i.turned
unfolding reply ideal
resize_turned l i size t = any_resize l i (λ r. r.state.turned ≡ i.turned) size t (λ old e a. refl) refl refl

key_keeps : (i : Ideal) (r : Reply PlainMap) → Kept i (key_answer i r).state
unfolding key_answer reply ideal
key_keeps i r =
    let keys = keys_of r.state.pairs in
    record {
      tables = refl;
      turned = refl;
      index = refl;
      only = λ k h. (of_keep (λ j. among j keys) k i.unmoved h).0;
    }

-- So a call, answered with that number, takes a step that nothing holds up, and leaves what that leaves; or it takes none, as
-- a step call that is refused. Or its step ends the rehash, and the next one begins with the same call.
pub data Passes (i : Ideal) (c : Call) (number : ℕ) (j : Ideal) : Type 0 where
  stepped : i.iterators ≡ 0 → Kept (step_answer i i.tables i.unmoved).state j → Passes i c number j
  stayed : (steps_in i.iterators c && eqb number 0) ≡ false → Kept i j → Passes i c number j
  renewed : j.turned ≡ not i.turned → Passes i c number j

module _ (l : Lengths) (i : Ideal) (size new : ℕ) (moving : i.tables ≡ Tables.two size new) (a b : ℕ) where
  -- (or else it starts anew)
  abbrev GoesOn : Call → Reply Ideal → Type 0
  GoesOn c r = r.state.tables ≡ Tables.two a b → Passes i c r.number r.state

  resize_passes : (n : ℕ) (t : Tables) → t ≡ Tables.two size new → GoesOn (Call.resize n) (resize_answer l i n t)
  unfolding resize_answer reply steps_in
  resize_passes n (Tables.one a) e = absurd (one_not_two e)
  resize_passes n (Tables.two a b) e = λ f. Passes.stayed refl (same i)

  -- a step that ends it turns the buffers
  over_turned : (n : ℕ) → (step_answer i i.tables i.unmoved).state.tables ≡ Tables.one n
      → (step_answer i i.tables i.unmoved).state.turned ≡ not i.turned
  unfolding reply after_step ideal
  over_turned n =
      any_step i (λ r. r.state.tables ≡ Tables.one n → r.state.turned ≡ not i.turned) i.tables i.unmoved
      (λ m f e. absurd (one_not_two (sym e ∙ moving))) (λ some e. absurd (one_not_two (sym e ∙ moving)))
      (λ old m f none. done old m)
    where
      done : (old m count : ℕ) (ks : List ℕ) (next : ℕ) → (after_step i old m count ks next).state.tables ≡ Tables.one n
          → (after_step i old m count ks next).state.turned ≡ not i.turned
      done old m count [] next e = refl
      done old m count (k ∷ ks) next e = absurd (one_not_two (sym e))

  on_passes : (key : ℕ) (c : KeyCall) → GoesOn (Call.on key c) (predict l i (Call.on key c))
  unfolding predict on_answer then_grows key_answer steps_first reply steps_in
  on_passes key c =
      by_test (λ (j : Ideal). GoesOn (Call.on key c) (then_grows l c (key_answer j map))) (takes_step c && eqb map.number 0) stepped i
      (λ t.
      elim (ℕ_discrete i.iterators 0) [
        | yes none ↦ stepping none
        | no some ↦
            subst (λ (j : Ideal). GoesOn (Call.on key c) (then_grows l c (key_answer j map)))
            (sym (paused_stays i (omega (arith, some))))
            (staying (paused (takes_step c) (eqb i.iterators 0) (eqb map.number 0) (ne_eqb i.iterators 0 some)))
      ])
      (λ f. staying (refused (takes_step c) (eqb i.iterators 0) (eqb map.number 0) f))
    where
      paused : (a b c : Bool) → b ≡ false → ((a && b) && c) ≡ false
      paused true true c f = absurd (true_not_false f)
      paused true false c f = refl
      paused false b c f = refl

      refused : (a b c : Bool) → (a && c) ≡ false → ((a && b) && c) ≡ false
      refused true true c f = f
      refused true false c f = refl
      refused false b c f = refl

      map : Reply PlainMap
      map = map_does i.plain key c

      stepped : Ideal
      stepped = (step_answer i i.tables i.unmoved).state

      GoesTo : Ideal → Type 0
      GoesTo j = j.tables ≡ Tables.two a b → Passes i (Call.on key c) map.number j

      -- growth behind it, where one table is left
      grown : (j : Ideal) → ((n : ℕ) → j.tables ≡ Tables.one n → j.turned ≡ not i.turned)
          → (n m : ℕ) → j.tables ≡ Tables.one n → GoesTo (resize_answer l j m (Tables.one n)).state
      grown j turned n m e f = Passes.renewed (resize_turned l j m (Tables.one n) ∙ turned n e)

      stepping : i.iterators ≡ 0 → GoesOn (Call.on key c) (then_grows l c (key_answer stepped map))
      stepping none =
          let kept = key_keeps stepped map in
          any_growth l GoesTo c (key_answer stepped map)
          (grown (key_answer stepped map).state (λ n e. kept.turned ∙ over_turned n (sym kept.tables ∙ e)))
          (λ e. Passes.stepped none kept)

      staying : ((takes_step c && eqb i.iterators 0) && eqb map.number 0) ≡ false
          → GoesOn (Call.on key c) (then_grows l c (key_answer i map))
      staying none =
          let kept = key_keeps i map in
          any_growth l GoesTo c (key_answer i map)
          (grown (key_answer i map).state (λ n e. absurd (one_not_two (sym e ∙ kept.tables ∙ moving))))
          (λ e. Passes.stayed none kept)

  step_passes : GoesOn Call.rehash_step (step_answer i i.tables i.unmoved)
  unfolding steps_in
  step_passes e =
      elim (ℕ_discrete i.iterators 0) [
        | yes none ↦ Passes.stepped none (same _)
        | no some ↦
            let (number, state) = paused_refused i (omega (arith, some)) in
            Passes.stayed number (subst (Kept i) (sym state) (same i))
      ]

  pub passes : (c : Call) → GoesOn c (predict l i c)
  unfolding predict start_answer begun with_notes reply ideal steps_in
  passes (Call.init capacity n) = by (start_number l capacity n)
    where
      by : (m : ℕ) → GoesOn (Call.init capacity n) (start_answer i capacity n m)
      by zero e = absurd (one_not_two e)
      by (suc m) e = Passes.stayed refl (same i)
  passes (Call.on key c) = on_passes key c
  passes (Call.resize n) = resize_passes n i.tables moving
  passes Call.rehash_step = step_passes
  passes (Call.scan cursor lent) =
      any_hand i (GoesOn (Call.scan cursor lent)) _ _ (length lent) (λ e. Passes.stayed refl (same i))
      (λ e. Passes.stayed refl (same i))
  passes (Call.iterate place lent) =
      any_hand i (GoesOn (Call.iterate place lent)) _ _ (length lent) (λ e. Passes.stayed refl (same i))
      (λ e. Passes.stayed refl (same i))
  passes (Call.read c) =
      any_read i (GoesOn (Call.read c)) c (λ vs e. Passes.stayed refl (same i)) (λ e. Passes.stayed refl (same i))
  passes (Call.note c) =
      any_note i (GoesOn (Call.note c)) c
      (λ allowed iterators e.
      Passes.stayed refl (record { tables = refl; turned = refl; index = refl; only = λ k h. h }))
      (λ e. Passes.stayed refl (same i)) (λ e. Passes.stayed refl (same i))

-- While it is under way: a step, and what leaves it.
module _ (size : ℕ) (i : Ideal) (d : During size i) where
  pub goes_step : 0 < size → i.iterators ≡ 0 → (a b : ℕ)
      → (step_answer i i.tables i.unmoved).state.tables ≡ Tables.two a b
      → During size (step_answer i i.tables i.unmoved).state
      × Goes size i i.unmoved (step_answer i i.tables i.unmoved).state
  goes_step pos none a b e =
      let taken : step_answer i i.tables i.unmoved ≡ step_taken i size d.new i.unmoved =
      ap (λ (t : Tables). step_answer i t i.unmoved) d.tables ∙ not_paused i size d.new i.unmoved none in
      let g =
      subst (StepGoes i size d.new a b pos i.unmoved) (sym taken)
      (step_goes i size d.new a b pos i.unmoved d.above) e in (
        record {
          new = g.new;
          tables = g.tables;
          above = g.above;
        },
        g,
      )

  pub goes_kept : (j : Ideal) → Kept i j → During size j × (left size j ≤ left size i)
  goes_kept j k = (
    record {
      new = d.new;
      tables = k.tables ∙ d.tables;
      above = λ n h. omega (arith, k.index, d.above n (k.only n h));
    },
    subst (λ (n : ℕ). steps_left size j.unmoved n ≤ left size i) (sym k.index)
        (fewer_less size i.unmoved j.unmoved k.only i.index d.above),
  )
