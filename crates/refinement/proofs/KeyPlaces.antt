-- While safe iterators hold up the rehash, no key moves: with the ideal's calls on keys (`on_place`), and with a rehash that
-- begins (`resize_place`), a key that stays held stays at its place.
-- Assumes nothing.
use Prim.Native.Nat.{ℕ, ◌<◌}
use mathlib.Core.Path.{◌≡◌, refl, sym, ap, subst, ◌∙◌}
use mathlib.Core.Bool.{Bool}
use mathlib.Core.List.{List}
use native.Mathlib.Omega.{arith}
use Rattle.cursor.specs.Member.{In, keep}
use Rattle.model.specs.Keys.{bucket_of}
use Rattle.model.specs.Answers.{Reply, reply}
use Rattle.model.specs.Calls.{old_new}
use Rattle.model.specs.Walk.{Tables}
use Rattle.model.specs.Sequences.{KeyCall, Call, PlainMap, keys_of, map_does}
use Rattle.model.proofs.Tests.{Tells, tested, tested_not, tells_same}
use Rattle.refinement.specs.Demand3.{Lengths, Ideal, ideal, among, table_of, size_in, key_answer, resize_answer, steps_first, on_answer, place_number, place_of, predict}
use Rattle.model.proofs.Lists.{in_keep, of_keep}
use Rattle.refinement.proofs.PlainMaps.{tells_among}
use Rattle.refinement.proofs.IdealSteps.{any_resize, resize_plain, any_growth, any_first, paused_stays}

-- a call finds the ideal as it is
paused_first : (i : Ideal) → 0 < i.iterators → (c : KeyCall) (number : ℕ) → steps_first i c number ≡ i
paused_first i p c number = any_first i (λ (j : Ideal). j ≡ i) c number (paused_stays i p) refl

-- the place of a key, by the live tables and the keys in the old one
abbrev place_by : Tables → List ℕ → ℕ → ℕ
place_by tables unmoved key =
    place_number tables (table_of tables unmoved key) (bucket_of key (size_in tables (table_of tables unmoved key)))

module _ (key : ℕ) where
  -- if the key is still held, it is where it was
  abbrev pub Stays : Ideal → Ideal → Type 0
  Stays i j = In key (keys_of j.plain.pairs) → place_of j key ≡ place_of i key

  -- of the keys in the old table those that are held stay there, ..
  kept_among : (keys unmoved : List ℕ) → In key keys → among key (keep (λ k. among k keys) unmoved) ≡ among key unmoved
  kept_among keys unmoved held =
      let still : ℕ → Bool = λ k. among k keys in
      alike (tells_among key (keep still unmoved))
      (tells_same (λ i. in_keep still key unmoved i (tested (tells_among key keys) held))
      (λ i. (of_keep still key unmoved i).0) (tells_among key unmoved))
    where
      alike : {A : Type 0} {s t : Bool} → Tells A s → Tells A t → s ≡ t
      alike (Tells.holds a) h = sym (tested h a)
      alike (Tells.fails f) h = sym (tested_not h f)

  -- .. at their places
  kept_place : (keys unmoved : List ℕ) → In key keys → (tables : Tables)
      → place_by tables (keep (λ k. among k keys) unmoved) key ≡ place_by tables unmoved key
  unfolding table_of
  kept_place keys unmoved held (Tables.one size) = refl
  kept_place keys unmoved held (Tables.two old new) = rw (kept_among keys unmoved held)

  -- where a rehash begins, all keys are in the old table, whose places come first
  begun_place : (old new : ℕ) (keys unmoved : List ℕ) → In key keys
      → place_by (Tables.two old new) keys key ≡ place_by (Tables.one old) unmoved key
  unfolding place_number table_of size_in old_new
  begun_place old new keys unmoved held = rw (tested (tells_among key keys) held) (omega arith)

  pub resize_place : (l : Lengths) (i : Ideal) (size : ℕ) (t : Tables) → i.tables ≡ t → Stays i (resize_answer l i size t).state
  unfolding reply ideal place_of
  resize_place l i size t e =
      any_resize l i (λ (r : Reply Ideal). Stays i r.state) size t
      (λ old is a held.
      begun_place old size (keys_of i.plain.pairs) i.unmoved held
      ∙ ap (λ (ts : Tables). place_by ts i.unmoved key) (sym (e ∙ is)))
      (λ held. refl) (λ held. refl)

  module _ (l : Lengths) (i : Ideal) (paused : 0 < i.iterators) where
    pub on_place : (k : ℕ) (c : KeyCall) → Stays i (predict l i (Call.on k c)).state
    unfolding predict on_answer key_answer reply ideal place_of
    on_place k c =
        any_growth l (Stays i) c (on_answer i c m)
        (λ old size e held.
        resize_place l (on_answer i c m).state size (Tables.one old) e held
        ∙ before (subst (λ (p : PlainMap). In key (keys_of p.pairs)) (resize_plain l (on_answer i c m).state size (Tables.one old)) held))
        before
      where
        m : Reply PlainMap
        m = map_does i.plain k c

        before : Stays i (on_answer i c m).state
        before held =
            rw (paused_first i paused c m.number) (kept_place (keys_of m.state.pairs) i.unmoved held i.tables)
