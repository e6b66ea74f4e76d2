-- A call that iterates, on an undamaged store: it hands out the first filled bucket from its place on, just if the list has
-- two numbers for each of its entries (`pass_call`, `iterates_out`). Beside an ideal that the store matches, that is the first
-- bucket that a key of the ideal is in, so that the call answers as predicted (`iterate_predicted`).
-- Assumes nothing.
use Prim.Native.Nat.{ℕ, suc, ◌+◌, ◌-◌, ◌<◌}
use mathlib.Core.Path.{◌≡◌, refl, sym, ap, subst, ◌∙◌}
use mathlib.Core.Logic.{inl, ⊎_elim}
use mathlib.Core.Bool.{Bool, true, false, not, cond}
use mathlib.Core.List.{List, [], ◌∷◌, append-nil}
use mathlib.Core.Option.{Option, none, some}
use native.Mathlib.Decide.{dec_lt}
use native.Mathlib.Omega.{arith}
use lib.ListN.{length}
use lib.Dec.{eqb, eqb-suc-zero}
use borrow.Author.Tests.{lt-ltb, le-ltb, eq-eqb, ne_eqb}
use Rattle.cursor.specs.Member.{In, any, keep}
use Rattle.model.specs.declared.Table.{Table}
use Rattle.model.specs.Memory.{Place, Live, size_of}
use Rattle.model.specs.Calls.{old_new}
use Rattle.model.specs.Walk.{Tables, tables_of, scanned}
use Rattle.model.specs.Iterators.{bucket_at, end_place, first_place, filled, handed, iterate}
use Rattle.model.specs.Sequences.{World, Call, kept_scan, given, perform, event, keys_of}
use Rattle.model.proofs.Tests.{Tells, tells_same, tells_eq}
use Rattle.model.proofs.Linked.{Linked}
use Rattle.model.proofs.FirstPlace.{Found, first_found, first_agree}
use Rattle.refinement.specs.Worlds.{current, other, UndamagedAt, Held}
use Rattle.refinement.specs.Demand2.{first_filled, place_behind, bucket_entries, IteratesOut}
use Rattle.refinement.specs.Demand3.{Lengths, Ideal, live_sizes, place_number, place_of, is_at, first_held, bucket_pairs, place_pairs, hand_answer, predict, AsPredicted, Matches}
use Rattle.invariant.proofs.Shape.{shape_sound}
use Rattle.invariant.proofs.ToUndamaged.{entries_at_lem}
use Rattle.invariant.proofs.FromUndamaged.{undamaged_shape}
use Rattle.refinement.proofs.Orientation.{reads_sound}
use Rattle.refinement.proofs.PlainMaps.{pair}
use Rattle.refinement.proofs.LiveTables.{Buckets, tables_sizes}
use Rattle.refinement.proofs.GroupPlaces.{place_in}
use Rattle.refinement.proofs.BucketEntries.{entries_of}
use Rattle.refinement.proofs.GroupEntries.{hands_or_short, hands_read, hands_none, answered_hands, world_sound}
use Rattle.refinement.proofs.WalkCalls.{Due, held_place, held_due, hands_due, due_predicted}

-- ---- places and buckets

-- a place before the end is that of a bucket, ..
pub place_bucket : (t : Tables) (n : ℕ) → n < end_place t
    → (u : Table) × (b : ℕ) × (bucket_at t n ≡ Place.bucket u b) × (b < live_sizes t u) × (place_number t u b ≡ n)
unfolding end_place bucket_at live_sizes place_number old_new
place_bucket (Tables.one size) n l = (Table.Old, n, refl, l, refl)
place_bucket (Tables.two old new) n l =
    elim (dec_lt n old) [
      | yes k ↦ (Table.Old, n, rw (lt-ltb n old k), k, omega arith)
      | no k ↦ (Table.New, n - old, rw (le-ltb n old (omega arith)), omega arith, omega arith)
    ]

-- .. and a bucket is at its own
pub bucket_place : (t : Tables) (u : Table) (b : ℕ) → b < live_sizes t u → bucket_at t (place_number t u b) ≡ Place.bucket u b
unfolding bucket_at live_sizes place_number old_new
bucket_place (Tables.one size) Table.Old b l = refl
bucket_place (Tables.one size) Table.New b l = absurd (omega arith)
bucket_place (Tables.two old new) Table.Old b l =
    rw (lt-ltb (0 + b) old (omega arith)) (ap (Place.bucket Table.Old) (omega arith))
bucket_place (Tables.two old new) Table.New b l =
    rw (le-ltb (old + b) old (omega arith)) (ap (Place.bucket Table.New) (omega arith))

-- ---- the call

-- a head is 0 just if no entry follows
head_filled : (entries : List ℕ) (most head : ℕ) (ns : List ℕ) → Linked entries most head ns → eqb head 0 ≡ eqb (length ns) 0
unfolding Linked
head_filled entries most head [] e = eq-eqb head 0 e
head_filled entries most head (n ∷ ns) h = ne_eqb head 0 (λ e. omega arith) ∙ sym (eqb-suc-zero (length ns))

module _ (w : World) where
  abbrev tables : Tables
  tables = tables_of w.state

  -- the entries of a place's bucket, as those of a list of one bucket
  abbrev only : ℕ → List Place
  only n = bucket_at tables n ∷ []

  only_entries : (n : ℕ) → bucket_entries w (some n) ≡ entries_of w (only n)
  unfolding bucket_entries entries_of
  only_entries n = sym (append-nil _)

  -- what a call answers and hands out: the place behind the first filled bucket, and its entries
  module _ (place : ℕ) where
    found : Found (filled w.state (current w) (other w)) place (end_place tables) (first_filled w place)
    unfolding first_filled
    found = first_found (filled w.state (current w) (other w)) tables place

    abbrev next : ℕ
    next = place_behind tables (first_filled w place)

    abbrev ns : List ℕ
    ns = bucket_entries w (first_filled w place)

  module _ (u : UndamagedAt w) where
    -- it is live, ..
    only_buckets : (n : ℕ) → n < end_place tables → Buckets (size_of w.state) (only n)
    only_buckets n l =
        let (t, b, e, k, _) = place_bucket tables n l in
        record {
          each =
              λ p i.
              ⊎_elim (λ f. (t, b, f ∙ e, rw (tables_sizes w.state _ _ _ (world_sound w u)) at k)) (λ j. absurd j) i;
          once = (λ i. i, tt);
        }

    bucket_live : (n : ℕ) → n < end_place tables → Live w.state (bucket_at tables n)
    unfolding Live
    bucket_live n l = let (t, b, e, k) = (only_buckets n l).each (bucket_at tables n) (inl refl) in rw e k

    -- .. so its chain is sound, and handed out; ..
    bucket_handed : (lent : List ℕ) (test : ℕ → Bool) (place : ℕ) (o : Option ℕ) → Found test place (end_place tables) o
        → handed w.state (current w) (other w) w.entries lent o
        ≡ scanned w.entries lent (place_behind tables o) (some (bucket_entries w o))
    unfolding handed place_behind bucket_entries Found UndamagedAt
    bucket_handed lent test place none f = hands_none w.entries lent (end_place tables)
    bucket_handed lent test place (some n) f =
        ap (scanned w.entries lent (suc n)) (u.chains_sound (bucket_at tables n) (bucket_live n f.before_end))

    -- .. and it counts as filled just if it has entries
    bucket_filled : (n : ℕ) → n < end_place tables
        → filled w.state (current w) (other w) n ≡ not (eqb (length (bucket_entries w (some n))) 0)
    unfolding filled bucket_entries UndamagedAt
    bucket_filled n l =
        let p = bucket_at tables n in
        let shape = undamaged_shape u in
        let live = bucket_live n l in
        ap not (head_filled w.entries _ _ (shape.at p) (shape.linked p live))
        ∙ ap (λ (ns : List ℕ). not (eqb (length ns) 0)) (sym (entries_at_lem shape p live))

    module _ (place : ℕ) (lent : List ℕ) where
      pub pass_call : perform w (Call.iterate place lent) ≡ hands_or_short w lent (next place) (ns place)
      unfolding perform given iterate first_filled UndamagedAt
      pass_call =
          ap (kept_scan w)
          (reads_sound w _ _ (shape_sound (undamaged_shape u)) ∙ bucket_handed lent _ place (first_filled w place) (found place))
          ∙ hands_read w lent (next place) (ns place)

      -- demand 2 for the iterators
      pub iterates_out : (perform w (Call.iterate place lent)).reply.number ≡ 0 → IteratesOut perform w place lent
      unfolding IteratesOut
      iterates_out = answered_hands w lent (next place) (ns place) pass_call

-- ---- beside the ideal

-- a test is passed by one of a list just if it keeps any
any_kept : {A : Type 0} (test : A → Bool) (xs : List A) → any test xs ≡ not (eqb (length (keep test xs)) 0)
unfolding any keep
any_kept test [] = refl
any_kept {A} test (x ∷ xs) = by (test x) (any_kept test xs)
  where
    by : (t : Bool) → any test xs ≡ not (eqb (length (keep test xs)) 0)
        → cond t true (any test xs) ≡ not (eqb (length (cond t (x ∷ keep test xs) (keep test xs))) 0)
    by true h = rw eqb-suc-zero
    by false h = h

module _ (l : Lengths) (w : World) (i : Ideal) (u : UndamagedAt w) (m : Matches l w i) where
  -- the ideal has a key at the place of the bucket that it is held in
  held_at : {key value : ℕ} (h : Held w key value) → place_of i key ≡ place_number (tables w) h.table h.index
  unfolding place_of place_in
  held_at {key} {value} h = let e = held_place l w i u m h in let f = m.tables in cc

  module _ (n : ℕ) (before : n < end_place (tables w)) where
    -- and so tells by the place whether it is there; ..
    tells_at : (key value : ℕ) (h : Held w key value)
        → Tells (In (Place.bucket h.table h.index) (only w n)) (is_at i n (pair key value))
    unfolding is_at
    tells_at key value h =
        let size = tables_sizes w.state _ _ _ (world_sound w u) h.table in
        let (t, b, e, _, f) = place_bucket (tables w) n before in
        let there = bucket_place (tables w) h.table h.index (omega (arith, size, h.live)) in
        tells_same
        (λ g. inl (sym there ∙ ap (bucket_at (tables w)) (sym (held_at h) ∙ g)))
        (λ j. ⊎_elim (λ g. let same = g ∙ e in held_at h ∙ cc) (λ k. absurd k) j)
        (tells_eq (place_of i key) n)

    -- .. the pairs of the bucket's entries are those that it has there, ..
    place_due : Due w (bucket_pairs i (some n)) (bucket_entries w (some n))
    unfolding bucket_pairs
    place_due = rw (only_entries w n) (held_due l w i u m (only w n) (only_buckets w u n before) (is_at i n) tells_at)

    -- .. and the bucket is filled just if the ideal has a key there
    filled_held : filled w.state (current w) (other w) n ≡ any (is_at i n) i.plain.pairs
    unfolding bucket_pairs
    filled_held =
        bucket_filled w u n before
        ∙ ap (λ (k : ℕ). not (eqb k 0)) (sym place_due.count)
        ∙ sym (any_kept (is_at i n) i.plain.pairs)

  -- the pairs of what is found are due
  found_due : (test : ℕ → Bool) (place : ℕ) (o : Option ℕ) → Found test place (end_place (tables w)) o
      → Due w (bucket_pairs i o) (bucket_entries w o)
  unfolding Found bucket_pairs bucket_entries keys_of
  found_due test place none f = record { only = λ p j. j; all = λ p j. j; once = tt; count = refl }
  found_due test place (some n) f = place_due n f.before_end

  module _ (place : ℕ) where
    -- the first filled bucket is the first one that the ideal has a key in
    first_same : first_filled w place ≡ first_held i place
    unfolding first_filled first_held
    first_same =
        first_agree _ _ (tables w) place (λ n from before. filled_held n before)
        ∙ ap (λ (t : Tables). first_place (λ n. any (is_at i n) i.plain.pairs) t place) m.tables

    pass_due : Due w (place_pairs i place) (ns w place)
    unfolding place_pairs
    pass_due =
        subst (λ (o : Option ℕ). Due w (bucket_pairs i o) (ns w place)) first_same
        (found_due _ place (first_filled w place) (found w place))

    module _ (lent : List ℕ) where
      predicted : predict l i (Call.iterate place lent)
          ≡ hand_answer i (next w place) (length (place_pairs i place)) (length lent)
      unfolding predict
      predicted = rw (first_same, m.tables)

      pub iterate_predicted : AsPredicted l i (event (Call.iterate place lent) (perform w (Call.iterate place lent)))
      unfolding event
      iterate_predicted =
          due_predicted l i (place_pairs i place) lent _
          (hands_due w (place_pairs i place) (ns w place) pass_due lent l i (Call.iterate place lent)
          (perform w (Call.iterate place lent)) (next w place) (pass_call w u place lent) predicted)
          (λ cursor list c. let z : ◌≡◌ {A = ℕ} 0 1 = cc in absurd (omega arith))
          (λ place' list c. (cc, cc))
