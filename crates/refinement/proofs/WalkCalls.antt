-- A call that hands out, on an undamaged store, beside an ideal that it matches: the number, the values and the pairs handed
-- out are the ideal's, for any entries whose pairs are those that the ideal has due (`hands_due`). So are those of some
-- buckets, with the ideal's test for them (`held_due`); from it `scan_predicted`, for the walk call.
-- Assumes nothing.
use Prim.Native.Nat.{ℕ, ◌*◌}
use mathlib.Core.Path.{◌≡◌, refl, sym, ap, subst₂, ◌∙◌}
use mathlib.Core.Bool.{Bool, true, false, cond}
use mathlib.Core.List.{List, [], ◌∷◌, ◌++◌, map}
use native.Mathlib.Omega.{arith}
use lib.ListN.{length, drop, get_or, length-map}
use lib.Seq.{drop_at}
use Rattle.cursor.specs.Member.{In, Distinct, keep}
use Rattle.model.specs.Memory.{Place, size_of}
use Rattle.model.specs.Answers.{reply}
use Rattle.model.specs.Walk.{Tables, tables_of, group_places, pairs}
use Rattle.model.specs.Sequences.{World, Call, Outcome, kept, perform, Event, event, Pair, keys_of}
use Rattle.model.proofs.Pairs.{length_pairs}
use Rattle.model.proofs.Shared.{in_its_bucket}
use Rattle.model.proofs.Tests.{Tells, told, tested}
use Rattle.refinement.specs.Worlds.{current, other, UndamagedAt, Held}
use Rattle.refinement.specs.Demand2.{group_entries, handing}
use Rattle.refinement.specs.Demand3.{Lengths, Ideal, in_group, group_pairs, place_pairs, hand_answer, predict, pairs_in, handed_out, HandsPairs, AsPredicted, Matches}
use Rattle.model.proofs.Lists.{of_distinct_map, same_length, in_keep, of_keep, distinct_keep}
use Rattle.refinement.proofs.LiveTables.{Buckets, tables_legal, tables_sizes}
use Rattle.refinement.proofs.GroupPlaces.{place_in, size_in_lem, tells_in_group, published}
use Rattle.refinement.proofs.PlainMaps.{pair, value_pair, pair_value}
use Rattle.refinement.proofs.BucketEntries.{pair_of, entries_of, pair_keys_once, of_pairs, in_pairs}
use Rattle.refinement.proofs.GroupEntries.{world_sound, places, next_of, group_buckets, group_entries_lem, enough, is_short, hands_or_short, walk_call}

-- ---- entries whose pairs are due

-- no more and no fewer, no key twice
pub record Due (w : World) (due : List Pair) (ns : List ℕ) : Type 0 where
  pub only : (p : Pair) → In p (map (pair_of w.entries) ns) → In p due
  pub all : (p : Pair) → In p due → In p (map (pair_of w.entries) ns)
  pub once : Distinct (keys_of (map (pair_of w.entries) ns))
  pub count : length due ≡ length ns

module _ (l : Lengths) (w : World) (i : Ideal) (u : UndamagedAt w) (m : Matches l w i) where
  -- the ideal has a key in the bucket that it is held in
  pub held_place : {key value : ℕ} (h : Held w key value)
      → place_in i.tables i.unmoved key ≡ Place.bucket h.table h.index
  unfolding place_in UndamagedAt
  held_place {key} {value} h =
      let home = in_its_bucket w.state (current w) (other w) w.entries h.table h.index h.entry h.there in
      cc (
        m.tables,
        m.each_table key value h,
        size_in_lem i.tables i.unmoved key,
        tables_sizes w.state _ _ _ (world_sound w u) h.table,
      )

  -- those of some buckets, where the ideal has a test for what is held there
  module _ (ps : List Place) (live : Buckets (size_of w.state) ps) (test : Pair → Bool)
      (tells : (key value : ℕ) (h : Held w key value) → Tells (In (Place.bucket h.table h.index) ps) (test (pair key value))) where
    abbrev due : List Pair
    due = keep test i.plain.pairs

    abbrev handed : List Pair
    handed = map (pair_of w.entries) (entries_of w ps)

    only_pairs : (p : Pair) → In p handed → In p due
    only_pairs p j =
        let (h, k) = of_pairs w u ps live p j in
        in_keep test p i.plain.pairs
        (value_pair p.key p.value i.plain.pairs (m.contents.in_map p.key p.value h))
        (tested (tells p.key p.value h) k)

    all_pairs : (p : Pair) → In p due → In p handed
    all_pairs p j =
        let (there, t) = of_keep test p i.plain.pairs j in
        let h = m.contents.in_store p.key p.value (pair_value p i.plain.pairs m.contents.distinct there) in
        in_pairs w u ps live h (told (tells p.key p.value h) t)

    pub held_due : Due w due (entries_of w ps)
    unfolding keys_of
    held_due =
        let once = pair_keys_once w u ps live in
        record {
          only = only_pairs;
          all = all_pairs;
          once = once;
          count =
              same_length due handed
              (distinct_keep test i.plain.pairs (of_distinct_map (λ (p : Pair). p.key) i.plain.pairs m.contents.distinct))
              (of_distinct_map (λ (p : Pair). p.key) handed once)
              all_pairs only_pairs
              ∙ length-map (entries_of w ps) (pair_of w.entries);
        }

-- ---- a call that hands them out

-- it answers as the ideal does, and hands out the pairs due, or leaves the list
pub record AnswersDue (l : Lengths) (i : Ideal) (due : List Pair) (lent : List ℕ) (e : Event) : Type 0 where
  pub number : e.number ≡ (predict l i e.call).number
  pub values : e.values ≡ (predict l i e.call).values
  pub answered : e.number ≡ 0 → HandsPairs due e lent
  pub refused : (e.number ≡ 0 → ⊥) → e.lent ≡ lent

-- what was written as pairs is read as those pairs
pairs_read : (entries ns rest : List ℕ) → pairs_in (length ns) (pairs entries ns ++ rest) ≡ map (pair_of entries) ns
unfolding pairs_in pairs pair_of
pairs_read entries [] rest = refl
pairs_read entries (n ∷ ns) rest = ap (λ (ps : List Pair). pair_of entries n ∷ ps) (pairs_read entries ns rest)

module _ (w : World) (due : List Pair) (ns : List ℕ) (d : Due w due ns) (lent : List ℕ) where
  pairs_handed : (e : Event) → get_or e.values 1 0 ≡ length ns
      → e.lent ≡ pairs w.entries ns ++ drop (length ns * 2) lent → HandsPairs due e lent
  unfolding handed_out
  pairs_handed e count list =
      let read : handed_out e ≡ map (pair_of w.entries) ns =
      rw (count, list) (pairs_read w.entries ns (drop (length ns * 2) lent)) in
      record {
        only = rw read d.only;
        all = rw read d.all;
        none_twice = rw read d.once;
        beyond =
            rw (read, length-map, list)
            (drop_at (pairs w.entries ns) (drop (length ns * 2) lent) (length ns * 2) (length_pairs w.entries ns));
      }

  pub hands_due : (l : Lengths) (i : Ideal) (c : Call) (o : Outcome) (next : ℕ) → o ≡ hands_or_short w lent next ns
      → predict l i c ≡ hand_answer i next (length due) (length lent) → AnswersDue l i due lent (event c o)
  unfolding event hand_answer handing kept reply
  hands_due l i c o next e f = by (enough w lent next ns) e (rw d.count at f)
    where
      by : (t : Bool) → o ≡ cond t (handing w lent next ns) (is_short w lent next ns)
          → predict l i c ≡ cond t (reply 0 (next ∷ length ns ∷ []) i) (reply 9 (0 ∷ length ns ∷ []) i)
          → AnswersDue l i due lent (event c o)
      by true e f =
          record {
            number = cc;
            values = cc;
            answered =
                λ z.
                pairs_handed (event c o) (ap (λ (o : Outcome). get_or o.reply.values 1 0) e) (ap (λ (o : Outcome). o.lent) e);
            refused = λ n. absurd (n (cc));
          }
      by false e f =
          record {
            number = cc;
            values = cc;
            answered = λ z. absurd (omega (arith, ap (λ (o : Outcome). o.reply.number) e));
            refused = λ n. cc;
          }

-- whichever of the two calls it is
pub due_predicted : (l : Lengths) (i : Ideal) (due : List Pair) (lent : List ℕ) (e : Event) → AnswersDue l i due lent e
    → ((cursor : ℕ) (list : List ℕ) → e.call ≡ Call.scan cursor list → (due ≡ group_pairs i cursor) × (lent ≡ list))
    → ((place : ℕ) (list : List ℕ) → e.call ≡ Call.iterate place list → (due ≡ place_pairs i place) × (lent ≡ list))
    → AsPredicted l i e
due_predicted l i due lent e h walk pass =
    record {
      number = h.number;
      values = λ c. h.values;
      answered_walk = λ cursor list c z. handed (walk cursor list c) z;
      refused_walk = λ cursor list c n. h.refused n ∙ (walk cursor list c).1;
      answered_pass = λ place list c z. handed (pass place list c) z;
      refused_pass = λ place list c n. h.refused n ∙ (pass place list c).1;
    }
  where
    handed : {ps : List Pair} {list : List ℕ} → (due ≡ ps) × (lent ≡ list) → e.number ≡ 0 → HandsPairs ps e list
    handed same z =
        subst₂ (λ (ps : List Pair) (list : List ℕ). HandsPairs ps e list) same.0 same.1 (h.answered z)

-- ---- the walk call

module _ (l : Lengths) (w : World) (i : Ideal) (u : UndamagedAt w) (m : Matches l w i) (cursor : ℕ) where
  -- the pairs of the group's entries are due
  group_due : Due w (group_pairs i cursor) (group_entries w cursor)
  unfolding group_pairs
  group_due =
      rw (group_entries_lem w u cursor)
      (held_due l w i u m (places w cursor) (group_buckets w u cursor) (λ (p : Pair). in_group i cursor p.key)
      (λ key value h.
      subst₂ (λ (p : Place) (t : Tables). Tells (In p (group_places t cursor)) (in_group i cursor key))
      (held_place l w i u m h) (sym m.tables) (tells_in_group i cursor key)))

  module _ (lent : List ℕ) where
    predicted : predict l i (Call.scan cursor lent)
        ≡ hand_answer i (next_of w cursor) (length (group_pairs i cursor)) (length lent)
    unfolding predict
    predicted =
        let legal = tables_legal w.state _ _ _ (world_sound w u) in
        rw (m.contents.count, ← m.tables, ← published (tables_of w.state) legal cursor)

    pub scan_predicted : AsPredicted l i (event (Call.scan cursor lent) (perform w (Call.scan cursor lent)))
    unfolding event
    scan_predicted =
        due_predicted l i (group_pairs i cursor) lent _
        (hands_due w (group_pairs i cursor) (group_entries w cursor) group_due lent l i (Call.scan cursor lent)
        (perform w (Call.scan cursor lent)) (next_of w cursor) (walk_call w u cursor lent) predicted)
        (λ cursor' list c. (cc, cc))
        (λ place list c. let z : ◌≡◌ {A = ℕ} 0 1 = cc in absurd (omega arith))
