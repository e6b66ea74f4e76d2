-- A call that hands out some entries, or is short of places for them (`hands_read`, `answered_hands`); and the walk call on an
-- undamaged store. It gives the entries of its group: those held in the group's buckets, no key twice (`group_distinct`); and
-- the call: answered just if the list has two numbers for each (`walk_call`), and then it hands them out (`hands_out`).
-- Assumes nothing.
use Prim.Native.Nat.{ℕ, zero, suc, ◌*◌, ◌≤◌}
use mathlib.Core.Path.{◌≡◌, refl, ap, ◌∙◌}
use mathlib.Core.Bool.{Bool, true, false, cond}
use mathlib.Core.List.{List, [], ◌∷◌, ◌++◌, map}
use mathlib.Core.Option.{some}
use native.Mathlib.Omega.{arith}
use lib.ListN.{length, drop}
use lib.Dec.{leb, eqb, eqb-suc-zero}
use borrow.Author.Tests.{le-leb}
use Rattle.cursor.specs.Member.{Distinct}
use Rattle.model.specs.Memory.{Place, size_of, keys_held, key_of, listed}
use Rattle.model.specs.Answers.{reply, scan_reply}
use Rattle.model.specs.Walk.{tables_of, group, group_places, chains_at, at_most, AfterScan, pairs, scanned, scan}
use Rattle.model.specs.Sequences.{World, Call, Outcome, kept, kept_scan, given, perform}
use Rattle.model.proofs.Soundness.{Sound}
use Rattle.model.proofs.AtMost.{at_most_few}
use Rattle.refinement.specs.Worlds.{current, other, UndamagedAt}
use Rattle.refinement.specs.Demand2.{group_entries, next_cursor, handing, HandsOut}
use Rattle.invariant.proofs.Shape.{shape_sound, facts}
use Rattle.invariant.proofs.FromUndamaged.{undamaged_shape}
use Rattle.refinement.proofs.Orientation.{reads_sound}
use Rattle.refinement.proofs.LiveTables.{Buckets, tables_legal, tables_sizes}
use Rattle.refinement.proofs.GroupPlaces.{group_laws}
use Rattle.refinement.proofs.BucketEntries.{entries_of, read_some, entries_fit, keys_once}
use Rattle.std.specs.Prelude.{Ok, Err}
use Rattle.model.specs.declared.ScanError.{ScanError}

-- ---- a call that hands out some entries, or is short of places for them

module _ (w : World) (lent : List ℕ) (next : ℕ) (ns : List ℕ) where
  -- answered just if the list has two numbers for each
  abbrev pub enough : Bool
  enough = leb (length ns * 2) (length lent)

  abbrev pub is_short : Outcome
  is_short = kept w (reply 9 (0 ∷ length ns ∷ []) w.state) lent

  abbrev pub hands_or_short : Outcome
  hands_or_short = cond enough (handing w lent next ns) is_short

  pub hands_read : kept_scan w (scanned w.entries lent next (some ns)) ≡ hands_or_short
  unfolding scanned kept_scan scan_reply handing
  hands_read = by enough
    where
      by : (t : Bool)
          → kept_scan w
          (cond t
          (AfterScan.after (Ok (next, (length ns))) (pairs w.entries ns ++ drop (length ns * 2) lent))
          (AfterScan.after (Err (ScanError.Short (length ns))) lent))
          ≡ cond t (handing w lent next ns) is_short
      by true = refl
      by false = refl

  -- if it is answered, it hands them out
  pub answered_hands : {o : Outcome} → o ≡ hands_or_short → o.reply.number ≡ 0 → o ≡ handing w lent next ns
  unfolding kept reply
  answered_hands = by enough
    where
      by : {o : Outcome} (t : Bool) → o ≡ cond t (handing w lent next ns) is_short → o.reply.number ≡ 0
          → o ≡ handing w lent next ns
      by true e z = e
      by false e z = absurd (omega (arith, ap (λ (o : Outcome). o.reply.number) e))

-- with none it is answered, whatever the list
pub hands_none : (entries lent : List ℕ) (next : ℕ)
    → AfterScan.after (Ok (next, 0)) lent ≡ scanned entries lent next (some [])
unfolding scanned pairs
hands_none entries lent next = rw (le-leb 0 (length lent) (omega arith))

-- ---- the walk call

-- with no keys held there is nothing to hand out, so that the call hands out the group's entries all the same
held_or_none : (entries lent : List ℕ) (next keys : ℕ) (ns : List ℕ) → length ns ≤ keys
    → cond (eqb keys 0) (AfterScan.after (Ok (0, 0)) lent) (scanned entries lent next (some ns))
    ≡ scanned entries lent (next_cursor keys next) (some ns)
unfolding next_cursor
held_or_none entries lent next zero [] h = hands_none entries lent 0
held_or_none entries lent next zero (n ∷ ns) h = absurd (omega arith)
held_or_none entries lent next (suc keys) ns h = rw eqb-suc-zero

-- the places of a call's group
abbrev pub places : World → ℕ → List Place
places w cursor = group_places (tables_of w.state) cursor

-- the cursor that it answers
abbrev pub next_of : World → ℕ → ℕ
next_of w cursor = next_cursor (keys_held w.state) (group (tables_of w.state) cursor).answered

module _ (w : World) (u : UndamagedAt w) where
  pub world_sound : Sound w.state (length (current w)) (length (other w)) (length w.entries)
  unfolding UndamagedAt
  world_sound = facts (undamaged_shape u)

  module _ (cursor : ℕ) where
    -- the group's places are live buckets, ..
    pub group_buckets : Buckets (size_of w.state) (places w cursor)
    group_buckets =
        let h = (group_laws (tables_of w.state) (tables_legal w.state _ _ _ world_sound)).buckets cursor in
        record {
          each =
              λ p i.
              let (t, b, e, l) = h.each p i in
              (t, b, e, rw (tables_sizes w.state _ _ _ world_sound) at l);
          once = h.once;
        }

    -- .. and it has the entries there
    pub group_entries_lem : group_entries w cursor ≡ entries_of w (places w cursor)
    unfolding group_entries listed
    group_entries_lem = ap listed (read_some w u (places w cursor) group_buckets)

    pub group_distinct : Distinct (map (key_of w.entries) (group_entries w cursor))
    group_distinct = rw group_entries_lem (keys_once w u (places w cursor) group_buckets)

    -- no more entries than the store holds keys, so that no group is damaged by their number
    pub group_fits : length (group_entries w cursor) ≤ keys_held w.state
    unfolding keys_held
    group_fits = rw group_entries_lem (entries_fit w u (places w cursor) group_buckets)

    group_read : at_most (keys_held w.state) (chains_at w.state (current w) (other w) w.entries (places w cursor))
        ≡ some (group_entries w cursor)
    unfolding listed
    group_read =
        rw (read_some w u (places w cursor) group_buckets, ← group_entries_lem)
        (at_most_few (keys_held w.state) (some (group_entries w cursor)) group_fits)

  -- the call: with two numbers for each entry of its group it hands them out
  module _ (cursor : ℕ) (lent : List ℕ) where
    pub walk_call : perform w (Call.scan cursor lent) ≡ hands_or_short w lent (next_of w cursor) (group_entries w cursor)
    unfolding perform given scan UndamagedAt
    walk_call =
        ap (kept_scan w)
        (reads_sound w _ _ (shape_sound (undamaged_shape u))
        ∙ rw (group_read cursor)
        (held_or_none w.entries lent _ (keys_held w.state) (group_entries w cursor) (group_fits cursor)))
        ∙ hands_read w lent (next_of w cursor) (group_entries w cursor)

    -- demand 2 for the walk
    pub hands_out : (perform w (Call.scan cursor lent)).reply.number ≡ 0 → HandsOut perform w cursor lent
    unfolding HandsOut
    hands_out = answered_hands w lent (next_of w cursor) (group_entries w cursor) walk_call
