-- Handing out to the front of a list is handing out to the whole of it. A walk call and a pass call hand out at most two numbers
-- for each entry, so that with a front that has room for these the answer is the same, and what lies behind the front stays.
-- Assumes nothing.
use Prim.Native.Nat.{ℕ, ◌*◌, ◌/◌, ◌≤◌, min}
use native.Mathlib.Omega.{arith}
use mathlib.Core.Path.{◌≡◌, refl, sym, ap, ◌∙◌}
use mathlib.Core.Bool.{Bool, true, false, cond}
use mathlib.Core.List.{List, ◌++◌, append_assoc}
use mathlib.Core.Option.{Option, none, some}
use lib.ListN.{length, take, drop, take-append-drop, length-take}
use lib.Seq.{drop-append-le}
use lib.Dec.{leb, eqb}
use borrow.Author.Tests.{leb-true, leb-false, le-leb, lt-leb}
use Rattle.model.specs.declared.State.{State}
use Rattle.model.specs.declared.Table.{Table}
use Rattle.model.specs.declared.Error.{Error}
use Rattle.model.specs.Memory.{keys_held, used_of, Place, budget_at, chain_at, listed}
use Rattle.model.specs.Calls.{sound, oriented, checked, reading}
use Rattle.model.specs.Walk.{AfterScan, at_most, pairs, scanned, tables_of}
use Rattle.model.specs.Walk as walk
use Rattle.model.specs.Iterators.{handed, first_place, filled}
use Rattle.model.specs.Iterators as iterators
use Rattle.model.specs.Sequences.{World, Outcome, kept, kept_scan, given, perform}
use Rattle.model.proofs.Linked.{read_sound}
use Rattle.model.proofs.AtMost.{at_most_some}
use Rattle.model.proofs.Soundness.{Sound, sound_facts}
use Rattle.export_lists.specs.Room.{Listing, list_call}
use Rattle.std.specs.Prelude.{Result, Ok, Err}
use Rattle.model.specs.declared.ScanError.{ScanError}

-- what is left of a front, and the rest of the list behind it
unfoldable followed : List ℕ → AfterScan → AfterScan
followed rest (AfterScan.after answer front) = AfterScan.after answer (front ++ rest)

module _ (m : ℕ) (list : List ℕ) where
  whole : (answer : Result (ℕ × ℕ) ScanError) → followed (drop m list) (AfterScan.after answer (take m list)) ≡ AfterScan.after answer list
  unfolding followed
  whole answer = ap (AfterScan.after answer) (take-append-drop m list)

  -- so many entries at most, and a front with room for their pairs, or for all that the list has room for
  module _ (most : ℕ) (room : min (most * 2) (length list) ≤ m) where
    behind : (n : ℕ) → n ≤ most → n * 2 ≤ length list → drop (n * 2) (take m list) ++ drop m list ≡ drop (n * 2) list
    behind n few fits =
        sym (drop-append-le (n * 2) (take m list) (drop m list) (omega (arith, length-take m list)))
        ∙ ap (drop (n * 2)) (take-append-drop m list)

    scanned_front : (entries : List ℕ) (next : ℕ) (o : Option (List ℕ)) → length (listed o) ≤ most
        → followed (drop m list) (scanned entries (take m list) next o) ≡ scanned entries list next o
    unfolding scanned listed followed
    scanned_front entries next none few = whole (Err (ScanError.Refused Error.Damaged))
    scanned_front entries next (some ns) few = by (leb (length ns * 2) (length list)) refl
      where
        by : (t : Bool) → leb (length ns * 2) (length list) ≡ t
            → followed (drop m list) (scanned entries (take m list) next (some ns))
            ≡ cond t (AfterScan.after (Ok (next, (length ns))) (pairs entries ns ++ drop (length ns * 2) list))
            (AfterScan.after (Err (ScanError.Short (length ns))) list)
        by true h =
            let fits = leb-true (length ns * 2) (length list) h in
            rw (le-leb (length ns * 2) (length (take m list)) (omega (arith, length-take m list)), append_assoc, behind (length ns) few fits)
        by false h =
            let short = leb-false (length ns * 2) (length list) h in
            rw (lt-leb (length ns * 2) (length (take m list)) (omega (arith, length-take m list)))
            (whole (Err (ScanError.Short (length ns))))

-- What is made of a call's answer, in a state that is sound.
reading_alike : {A B : Type 0} (f : A → B) (s : State) (first second entries : List ℕ) (refusal : A) (refusal' : B)
    (call : List ℕ → List ℕ → A) (call' : List ℕ → List ℕ → B) → f refusal ≡ refusal'
    → ((current other : List ℕ) → Sound s (length current) (length other) (length entries) → f (call current other) ≡ call' current other)
    → f (reading s first second entries refusal call) ≡ reading s first second entries refusal' call'
unfolding reading oriented checked
reading_alike f s first second entries refusal refusal' call call' r h = pick s.second_is_current
  where
    tested : (current other : List ℕ) (t : Bool) → sound s current other entries ≡ t
        → f (cond t (call current other) refusal) ≡ cond t (call' current other) refusal'
    tested current other true e = h current other (sound_facts s current other entries e)
    tested current other false e = r

    pick : (flag : Bool) → f (oriented flag (checked s entries (λ current other. refusal) call) first second)
        ≡ oriented flag (checked s entries (λ current other. refusal') call') first second
    pick false = tested first second (sound s first second entries) refl
    pick true = tested second first (sound s second first entries) refl

-- A sound state's chains have no more entries than its capacity.
module _ (s : State) (current other entries : List ℕ) (h : Sound s (length current) (length other) (length entries)) where
  budget_fits : (p : Place) → budget_at s p ≤ s.capacity
  unfolding budget_at used_of keys_held
  budget_fits Place.free = omega arith
  budget_fits (Place.bucket Table.Old b) = omega arith
  budget_fits (Place.bucket Table.New b) = omega arith

  chain_fits : (p : Place) → length (listed (chain_at s current other entries p)) ≤ s.capacity
  unfolding chain_at listed
  chain_fits p = read (chain_at s current other entries p) refl
    where
      read : (o : Option (List ℕ)) → chain_at s current other entries p ≡ o → length (listed o) ≤ s.capacity
      read none e = omega arith
      read (some ns) e =
          let (linked, short, passing) = read_sound _ entries s.capacity (budget_at s p) _ ns e in
          omega (arith, budget_fits p)

  chains_fit : (o : Option (List ℕ)) → length (listed (at_most (keys_held s) o)) ≤ s.capacity
  unfolding keys_held listed
  chains_fit o = read (at_most (keys_held s) o) refl
    where
      read : (p : Option (List ℕ)) → at_most (keys_held s) o ≡ p → length (listed p) ≤ s.capacity
      read none e = omega arith
      read (some ns) e = omega (arith, (at_most_some (keys_held s) o ns e).1)

-- the outcome of a call on a front, and the rest of the list behind it
unfoldable pub longer : List ℕ → Outcome → Outcome
longer rest o =
    record { reply = o.reply; first = o.first; second = o.second; entries = o.entries; lent = o.lent ++ rest }

kept_longer : (w : World) (rest : List ℕ) (a : AfterScan) → longer rest (kept_scan w a) ≡ kept_scan w (followed rest a)
unfolding longer kept_scan kept followed
kept_longer w rest (AfterScan.after answer list) = refl

-- The walk call and the pass call. An entry is three numbers of the entry buffer, and a pair two of the list: so with this room
-- there is room for every pair.

module _ (room m : ℕ) (w : World) (list : List ℕ) (few : length w.entries / 3 * 2 ≤ room) (long : min room (length list) ≤ m) where
  fits : (current other : ℕ) → Sound w.state current other (length w.entries) → min (w.state.capacity * 2) (length list) ≤ m
  fits current other h = omega arith

  scan_front : (cursor : ℕ) → followed (drop m list) (given w walk.scan (take m list) cursor) ≡ given w walk.scan list cursor
  unfolding given walk.scan
  scan_front cursor =
      reading_alike (followed (drop m list)) w.state w.first w.second w.entries _ _ _ _ (whole m list _)
      (λ current other h.
      by (eqb (keys_held w.state) 0) _ _
      (scanned_front m list w.state.capacity (fits _ _ h) w.entries _ _ (chains_fit w.state current other w.entries h _)))
    where
      by : (t : Bool) (a b : AfterScan) → followed (drop m list) a ≡ b
          → followed (drop m list) (cond t (AfterScan.after (Ok (0, 0)) (take m list)) a)
          ≡ cond t (AfterScan.after (Ok (0, 0)) list) b
      by true a b e = whole m list _
      by false a b e = e

  iterate_front : (place : ℕ)
      → followed (drop m list) (given w iterators.iterate (take m list) place) ≡ given w iterators.iterate list place
  unfolding given iterators.iterate handed
  iterate_front place =
      reading_alike (followed (drop m list)) w.state w.first w.second w.entries _ _ _ _ (whole m list _)
      (λ current other h. by current other h (first_place (filled w.state current other) (tables_of w.state) place))
    where
      by : (current other : List ℕ) → Sound w.state (length current) (length other) (length w.entries) → (found : Option ℕ)
          → followed (drop m list) (handed w.state current other w.entries (take m list) found)
          ≡ handed w.state current other w.entries list found
      by current other h none = whole m list _
      by current other h (some n) =
          scanned_front m list w.state.capacity (fits _ _ h) w.entries _ _ (chain_fits w.state current other w.entries h _)

  pub list_front : (call : Listing) → longer (drop m list) (perform w (list_call call (take m list))) ≡ perform w (list_call call list)
  unfolding perform
  list_front (Listing.scan cursor) = kept_longer w (drop m list) _ ∙ ap (kept_scan w) (scan_front cursor)
  list_front (Listing.iterate place) = kept_longer w (drop m list) _ ∙ ap (kept_scan w) (iterate_front place)
