-- What is handed out: the search in the live tables is that of the definitions, over the places of both.
-- Assumes nothing.
use Prim.Native.Nat.{ℕ, ◌+◌, ◌-◌, ◌<◌}
use mathlib.Core.Path.{◌≡◌, refl, sym, ap, ◌∙◌}
use mathlib.Core.Bool.{Bool, true, false}
use mathlib.Core.List.{List}
use mathlib.Core.Option as maybe
use native.Mathlib.Numerals.{add-one}
use native.Mathlib.Omega.{arith}
use lib.ListN.{length}
use lib.Pow.{pow_mono}
use borrow.Author.Tests.{lt-ltb, le-ltb}
use mir.Syntax.{w32}
use mir.Val.{Fits}
use Rattle.std.specs.Prelude.{Some, None, Ok}
use Rattle.model.specs.declared.State.{State}
use Rattle.model.specs.declared.Table.{Table}
use Rattle.model.specs.Limits.{legal_size, largest_exponent}
use Rattle.model.specs.Memory.{size_of, buckets_of, Place, head_at, chain_at}
use Rattle.model.specs.Walk.{Tables, tables_by, tables_of, AfterScan, scanned}
use Rattle.model.specs.Iterators.{bucket_at, end_place, first_from, first_place, filled, handed, iterate}
use Rattle.model.proofs.Power.{power_of}
use Rattle.model.proofs.FirstPlace.{first_agree}
use Rattle.memory.specs.Lent.{sound_lent}
use Rattle.memory.proofs.Orientation.{reading_sound}
use Rattle.scan_group.specs.declared.lent.LiveTable.{LiveTable}
use Rattle.scan_group.specs.declared.lent.LiveChain.{LiveChain}
use Rattle.scan_group.specs.declared.lent.Lent.{Lent}
use Rattle.scan_group.specs.Chains.{chain_from}
use Rattle.scan_group.specs.Lent.{IsChain, IsNew, Reads}
use Rattle.scan_group.proofs.Chains.{chain_is}
use Rattle.scan_group.proofs.Places.{current_of, other_of, oriented_call, place_chain, old_lent, new_lent}
use Rattle.iterator.specs.Tables.{filled_in, first_filled}
use Rattle.iterator.proofs.Searching.{or_else, first_shifted, first_tables}

-- The places: those of the old table, or the only one, then those of the new one.

bucket_at_old : (rehashing : Bool) (old new b : ℕ) → b < old → bucket_at (tables_by rehashing old new) b ≡ Place.bucket Table.Old b
unfolding tables_by bucket_at
bucket_at_old true old new b l = rw (lt-ltb b old l)
bucket_at_old false old new b l = refl

module _ (s : State) (current other entries list : List ℕ) (place : ℕ) where
  wanted : AfterScan
  wanted = handed s current other entries list (first_place (filled s current other) (tables_of s) place)

  old_at : (b : ℕ) → b < s.old_size → bucket_at (tables_of s) b ≡ Place.bucket Table.Old b
  unfolding tables_of
  old_at b l = bucket_at_old s.rehashing s.old_size s.new_size b l

  in_old : first_from (filled s current other) place (s.old_size - place) ≡ first_filled current place s.old_size
  unfolding first_filled first_place end_place filled filled_in head_at buckets_of
  in_old =
      first_agree (filled s current other) (filled_in current) (Tables.one s.old_size) place (λ b from l. rw (old_at b l))

  -- with one table

  module _ (e : s.rehashing ≡ false) where
    one_table : tables_of s ≡ Tables.one s.old_size
    unfolding tables_of tables_by
    one_table = ap (λ (t : Bool). tables_by t s.old_size s.new_size) e

    in_one : first_place (filled s current other) (tables_of s) place ≡ first_filled current place s.old_size
    unfolding first_place end_place
    in_one = ap (λ t. first_from (filled s current other) place (end_place t - place)) one_table ∙ in_old

    only_end : first_filled current place s.old_size ≡ maybe.none → AfterScan.after (Ok (s.old_size, 0)) list ≡ wanted
    unfolding wanted handed end_place
    only_end n = rw (in_one, n, one_table)

  -- .. and with two

  module _ (e : s.rehashing ≡ true) where
    two_tables_lem : tables_of s ≡ Tables.two s.old_size s.new_size
    unfolding tables_of tables_by
    two_tables_lem = ap (λ (t : Bool). tables_by t s.old_size s.new_size) e

    new_at : (b : ℕ) → bucket_at (tables_of s) (s.old_size + b) ≡ Place.bucket Table.New b
    unfolding bucket_at
    new_at b =
        rw (two_tables_lem, le-ltb (s.old_size + b) s.old_size (omega arith)) (ap (Place.bucket Table.New) (omega arith))

    filled_new : (b : ℕ) → filled s current other (s.old_size + b) ≡ filled_in other b
    unfolding filled filled_in head_at buckets_of
    filled_new b = rw (new_at b)

    in_both : first_place (filled s current other) (tables_of s) place
        ≡ or_else (first_filled current place s.old_size)
        (maybe.map (λ b. s.old_size + b) (first_filled other (place - s.old_size) s.new_size))
    unfolding first_place end_place first_filled
    in_both =
        ap (λ t. first_from (filled s current other) place (end_place t - place)) two_tables_lem
        ∙ first_tables (filled s current other) place s.old_size s.new_size
        ∙ ap (λ o. or_else o (first_from (filled s current other) (s.old_size + (place - s.old_size)) (s.new_size - (place - s.old_size)))) in_old
        ∙ ap (or_else (first_filled current place s.old_size)) (first_shifted _ _ s.old_size _ _ filled_new)

    module _ (n : first_filled current place s.old_size ≡ maybe.none) where
      new_found : (b : ℕ) → first_filled other (place - s.old_size) s.new_size ≡ maybe.some b
          → scanned entries list (s.old_size + b + 1) (chain_at s current other entries (Place.bucket Table.New b)) ≡ wanted
      unfolding wanted handed or_else
      new_found b f = rw (in_both, n, f, new_at b, add-one)

      both_end : first_filled other (place - s.old_size) s.new_size ≡ maybe.none
          → AfterScan.after (Ok (s.old_size + s.new_size, 0)) list ≡ wanted
      unfolding wanted handed or_else end_place
      both_end f = rw (in_both, n, f, two_tables_lem)

  old_found : (b : ℕ) → b < s.old_size → first_filled current place s.old_size ≡ maybe.some b
      → scanned entries list (b + 1) (chain_at s current other entries (Place.bucket Table.Old b)) ≡ wanted
  unfolding wanted handed or_else
  old_found b l f = pick s.rehashing refl
    where
      pick : (rehashing : Bool) → s.rehashing ≡ rehashing
          → scanned entries list (b + 1) (chain_at s current other entries (Place.bucket Table.Old b)) ≡ wanted
      pick true e = rw (in_both e, f, old_at b l, add-one)
      pick false e = rw (in_one e, f, old_at b l, add-one)

-- two tables have few enough places
pub places_fit : (t u : LiveTable) → Fits w32 (t.size + u.size)
unfolding legal_size largest_exponent
places_fit t u =
    let p = power_of largest_exponent t.size t.legal in
    let q = power_of largest_exponent u.size u.legal in
    omega (arith, pow_mono p.1, pow_mono q.1)

-- The call on the lent buffers.

module _ (s : State) (first second entries list : List ℕ) (place : ℕ)
    (h : sound_lent (length first) (length second) (length entries) s ≡ true) (l : Lent) (k : Reads s first second entries l)
    (a : AfterScan) where
  answered : a ≡ wanted s (current_of s first second) (other_of s first second) entries list place
      → a ≡ iterate s first second entries list place
  unfolding iterate wanted
  answered e = e ∙ reading_sound s first second entries true (sym h) _ _ _ refl (oriented_call s _ first second)

  -- out of the old table
  pub from_old : (b : ℕ) (c : LiveChain)
      → (first_filled l.old.buckets.now place l.old.size ≡ maybe.some b) × (b < l.old.size)
      → IsChain l.old b c → a ≡ scanned l.entries.fields.now list (b + 1) (chain_from l.entries c b)
      → a ≡ iterate s first second entries list place
  unfolding size_of buckets_of
  from_old b c f h e =
      let i = old_lent s first second entries l k in
      let found : first_filled (current_of s first second) place s.old_size ≡ maybe.some b =
      rw (i.table_is.buckets_are, i.table_is.size_is) at f.0 in
      let inside : b < s.old_size = rw i.table_is.size_is at f.1 in
      answered
      (e
      ∙ rw (chain_is l.entries l.old b c h, place_chain s _ _ entries Table.Old l.entries l.old i b, i.fields_are)
      (old_found s (current_of s first second) (other_of s first second) entries list place b inside found))

  module _ (n : first_filled l.old.buckets.now place l.old.size ≡ maybe.none) where
    none_in_old : first_filled (current_of s first second) place s.old_size ≡ maybe.none
    unfolding size_of buckets_of
    none_in_old =
        let i = old_lent s first second entries l k in
        rw (i.table_is.buckets_are, i.table_is.size_is) at n

    pub end_of_one : l.new ≡ None → a ≡ AfterScan.after (Ok (l.old.size, 0)) list → a ≡ iterate s first second entries list place
    end_of_one o e =
        answered
        (e
        ∙ rw k.old_is.size_is
        (only_end s (current_of s first second) (other_of s first second) entries list place (rw o at k.new_is) none_in_old))

    module _ (t : LiveTable) (o : l.new ≡ Some t) (from : ℕ) (m : from ≡ place - l.old.size) where
      new : IsNew s (other_of s first second) t
      new = rw o at k.new_is

      from_is : from ≡ place - s.old_size
      from_is = rw k.old_is.size_is at m

      -- out of the new one
      pub from_new : (b : ℕ) (c : LiveChain) → (first_filled t.buckets.now from t.size ≡ maybe.some b) × (b < t.size)
          → IsChain t b c → a ≡ scanned l.entries.fields.now list (l.old.size + b + 1) (chain_from l.entries c b)
          → a ≡ iterate s first second entries list place
      from_new b c f h e =
          let i = new_lent s first second entries l k t o in
          answered
          (e
          ∙ rw (chain_is l.entries t b c h, place_chain s _ _ entries Table.New l.entries t i b, i.fields_are, k.old_is.size_is)
          (new_found s (current_of s first second) (other_of s first second) entries list place new.rehashing none_in_old b
          (rw (new.is_table.buckets_are, new.is_table.size_is, from_is) at f.0)))

      pub end_of_both : first_filled t.buckets.now from t.size ≡ maybe.none
          → a ≡ AfterScan.after (Ok (l.old.size + t.size, 0)) list → a ≡ iterate s first second entries list place
      end_of_both f e =
          answered
          (e
          ∙ rw (k.old_is.size_is, new.is_table.size_is)
          (both_end s (current_of s first second) (other_of s first second) entries list place new.rehashing none_in_old
          (rw (new.is_table.buckets_are, new.is_table.size_is, from_is) at f)))
