-- The calls that are lent a list go by the table: a walk call, and one that iterates.
-- Assumes nothing.
use Prim.Native.Nat.{ℕ, suc, ◌*◌, ◌<◌, ◌≤◌}
use mathlib.Core.Path.{◌≡◌, refl, subst}
use mathlib.Core.Bool.{Bool, cond}
use mathlib.Core.List.{List, [], ◌∷◌}
use mathlib.Core.Logic.{inl, inr}
use mathlib.Core.Option.{Option, none, some}
use native.Mathlib.Omega.{arith}
use lib.Dec.{leb}
use lib.ListN.{length}
use Rattle.model.specs.declared.Error.{Error}
use Rattle.model.specs.Answers.{reply, error_number, scan_reply}
use Rattle.model.specs.Memory.{keys_held, chain_at}
use Rattle.model.specs.Walk.{AfterScan, tables_of, group, chains_at, at_most, scanned}
use Rattle.model.specs.Walk as walk
use Rattle.model.specs.Iterators.{handed}
use Rattle.model.specs.Iterators as iterators
use Rattle.model.specs.Sequences.{World, world, Call, Outcome, kept, kept_scan, given, perform, carry}
use Rattle.model.proofs.Tests.{Tells, tells_eq, tells_le}
use Rattle.refinement.specs.Demand1.{ChainAt, SoundChain, Damaged, places, KeysOn, TooMany, GroupDamaged, Short, place_at, FirstFrom, BucketDamaged, KeysFrom, ShortFrom, row, rows, Leaves, LeavesList, LeavesAll}
use Rattle.refinement.specs.Demand2.{first_filled}
use Rattle.refinement.specs.Demand3.{lengths_of}
use Rattle.refinement.proofs.Demand1Tests.{Passes, passes_same, passes_le}
use Rattle.refinement.proofs.Demand1Chains.{AtPlace, place_read, place_chain, place_sound, same_count}
use Rattle.refinement.proofs.Demand1Reads.{Entries, places_say, same_keys, PassMeets, pass_meets, same_from}
use Rattle.refinement.proofs.Demand1Calls.{Refuses, Good, gated, here, read}
use Rattle.std.specs.Prelude.{Result, Ok, Err}
use Rattle.model.specs.declared.ScanError.{ScanError}

module _ (w : World) where
  -- ---- what both answer, by the entries to be handed out

  module _ (c : Call) (due : ℕ → Type 0) (lent : List ℕ) (all : (o : Outcome) → LeavesList w o due lent → LeavesAll w c o) where
    abbrev answer : Result (ℕ × ℕ) ScanError → Outcome
    answer a = kept_scan w (AfterScan.after a lent)

    -- refused with no count
    list_refuses : (e : Error) → ¬ (error_number e ≡ 9) → Refuses w c (error_number e) (answer (Err (ScanError.Refused e)))
    unfolding LeavesList Leaves kept_scan kept scan_reply reply
    list_refuses e f = (refl, all _ (0, record { short = λ n. absurd (f n); else = λ n. refl }, refl))

    -- two numbers of the list for each entry
    handed_good : (short : Type 0) (ns : List ℕ) (next : ℕ) → due (length ns) → Passes short (leb (length ns * 2) (length lent))
        → Good w c (row 9 short ∷ []) (kept_scan w (scanned w.entries lent next (some ns)))
    unfolding row LeavesList Leaves scanned kept_scan kept scan_reply reply carry lengths_of world
    handed_good short ns next keys fits =
        gated (kept_scan w) fits (λ f. Good.answered refl refl)
        (refl, all _ (length ns, record { short = λ e. keys; else = λ g. absurd (g refl) }, refl))

  -- ---- a walk call

  module _ (cursor : ℕ) (lent : List ℕ) where
    abbrev walks : Call
    walks = Call.scan cursor lent

    walk_leaves : (o : Outcome) → LeavesList w o (KeysOn w (places w cursor)) lent → LeavesAll w walks o
    unfolding LeavesAll
    walk_leaves o l = l

    -- two numbers of the list for each key
    passes_short : (ns : List ℕ) → 0 < keys_held w.state → KeysOn w (places w cursor) (length ns)
        → Passes (Short w cursor lent) (leb (length ns * 2) (length lent))
    unfolding Short
    passes_short ns pos keys =
        passes_same (λ h. (pos, length ns, keys, h))
        (λ s. omega (arith, s.3, same_keys w (places w cursor) s.1 (length ns) s.2 keys)) (passes_le _ _)

    pub scan_good : Good w walks (rows w walks) (perform w walks)
    unfolding perform rows row given walk.scan at_most scanned scan_reply reply error_number kept_scan kept carry lengths_of world places Entries GroupDamaged TooMany Short
    scan_good =
        read w (kept_scan w) _ _ (list_refuses walks _ lent walk_leaves Error.BadState (λ e. omega arith))
        (λ h.
        by (here w chains_at (places w cursor)) (places_say w (places w cursor)) (group (tables_of w.state) cursor).answered
        (tells_eq (keys_held w.state) 0))
      where
        damaged : GroupDamaged w cursor
            → Good w walks (row 2 (GroupDamaged w cursor) ∷ row 9 (Short w cursor lent) ∷ [])
            (kept_scan w (AfterScan.after (Err (ScanError.Refused Error.Damaged)) lent))
        damaged d = Good.refused d (list_refuses walks _ lent walk_leaves Error.Damaged (λ e. omega arith))

        -- sound chains: no more entries than keys held
        summed : (ns : List ℕ) → ¬ Damaged w (places w cursor) → KeysOn w (places w cursor) (length ns) → (next : ℕ)
            → 0 < keys_held w.state → {t : Bool} → Tells (length ns ≤ keys_held w.state) t
            → Good w walks (row 2 (GroupDamaged w cursor) ∷ row 9 (Short w cursor lent) ∷ [])
            (kept_scan w (scanned w.entries lent next (cond t (some ns) none)))
        summed ns sound keys next pos (Tells.holds few) =
            Good.past
            (λ (d : GroupDamaged w cursor).
            elim d.1 [
              | inl u ↦ sound u
              | inr (n, k, many) ↦ omega (arith, same_keys w (places w cursor) n (length ns) k keys)
            ])
            (handed_good walks _ lent walk_leaves (Short w cursor lent) ns next keys (passes_short ns pos keys))
        summed ns sound keys next pos (Tells.fails many) = damaged (pos, inr (length ns, keys, omega arith))

        by : (o : Option (List ℕ)) → Entries w (places w cursor) o → (next : ℕ) {t : Bool} → Tells (keys_held w.state ≡ 0) t
            → Good w walks (row 2 (GroupDamaged w cursor) ∷ row 9 (Short w cursor lent) ∷ [])
            (kept_scan w
            (cond t (AfterScan.after (Ok (0, 0)) lent) (scanned w.entries lent next (at_most (keys_held w.state) o))))
        by o h next (Tells.holds e) =
            Good.past (λ (d : GroupDamaged w cursor). omega (arith, d.0))
            (Good.past (λ (d : Short w cursor lent). omega (arith, d.0)) (Good.answered refl refl))
        by none d next (Tells.fails f) = damaged (omega arith, inl d)
        by (some ns) h next (Tells.fails f) =
            let (sound, keys) = h in
            summed ns sound keys next (omega arith) (tells_le (length ns) (keys_held w.state))

  -- ---- a call that iterates

  module _ (place : ℕ) (lent : List ℕ) where
    abbrev iterates : Call
    iterates = Call.iterate place lent

    iterate_leaves : (o : Outcome) → LeavesList w o (KeysFrom w place) lent → LeavesAll w iterates o
    unfolding LeavesAll
    iterate_leaves o l = l

    -- what it finds in the first filled bucket
    module _ (n : ℕ) (first : FirstFrom w place n) where
      -- the first one is this one
      there : (m : ℕ) (P : ℕ → Type 0) → FirstFrom w place m → P m → P n
      there m P f p = subst P (same_from w place m n f first) p

      passes_list : (ns : List ℕ) → ChainAt w (place_at w n) (length ns)
          → Passes (ShortFrom w place lent) (leb (length ns * 2) (length lent))
      unfolding ShortFrom KeysFrom
      passes_list ns chain =
          passes_same (λ h. (length ns, (n, first, chain), h))
          (λ s.
          let (count, (m, f, c), l) = s in
          let here = there m (λ (k : ℕ). ChainAt w (place_at w k) count) f c in
          omega (arith, same_count w (place_at w n) count (length ns) here chain))
          (passes_le _ _)

      bucket_good : (o : Option (List ℕ)) → AtPlace w (place_at w n) o
          → Good w iterates (row 2 (BucketDamaged w place) ∷ row 9 (ShortFrom w place lent) ∷ [])
          (kept_scan w (scanned w.entries lent (suc n) o))
      unfolding row scanned AtPlace BucketDamaged KeysFrom error_number
      bucket_good none unsound =
          let damaged : BucketDamaged w place = (n, first, unsound) in
          Good.refused damaged (list_refuses iterates _ lent iterate_leaves Error.Damaged (λ e. omega arith))
      bucket_good (some ns) r =
          let chain = place_chain w (place_at w n) ns r in
          Good.past
          (λ (d : BucketDamaged w place).
          let (m, f, unsound) = d in
          there m (λ (k : ℕ). ¬ SoundChain w (place_at w k)) f unsound (place_sound w (place_at w n) ns r))
          (handed_good iterates _ lent iterate_leaves (ShortFrom w place lent) ns (suc n) (n, first, chain)
          (passes_list ns chain))

    pub iterate_good : Good w iterates (rows w iterates) (perform w iterates)
    unfolding perform rows row given iterators.iterate handed error_number kept_scan scan_reply reply kept carry lengths_of world first_filled place_at PassMeets BucketDamaged KeysFrom ShortFrom
    iterate_good =
        read w (kept_scan w) _ _ (list_refuses iterates _ lent iterate_leaves Error.BadState (λ e. omega arith))
        (λ h. by (first_filled w place) (pass_meets w place))
      where
        by : (o : Option ℕ) → PassMeets w place o
            → Good w iterates (row 2 (BucketDamaged w place) ∷ row 9 (ShortFrom w place lent) ∷ [])
            (kept_scan w (here w handed lent o))
        by none nowhere =
            Good.past (λ (d : BucketDamaged w place). nowhere d.0 d.1)
            (Good.past (λ (d : ShortFrom w place lent). nowhere d.1.0 d.1.1) (Good.answered refl refl))
        by (some n) first = bucket_good n first (here w chain_at (place_at w n)) (place_read w (place_at w n))
