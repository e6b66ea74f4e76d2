-- Whether a key is held once a step was taken, told from what is read before it: by the tables that the step leaves, and
-- then by the chains as they are.
-- Assumes nothing.
use Prim.Native.Nat.{ℕ, suc, ◌+◌, ◌*◌, ◌-◌, ◌<◌, ◌≤◌}
use mathlib.Core.Path.{◌≡◌, refl, sym, ap, ap₂, ◌∙◌}
use mathlib.Core.Logic.{◌≢◌}
use mathlib.Core.Bool.{Bool, true, false, cond, not, ◌||◌}
use mathlib.Core.List.{List, []}
use mathlib.Core.Option.{Option, none, some}
use native.Mathlib.Omega.{arith}
use lib.ListN.{length, get_or, set}
use lib.Dec.{eqb}
use borrow.Author.Tests.{eqb-true, eqb-false, eq-eqb, ne_eqb}
use Rattle.model.specs.declared.State.{State}
use Rattle.model.specs.declared.Table.{Table}
use Rattle.model.specs.declared.Error.{Error}
use Rattle.model.specs.Keys.{bucket_of}
use Rattle.model.specs.Limits.{legal_size, largest_exponent}
use Rattle.model.specs.Memory.{size_of, in_bucket, last_or}
use Rattle.model.specs.Calls.{After, back, state_of, old_new, retabled, moved, advanced, finished, settled, step_done, moved_chain, both, lookup}
use Rattle.model.proofs.Power.{legal_pos}
use Rattle.model.proofs.Linked.{read_sound, linked_filled}
use Rattle.memory.specs.Length.{bucket_chain}
use Rattle.memory.proofs.Orientation.{read_first, read_second}
use Rattle.search.specs.Tables.{searched_in, lookup_lent}
use Rattle.search.proofs.Lookups.{lookup_resting, lookup_rehashing}
use Rattle.dict_rehash.specs.MovedChains.{chains}
use Rattle.after_step.specs.Presence.{presence, presence_after, presence_then}
use Rattle.after_step.specs.Told.{of_bucket, how_many, has, either, new_then, old_then, tables_then, Moves}
use Rattle.model.proofs.Moved.{moved_key}
use Rattle.after_step.proofs.Stacking.{stacked}
use Rattle.after_step.proofs.ChainsAfter.{unless_last, old_chain_kept, old_chain_emptied, new_chain_after}
use Rattle.after_step.proofs.Presences.{seen, seen_kept, presence_both, presence_in, has_stacked}
use Rattle.std.specs.Prelude.{Result, Ok, Err}

-- ---- on the current and the other buffer, by the flag of the state before the step

module _ (key : ℕ) (current other entries : List ℕ) where
  pub then_refused : (second : Bool) (e : Error)
      → presence_then key second (After.after (Err e) current other entries) ≡ (Err Error.Damaged)
  unfolding presence_then presence_after back
  then_refused false e = refl
  then_refused true e = refl

  module _ (count : ℕ) (t : State) where
    -- the rehash goes on: the buffers keep their parts
    then_on : (second : Bool) → t.second_is_current ≡ second
        → presence_then key second (After.after (Ok (count, t)) current other entries)
        ≡ presence (lookup t current other entries key)
    unfolding presence_then presence_after back lookup_lent
    then_on false f = sym (ap presence (read_first _ (λ x y. lookup t x y entries key) current other _ f refl))
    then_on true f = sym (ap presence (read_second _ (λ x y. lookup t x y entries key) other current _ f refl))

    -- it is over: they change parts
    then_over : (second : Bool) → t.second_is_current ≡ not second
        → presence_then key second (After.after (Ok (count, t)) current other entries)
        ≡ presence (lookup t other current entries key)
    unfolding presence_then presence_after back lookup_lent
    then_over false f = sym (ap presence (read_second _ (λ x y. lookup t x y entries key) current other _ f refl))
    then_over true f = sym (ap presence (read_first _ (λ x y. lookup t x y entries key) other current _ f refl))

-- so many keys have moved: the old table has the rest, unless there is none, and then it is gone
pub then_done : (s : State) (count next key : ℕ) (current other entries : List ℕ)
    → presence_then key s.second_is_current (After.after (step_done s count next) current other entries)
    ≡ either
    (cond (eqb (s.old_used - count) 0) (Ok false)
    (presence (searched_in entries s.capacity (s.old_used - count) current s.old_size key Table.Old)))
    (presence (searched_in entries s.capacity (s.new_used + count) other s.new_size key Table.New))
unfolding step_done settled finished advanced retabled state_of old_new size_of
then_done s count next key current other entries = by (eqb (s.old_used - count) 0)
  where
    t : State
    t = advanced s count next

    old : Result Bool Error
    old = presence (searched_in entries s.capacity (s.old_used - count) current s.old_size key Table.Old)

    new : Table → Result Bool Error
    new u = presence (searched_in entries s.capacity (s.new_used + count) other s.new_size key u)

    by : (over : Bool)
        → presence_then key s.second_is_current
        (After.after (Ok (count, (cond over (finished (advanced s count next)) (advanced s count next)))) current other entries)
        ≡ either (cond over (Ok false) old) (new Table.New)
    by true =
        then_over key current other entries count (finished t) s.second_is_current refl
        ∙ ap presence (sym (lookup_resting (finished t) other current entries key refl))
        ∙ presence_in entries key s.capacity (s.new_used + count) other s.new_size Table.Old
        ∙ sym (presence_in entries key s.capacity (s.new_used + count) other s.new_size Table.New)
    by false =
        then_on key current other entries count t s.second_is_current refl
        ∙ ap presence (sym (lookup_rehashing t current other entries key refl))
        ∙ presence_both _ _

-- ---- a chain has moved: ns, that of bucket b of the old table

module _ (old new capacity used b : ℕ) (current other entries ns : List ℕ)
    (read : bucket_chain old entries capacity used current b ≡ some ns) (key : ℕ) where
  abbrev entries' : List ℕ
  entries' = (moved new ns (chains other entries)).entries

  -- keys are kept, so a chain after the move may be searched in the memory before it
  told : (used' : ℕ) (buckets : List ℕ) (size : ℕ) (t : Table) (o : Option (List ℕ))
      → bucket_chain size entries' capacity used' buckets (bucket_of key size) ≡ o
      → presence (searched_in entries' capacity used' buckets size key t) ≡ seen entries key o
  told used' buckets size t o e =
      presence_in entries' key capacity used' buckets size t
      ∙ ap (seen entries' key) e
      ∙ seen_kept entries entries' (moved_key new ns (chains other entries)) key o

  -- the old table's chain, with so many keys left
  pub old_after : (left : ℕ)
      → cond (eqb left 0) (Ok false)
      (presence (searched_in (moved new ns (chains other entries)).entries capacity left (set current b 0) old key Table.Old))
      ≡ old_then entries capacity left current old b key
  unfolding old_then in_bucket seen has
  old_after left = by (eqb left 0) (in_bucket old b key) refl
    where
      by : (gone t : Bool) → in_bucket old b key ≡ t
          → cond gone (Ok false) (presence (searched_in entries' capacity left (set current b 0) old key Table.Old))
          ≡ cond (gone || t) (Ok false) (presence (searched_in entries capacity left current old key Table.Old))
      by true t e = refl
      by false true e =
          told left (set current b 0) old Table.Old (some [])
          (ap (bucket_chain old entries' capacity left (set current b 0)) (eqb-true (bucket_of key old) b e)
          ∙ old_chain_emptied old capacity left b current entries')
      by false false e =
          told left (set current b 0) old Table.Old (bucket_chain old entries capacity left current (bucket_of key old))
          (old_chain_kept old new capacity used left (bucket_of key old) b ns current other entries read
          (eqb-false (bucket_of key old) b e))
          ∙ sym (presence_in entries key capacity left current old Table.Old)

  -- the new table's
  pub new_after : 0 < new → new ≤ length other → capacity * 3 ≤ length entries → ns ≢ [] → (budget whole : ℕ)
      → budget + how_many (of_bucket new (bucket_of key new) entries) ns ≡ whole
      → presence
      (searched_in (moved new ns (chains other entries)).entries capacity whole
      (moved new ns (chains other entries)).buckets new key Table.New)
      ≡ new_then entries key (last_or 0 ns) (has entries key ns) (bucket_chain new entries capacity budget other (bucket_of key new))
  unfolding seen unless_last new_then
  new_after filled fits room some_move budget whole counts =
      told whole _ new Table.New (unless_last (last_or 0 ns) all before)
      (new_chain_after new (bucket_of key new) capacity filled other entries fits room (in_bucket old b) used (get_or current b 0) ns read
      some_move budget whole counts)
      ∙ by before
    where
      before : Option (List ℕ)
      before = bucket_chain new entries capacity budget other (bucket_of key new)

      all : List ℕ → List ℕ
      all ms = stacked (of_bucket new (bucket_of key new) entries) ns ms

      ends : (ms : List ℕ) (t : Bool)
          → seen entries key (cond t none (some (all ms))) ≡ cond t (Err Error.Damaged) (Ok (has entries key ns || has entries key ms))
      ends ms true = refl
      ends ms false = ap Ok (has_stacked entries key new ns ms)

      by : (o : Option (List ℕ))
          → seen entries key (unless_last (last_or 0 ns) all o) ≡ new_then entries key (last_or 0 ns) (has entries key ns) o
      by none = refl
      by (some ms) = ends ms (eqb (last_or 0 ms) (last_or 0 ns))

-- ---- the whole step

legal_some : (n : ℕ) → legal_size n ≡ true → 0 < n
unfolding legal_size
legal_some n h = legal_pos largest_exponent n h

module _ (s : State) (key : ℕ) (current other entries : List ℕ) where
  abbrev in_tables : Bool → ℕ → ℕ → Result Bool Error
  in_tables gone left more =
      either (cond gone (Ok false) (presence (searched_in entries s.capacity left current s.old_size key Table.Old)))
      (presence (searched_in entries s.capacity more other s.new_size key Table.New))

  -- no key moves ..
  none_moved : (next : ℕ) (gone : Bool) → eqb s.old_used 0 ≡ gone
      → presence_then key s.second_is_current (After.after (step_done s 0 next) current other entries)
      ≡ in_tables gone s.old_used s.new_used
  none_moved next gone e =
      let left : s.old_used - 0 ≡ s.old_used = omega arith in
      let more : s.new_used + 0 ≡ s.new_used = omega arith in
      then_done s 0 next key current other entries
      ∙ ap₂ (λ (l m : ℕ). in_tables (eqb l 0) l m) left more
      ∙ ap (λ (g : Bool). in_tables g s.old_used s.new_used) e

  -- .. and the rehash goes on
  pub then_still : 0 < s.old_used → (next : ℕ)
      → presence_then key s.second_is_current (After.after (step_done s 0 next) current other entries)
      ≡ presence
      (both (searched_in entries s.capacity s.old_used current s.old_size key Table.Old)
      (searched_in entries s.capacity s.new_used other s.new_size key Table.New))
  then_still some_left next = none_moved next false (ne_eqb s.old_used 0 (λ e. omega arith)) ∙ sym (presence_both _ _)

  -- .. or none is left to move, and it ends
  pub then_ended : s.old_used ≡ 0 → (next : ℕ) (t : Table)
      → presence_then key s.second_is_current (After.after (step_done s 0 next) current other entries)
      ≡ presence (searched_in entries s.capacity s.new_used other s.new_size key t)
  then_ended none_left next t =
      none_moved next true (eq-eqb s.old_used 0 none_left)
      ∙ presence_in entries key s.capacity s.new_used other s.new_size Table.New
      ∙ sym (presence_in entries key s.capacity s.new_used other s.new_size t)

  -- the chain of bucket b moves
  pub then_moved : (b : ℕ) → Moves s current other entries b → (ns : List ℕ)
      → bucket_chain s.old_size entries s.capacity s.old_used current b ≡ some ns → (budget : ℕ)
      → budget + how_many (of_bucket s.new_size (bucket_of key s.new_size) entries) ns ≡ s.new_used + length ns
      → presence_then key s.second_is_current (moved_chain s current other entries b (some ns))
      ≡ tables_then s current other entries b key (s.old_used - length ns) budget (last_or 0 ns) (has entries key ns)
  unfolding moved_chain tables_then
  then_moved b moves ns read budget counts =
      let h = moves.sound.rehashing moves.rehashing in
      let linked = (read_sound _ entries s.capacity s.old_used (get_or current b 0) ns read).0 in
      let filled = linked_filled entries s.capacity (get_or current b 0) ns linked (λ e. omega (arith, moves.filled)) in
      then_done s (length ns) (suc b) key (set current b 0) _ _
      ∙ ap₂ either (old_after s.old_size s.new_size s.capacity s.old_used b current other entries ns read key _)
      (new_after s.old_size s.new_size s.capacity s.old_used b current other entries ns read key
      (legal_some s.new_size h.new_legal) h.new_fits moves.sound.entries_fit filled budget _ counts)
