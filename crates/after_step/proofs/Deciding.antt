-- What the code's parts come to: a survey, what search found, and what comes from the next bucket on.
-- Assumes nothing.
use Prim.Native.Nat.{ℕ, ◌+◌, ◌-◌, ◌<◌, ◌≤◌}
use mathlib.Core.Path.{◌≡◌, refl, sym, ap, ap₂, subst, ◌∙◌}
use mathlib.Core.Bool.{Bool, true, false, cond, ◌||◌}
use mathlib.Core.List.{List}
use mathlib.Core.Option.{Option, none, some}
use native.Mathlib.Omega.{arith}
use lib.ListN.{length, get_or}
use lib.Dec.{eqb}
use mir.Syntax.{w32}
use mir.Val.{Fits}
use borrow.Author.Tests.{eq-eqb, ne_eqb}
use Rattle.model.specs.declared.State.{State}
use Rattle.model.specs.declared.Table.{Table}
use Rattle.model.specs.declared.Error.{Error}
use Rattle.model.specs.declared.Ahead.{Ahead}
use Rattle.model.specs.Keys.{bucket_of}
use Rattle.model.specs.Memory.{in_bucket, last_or}
use Rattle.model.specs.Calls.{both, ahead, moved_chain, moved_from, step_taken}
use Rattle.model.proofs.Linked.{read_sound}
use Rattle.model.proofs.StepAhead.{Comes, ahead_comes}
use Rattle.memory.specs.Length.{bucket_chain}
use Rattle.search.specs.Found.{Found, found_of}
use Rattle.search.specs.Tables.{searched_in}
use Rattle.dict_rehash.specs.MovedChains.{old_chain}
use Rattle.after_step.specs.declared.presence.Survey.{Survey}
use Rattle.after_step.specs.Presence.{presence, presence_then}
use Rattle.after_step.specs.Told.{of_bucket, how_many, has, among, surveyed, found_presence, either, new_then, old_then, tables_then, Moves}
use Rattle.after_step.proofs.Presences.{presence_found}
use Rattle.after_step.proofs.PresenceAfter.{then_refused, then_still, then_ended, then_moved}
use Rattle.after_step.proofs.Surveying.{how_many_fits, surveyed_none, surveyed_some}
use Rattle.std.specs.Prelude.{Result, Ok, Err}
use Rattle.std.specs.Result.{IsErrAnd}
use Rattle.std.proofs.lemmas.Result.{err_from_is_err_and}

-- ---- the exit of a `?`

pub exit_is : {A : Type 0} (r : Result A Error) (x : Error) → IsErrAnd r (λ e. e ≡ x) → r ≡ Err x
exit_is r x h = let p = err_from_is_err_and r h in rw (p.1, p.2)

-- ---- in the new table

module _ (entries : List ℕ) (capacity budget : ℕ) (buckets : List ℕ) (size key last : ℕ) (moves : Bool) (b : ℕ)
    (at : b ≡ bucket_of key size) (n : ℕ) where
  abbrev meant : Result Bool Error
  meant = new_then entries key last moves (bucket_chain size entries capacity budget buckets (bucket_of key size))

  -- from the chain that was read
  by_read : (o : Option (List ℕ)) → bucket_chain size entries capacity budget buckets b ≡ o → new_then entries key last moves o ≡ meant
  by_read o f = rw (← f, at)

  pub new_unsound : (r : Result Bool Error) (x : Error) → IsErrAnd r (λ e. e ≡ x)
      → Err x ≡ surveyed entries size b key n (bucket_chain size entries capacity budget buckets b)
      → r ≡ new_then entries key last moves (bucket_chain size entries capacity budget buckets (bucket_of key size))
  unfolding new_then
  new_unsound r x h e =
      let (no_chain, damaged) = surveyed_none entries size b key n x (bucket_chain size entries capacity budget buckets b) e in
      exit_is r x h ∙ ap Err damaged ∙ by_read none no_chain

  module _ (v : Survey) (e : Ok v ≡ surveyed entries size b key n (bucket_chain size entries capacity budget buckets b)) where
    ends : (t : Bool) → eqb v.last last ≡ t → cond t (Err Error.Damaged) (Ok (moves || v.held)) ≡ meant
    unfolding new_then
    ends t f =
        let (ns, read, c, l, m, h, t) = surveyed_some entries size b key n v _ e in
        (rw (← l, ← h, f) refl) ∙ by_read (some ns) read

    pub new_shared : v.last ≡ last
        → Err Error.Damaged ≡ new_then entries key last moves (bucket_chain size entries capacity budget buckets (bucket_of key size))
    new_shared f = ends true (eq-eqb v.last last f)

    pub new_apart : (v.last ≡ last → ⊥)
        → Ok (moves || v.held) ≡ new_then entries key last moves (bucket_chain size entries capacity budget buckets (bucket_of key size))
    new_apart f = ends false (ne_eqb v.last last f)

-- ---- in the old table

-- what search found in a table
pub presence_entry : (f : Found) (entries : List ℕ) (capacity used : ℕ) (buckets : List ℕ) (size key : ℕ) (x : Result Bool Error)
    → ((t : Table) → f ≡ found_of (searched_in entries capacity used buckets size key t)) → x ≡ found_presence f
    → (t : Table) → x ≡ presence (searched_in entries capacity used buckets size key t)
presence_entry f entries capacity used buckets size key x e h t = h ∙ ap found_presence (e t) ∙ presence_found _

module _ (entries : List ℕ) (capacity left : ℕ) (buckets : List ℕ) (size b key i : ℕ) (e : i ≡ bucket_of key size) where
  old_by : (t : Bool) → (eqb left 0 || eqb i b) ≡ t
      → cond t (Ok false) (presence (searched_in entries capacity left buckets size key Table.Old))
      ≡ old_then entries capacity left buckets size b key
  unfolding old_then in_bucket
  old_by t f = rw (← e, f)

  pub old_unread : (eqb left 0 || eqb i b) ≡ true → (Ok false) ≡ old_then entries capacity left buckets size b key
  old_unread f = old_by true f

  pub old_read : (f : Found) (x : Result Bool Error) → (eqb left 0 || eqb i b) ≡ false
      → ((t : Table) → f ≡ found_of (searched_in entries capacity left buckets size key t)) → x ≡ found_presence f
      → x ≡ old_then entries capacity left buckets size b key
  old_read f x u g h = presence_entry f entries capacity left buckets size key x g h Table.Old ∙ old_by false u

-- ---- in both

module _ (s : State) (current other entries : List ℕ) (b key left budget last : ℕ) (moves : Bool) where
  abbrev new : Result Bool Error
  new = new_then entries key last moves (bucket_chain s.new_size entries s.capacity budget other (bucket_of key s.new_size))

  pub old_damaged : (x : Error) → Err x ≡ old_then entries s.capacity left current s.old_size b key
      → Err x ≡ tables_then s current other entries b key left budget last moves
  unfolding tables_then
  old_damaged x e = ap (λ (o : Result Bool Error). either o new) e

  module _ (held : Bool) (e : Ok held ≡ old_then entries s.capacity left current s.old_size b key) where
    pub new_damaged : (x : Error)
        → Err x ≡ new_then entries key last moves (bucket_chain s.new_size entries s.capacity budget other (bucket_of key s.new_size))
        → Err x ≡ tables_then s current other entries b key left budget last moves
    unfolding tables_then
    new_damaged x f = by held ∙ ap₂ either e f
      where
        by : (t : Bool) → Err x ≡ either (Ok t) (Err x)
        by false = refl
        by true = refl

    pub in_either : (held' : Bool)
        → Ok held' ≡ new_then entries key last moves (bucket_chain s.new_size entries s.capacity budget other (bucket_of key s.new_size))
        → Ok (held || held') ≡ tables_then s current other entries b key left budget last moves
    unfolding tables_then
    in_either held' f = by held ∙ ap₂ either e f
      where
        by : (t : Bool) → Ok (t || held') ≡ either (Ok t) (Ok held')
        by false = refl
        by true = refl

-- ---- the chain of bucket b of the old table moves

module _ (s : State) (current other entries : List ℕ) (b key c n : ℕ) where
  pub moving_unsound : (x : Error) → Err x ≡ surveyed entries s.new_size c key n (old_chain s current entries b)
      → Err x ≡ presence_then key s.second_is_current (moved_chain s current other entries b (old_chain s current entries b))
  unfolding moved_chain
  moving_unsound x e =
      let (no_chain, damaged) = surveyed_none entries s.new_size c key n x (old_chain s current entries b) e in
      rw (no_chain, damaged) (sym (then_refused key current other entries s.second_is_current Error.Damaged))

  module _ (v : Survey) (e : Ok v ≡ surveyed entries s.new_size c key n (old_chain s current entries b)) where
    abbrev read_so : (ns : List ℕ) × (old_chain s current entries b ≡ some ns) × (v.count ≡ length ns) × (v.last ≡ last_or 0 ns)
        × (v.joining ≡ how_many (of_bucket s.new_size c entries) ns) × (v.held ≡ has entries key ns) × (v.meets ≡ among n ns)
    read_so = surveyed_some entries s.new_size c key n v (old_chain s current entries b) e

    moving_fits : (v.count ≤ s.old_used) × (v.joining ≤ v.count)
    moving_fits =
        let (ns, read, k, l, m, h, g) = read_so in
        let short = (read_sound _ entries s.capacity s.old_used (get_or current b 0) ns read).1 in
        (omega arith, omega (arith, how_many_fits (of_bucket s.new_size c entries) ns))

    pub old_enough : v.count ≤ s.old_used
    old_enough = moving_fits.0

    pub new_enough : v.joining ≤ s.new_used + v.count
    new_enough = omega (arith, moving_fits.1)

    pub moving_room : Moves s current other entries b → Fits w32 s.capacity → Fits w32 (s.new_used + v.count)
    moving_room h f = omega (arith, moving_fits.0, h.sound.used_fits)

    pub moving_sound : c ≡ bucket_of key s.new_size → Moves s current other entries b → (x : Result Bool Error)
        → x ≡ tables_then s current other entries b key (s.old_used - v.count) (s.new_used + v.count - v.joining) v.last v.held
        → x ≡ presence_then key s.second_is_current (moved_chain s current other entries b (old_chain s current entries b))
    moving_sound ce moves x xe =
        let (ns, read, k, l, m, h, g) = read_so in
        let fits = new_enough in
        let counts : s.new_used + v.count - v.joining + how_many (of_bucket s.new_size (bucket_of key s.new_size) entries) ns
        ≡ s.new_used + length ns =
        rw (← ce) (omega arith) in
        let all = then_moved s key current other entries b moves ns read (s.new_used + v.count - v.joining) counts in
        let left : s.old_used - v.count ≡ s.old_used - length ns = omega arith in
        let same : x
        ≡ tables_then s current other entries b key (s.old_used - length ns) (s.new_used + v.count - v.joining) (last_or 0 ns)
        (has entries key ns) =
        cc in
        same
        ∙ sym all
        ∙ ap (λ (o : Option (List ℕ)). presence_then key s.second_is_current (moved_chain s current other entries b o)) (sym read)

-- ---- what comes from the next bucket on

-- a filled bucket lies in the table, and has a first entry
module _ (r : Ahead) (buckets : List ℕ) (from size visits : ℕ) (e : r ≡ ahead buckets from (size - from) visits) (l : from ≤ size)
    (b : ℕ) (f : r ≡ Ahead.Filled b) where
  comes : Comes buckets from size visits (Ahead.Filled b)
  comes = subst (Comes buckets from size visits) (sym e ∙ f) (ahead_comes buckets from (size - from) visits size (omega arith))

  pub next_below : b < size
  unfolding Comes
  next_below = comes.1

  pub next_filled : 0 < get_or buckets b 0
  unfolding Comes
  next_filled = let some_entry = comes.3 in omega arith

module _ (s : State) (key : ℕ) (current other entries : List ℕ) (r o : Ahead) (f : r ≡ o) where
  pub ahead_end : r ≡ Ahead.End
      → (Err Error.Damaged) ≡ presence_then key s.second_is_current (moved_from s current other entries o)
  unfolding moved_from
  ahead_end e = rw (← f, e) (sym (then_refused key current other entries s.second_is_current Error.Damaged))

  pub ahead_empty : (b : ℕ) → r ≡ Ahead.Empty b → 0 < s.old_used → (y : Found) (x : Result Bool Error)
      → y ≡ found_of (both
      (searched_in entries s.capacity s.old_used current s.old_size key Table.Old)
      (searched_in entries s.capacity s.new_used other s.new_size key Table.New))
      → x ≡ found_presence y → x ≡ presence_then key s.second_is_current (moved_from s current other entries o)
  unfolding moved_from
  ahead_empty b e l y x g h =
      rw (← f, e)
      (h
      ∙ ap found_presence g
      ∙ presence_found _
      ∙ sym (then_still s key current other entries l b))

-- ---- the step

module _ (s : State) (key : ℕ) (current other entries : List ℕ) where
  pub step_ended : s.old_used ≡ 0 → (y : Found) (x : Result Bool Error)
      → ((t : Table) → y ≡ found_of (searched_in entries s.capacity s.new_used other s.new_size key t))
      → x ≡ found_presence y → x ≡ presence_then key s.second_is_current (step_taken s current other entries)
  unfolding step_taken
  step_ended z y x g h =
      presence_entry y entries s.capacity s.new_used other s.new_size key x g h Table.New
      ∙ sym (then_ended s key current other entries z s.rehash_index Table.New)
      ∙ (rw (eq-eqb s.old_used 0 z) refl)
