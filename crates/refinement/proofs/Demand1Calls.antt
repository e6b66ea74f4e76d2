-- What a call answers and leaves, with no step before it, in one walk over its definition: the number of the first row
-- that is given; where it is refused all that was there, and where it is answered the lengths of the buffers. All calls but
-- those that are lent a list.
-- Assumes nothing.
use Prim.Native.Nat.{ℕ, zero, suc, ◌+◌, ◌*◌, ◌<◌, ◌≤◌}
use mathlib.Core.Path.{◌≡◌, refl, sym, ap, subst}
use mathlib.Core.Bool.{Bool, true, false, cond, and_assoc}
use mathlib.Core.List.{List, [], ◌∷◌}
use mathlib.Core.Logic.{◌⊎◌, inl, inr}
use mathlib.Core.Option.{Option, none, some}
use native.Mathlib.Omega.{arith}
use lib.ListN.{length, take, length-set}
use Rattle.model.specs.declared.State.{State}
use Rattle.model.specs.declared.Table.{Table}
use Rattle.model.specs.declared.Error.{Error}
use Rattle.model.specs.declared.Lookup.{Lookup}
use Rattle.model.specs.declared.Ahead.{Ahead}
use Rattle.model.specs.Answers.{Reply, reply, error_number, init_reply, value_reply, done_reply, state_reply, step_reply, table_reply}
use Rattle.model.specs.Limits.{largest_exponent, legal_capacity, legal_size, empty_visits, most_safe_iterators}
use Rattle.model.specs.Memory.{link_of, buckets_of, keys_held, Place, chain_at}
use Rattle.model.specs.Calls.{After, no_state, oriented, reading, writing, changed, lookup, held, found, updated, push, pushed, target, takeable, added, unlink_bucket, unlink_entry, removed, deleted, long_enough, acceptable, resized, step_done, moved_chain, moved_from, step_taken, paused, stepped}
use Rattle.model.specs.Calls as calls
use Rattle.model.specs.Iterators.{one_more, one_fewer}
use Rattle.model.specs.Iterators as iterators
use Rattle.model.specs.Sequences.{World, world, KeyCall, ReadCall, StateCall, Call, Outcome, kept, left, given, perform, carry}
use Rattle.model.proofs.Tests.{Tells, true_not_false, tells_true, tells_and, tells_eq, tells_le}
use Rattle.model.proofs.Power.{legal_pos}
use Rattle.model.proofs.Soundness.{sound_facts}
use Rattle.model.proofs.Fields.{length_set_link, length_set_key, length_set_value, length_set_entry}
use Rattle.model.proofs.Moved.{moved_length}
use Rattle.refinement.specs.Worlds.{current, other}
use Rattle.refinement.specs.Demand1.{BadState, Damaged, key_places, KeyHeld, Full, FreeListDamaged, SoundChain, EmptyFrom, FirstFilled, EndFirst, StepDamaged, Row, row, key_rows, alone_rows, read_rows, note_rows, rows, Decides, Leaves, key_zeros, read_zeros, LeavesList, LeavesAll}
use Rattle.refinement.specs.Demand3.{lengths_of}
use Rattle.invariant.proofs.ClearedBuckets.{length_cleared}
use Rattle.invariant.proofs.Init.{started_buckets_length, started_entries_length}
use Rattle.invariant.proofs.Resize.{allowed}
use Rattle.refinement.proofs.Orientation.{first_by, second_by, world_by, world_kept, sound_at, reads, put, writes}
use Rattle.refinement.proofs.HiddenSteps.{alone}
use Rattle.refinement.proofs.Demand1Chains.{AtPlace, place_read, place_sound}
use Rattle.refinement.proofs.Demand1Tests.{Passes, passes_same, passes_not, passes_or, passes_le, passes_lt, passes_ne}
use Rattle.refinement.proofs.Demand1Reads.{Says, lookup_says, StepMeets, step_meets, same_first}
use Rattle.std.specs.Prelude.{Result, Err}

-- ---- an outcome that goes by the table

-- refused with a number, and all left as demand 1 says
abbrev pub Refuses : World → Call → ℕ → Outcome → Type 0
Refuses w c n o = (o.reply.number ≡ n) × LeavesAll w c o

-- By rows that are left to test: refused with the number of the first that is given, and answered 0 if none is.
pub data Good (w : World) (c : Call) : List Row → Outcome → Type 1 where
  refused : {o : Outcome} {r : Row} {rs : List Row} → r.given → Refuses w c r.number o → Good w c (r ∷ rs) o
  past : {o : Outcome} {r : Row} {rs : List Row} → ¬ r.given → Good w c rs o → Good w c (r ∷ rs) o
  answered : {o : Outcome} → o.reply.number ≡ 0 → lengths_of (carry w o) ≡ lengths_of w → Good w c [] o

module _ {w : World} {c : Call} where
  pub decides : {rs : List Row} {o : Outcome} → Good w c rs o → Decides o.reply.number rs
  unfolding Decides
  decides (Good.refused g r) = inl (g, r.0)
  decides (Good.past f g) = inr (f, decides g)
  decides (Good.answered n l) = n

  pub leaves : {rs : List Row} {o : Outcome} → Good w c rs o → ¬ (o.reply.number ≡ 0) → LeavesAll w c o
  leaves (Good.refused g r) f = r.1
  leaves (Good.past h g) f = leaves g f
  leaves (Good.answered n l) f = absurd (f n)

  -- a test that refuses where it fails, and one that refuses where it holds
  pub gated : {A : Type 0} {t : Bool} {r : Row} {rs : List Row} (f : A → Outcome) {x y : A} → Passes r.given t
      → (t ≡ true → Good w c rs (f x)) → Refuses w c r.number (f y) → Good w c (r ∷ rs) (f (cond t x y))
  gated f (Passes.passed n) g r = Good.past n (g refl)
  gated f (Passes.failed p) g r = Good.refused p r

  barred : {A : Type 0} {t : Bool} {r : Row} {rs : List Row} (f : A → Outcome) {x y : A} → Tells r.given t
      → Refuses w c r.number (f x) → (¬ r.given → Good w c rs (f y)) → Good w c (r ∷ rs) (f (cond t x y))
  barred f (Tells.holds p) r g = Good.refused p r
  barred f (Tells.fails n) r g = Good.past n (g n)

-- demand 1 says of a refusal that it leaves the buffers
pub leaves_kept : (w : World) (c : Call) (o : Outcome) → LeavesAll w c o
    → (r : Reply State) × (lent : List ℕ) × (o ≡ kept w r lent)
unfolding LeavesAll LeavesList Leaves
leaves_kept w (Call.init capacity size) o l = (_, _, l)
leaves_kept w (Call.on key c) o l = (_, _, l)
leaves_kept w (Call.resize size) o l = (_, _, l)
leaves_kept w Call.rehash_step o l = (_, _, l)
leaves_kept w (Call.scan cursor lent) o (count, c, l) = (_, _, l)
leaves_kept w (Call.iterate place lent) o (count, c, l) = (_, _, l)
leaves_kept w (Call.read c) o l = (_, _, l)
leaves_kept w (Call.note c) o l = (_, _, l)

pub good_lengths : {w : World} {c : Call} {rs : List Row} {o : Outcome} → Good w c rs o → lengths_of (carry w o) ≡ lengths_of w
unfolding carry kept world lengths_of
good_lengths {w} {c} {rs} {o} (Good.refused g r) =
    let (reply, lent, is) = leaves_kept w c o r.1 in ap (λ (p : Outcome). lengths_of (carry w p)) is
good_lengths (Good.past f g) = good_lengths g
good_lengths (Good.answered n l) = l

-- ---- lengths of what calls write

length_unlinked : (buckets entries : List ℕ) (b before n : ℕ) → length (unlink_bucket buckets entries b before n) ≡ length buckets
unfolding unlink_bucket
length_unlinked buckets entries b zero n = length-set buckets b (link_of entries n)
length_unlinked buckets entries b (suc before) n = refl

-- ---- calls on the current and the other buffer

module _ (w : World) where
  abbrev flag : Bool
  flag = w.state.second_is_current

  -- given these, and the entries; and all three as they are
  abbrev pub here : {A : Type 0} → (State → List ℕ → List ℕ → List ℕ → A) → A
  here call = call w.state (current w) (other w) w.entries

  abbrev stay : {A : Type 0} → A → After A
  stay a = After.after a (current w) (other w) w.entries

  -- its outcome, answered
  done : {A : Type 0} {c : Call} (reply : A → Reply State) (a : A) (x y z : List ℕ) → (reply a).number ≡ 0
      → length x ≡ length (current w) → length y ≡ length (other w) → length z ≡ length w.entries
      → Good w c [] (put w reply (After.after a x y z))
  unfolding put kept carry lengths_of world_by world current other oriented first_by second_by
  done {A} {c} reply a x y z n p q r = Good.answered n (by flag p q)
    where
      by : (f : Bool) → length x ≡ length (oriented f (λ first second. first) w.first w.second)
          → length y ≡ length (oriented f (λ first second. second) w.first w.second)
          → lengths_of (carry w (kept (world_by f w.state x y z) (reply a) [])) ≡ lengths_of w
      by false p q = λ k. record { first = p k; second = q k; entries = r k }
      by true p q = λ k. record { first = q k; second = p k; entries = r k }

  passes_state : Passes (BadState w) (sound_at w)
  unfolding BadState
  passes_state = passes_not (tells_true (sound_at w))

  -- a call that reads
  pub read : {A : Type 0} {rs : List Row} {c : Call} (out : A → Outcome) (refusal : A) (call : List ℕ → List ℕ → A)
      → Refuses w c 1 (out refusal) → (sound_at w ≡ true → Good w c rs (out (call (current w) (other w))))
      → Good w c (row 1 (BadState w) ∷ rs) (out (reading w.state w.first w.second w.entries refusal call))
  unfolding row
  read out refusal call r g = rw (reads w refusal call) (gated out passes_state g r)

  -- a call that writes: each refusal leaves all as it is
  abbrev Refusing : {A : Type 0} → Call → (A → Reply State) → (Error → A) → Type 0
  Refusing c reply refusal = (e : Error) → Refuses w c (error_number e) (put w reply (stay (refusal e)))

  written : {A : Type 0} {rs : List Row} (c : Call) (reply : A → Reply State) (refusal : Error → A)
      → ((e : Error) → Refuses w c (error_number e) (kept w (reply (refusal e)) [])) → (call : List ℕ → List ℕ → After A)
      → (Refusing c reply refusal → Good w c rs (put w reply (call (current w) (other w))))
      → Good w c (row 1 (BadState w) ∷ rs)
      (left reply (writing w.state w.first w.second w.entries (refusal Error.BadState) call))
  unfolding row error_number put
  written c reply refusal zeros call g =
      let refuse : Refusing c reply refusal = λ e. rw world_kept (zeros e) in
      rw (writes w reply (refusal Error.BadState) call)
      (gated (put w reply) passes_state (λ f. g refuse) (refuse Error.BadState))

  -- with one table's buckets changed
  changed_done : {A : Type 0} {c : Call} (reply : A → Reply State) (t : Table) (a : A) (buckets entries : List ℕ)
      → (reply a).number ≡ 0 → length buckets ≡ length (buckets_of (current w) (other w) t)
      → length entries ≡ length w.entries → Good w c [] (put w reply (changed t a (current w) (other w) buckets entries))
  unfolding changed buckets_of
  changed_done reply Table.Old a buckets entries n x y = done reply a _ _ _ n x refl y
  changed_done reply Table.New a buckets entries n x y = done reply a _ _ _ n refl x y

  -- ---- the calls that name a key

  -- the key's chains first
  looked : {c : Call} {rs : List Row} (key : ℕ) (f : Lookup → Outcome) → Refuses w c 2 (f Lookup.Damaged)
      → (¬ KeyHeld w key → Good w c rs (f Lookup.Absent))
      → (KeyHeld w key → (t : Table) (before n : ℕ) → Good w c rs (f (Lookup.At t before n)))
      → Good w c (row 2 (Damaged w (key_places w key)) ∷ rs) (f (here lookup key))
  unfolding Says KeyHeld row
  looked {c} {rs} key f damaged absent at = by (here lookup key) (lookup_says w key)
    where
      by : (l : Lookup) → Says w key (key_places w key) l → Good w c (row 2 (Damaged w (key_places w key)) ∷ rs) (f l)
      by Lookup.Damaged h = Good.refused h damaged
      by Lookup.Absent h = Good.past h.0 (absent h.1)
      by (Lookup.At t before n) h = Good.past h.0 (at h.1 t before n)

  -- find, update and delete
  held_good : {c : Call} (key : ℕ) (f : Lookup → Outcome) → Refuses w c 2 (f Lookup.Damaged)
      → Refuses w c 3 (f Lookup.Absent) → ((t : Table) (before n : ℕ) → Good w c [] (f (Lookup.At t before n)))
      → Good w c (row 2 (Damaged w (key_places w key)) ∷ row 3 (¬ KeyHeld w key) ∷ []) (f (here lookup key))
  unfolding row
  held_good key f damaged absent at =
      looked key f damaged (λ n. Good.refused n absent) (λ h t before n. Good.past (λ f. f h) (at t before n))

  passes_free : ¬ Full w → Passes (FreeListDamaged w) (takeable w.state w.entries)
  unfolding FreeListDamaged takeable
  passes_free f = passes_same (λ h. (f, h)) (λ h. h.1) (passes_or (passes_ne _ _) (passes_le _ _))

  -- add of a key that is not there
  added_good : {c : Call} (key value : ℕ) → Refusing c (state_reply w.state) Err
      → Good w c (row 5 (Full w) ∷ row 2 (FreeListDamaged w) ∷ [])
      (put w (state_reply w.state) (here added key value Lookup.Absent))
  unfolding row added state_reply reply error_number pushed push Full
  added_good {c} key value refuse =
      barred (put w (state_reply w.state)) (tells_eq (keys_held w.state) w.state.capacity) (refuse Error.Full)
      (λ room. gated (put w (state_reply w.state)) (passes_free room) (λ h. pushes) (refuse Error.Damaged))
    where
      pushes : Good w c [] (put w (state_reply w.state) (here pushed key value (target w.state.rehashing)))
      pushes =
          changed_done (state_reply w.state) (target w.state.rehashing) _ _ _ refl (simp length-set)
          (simp (length_set_value, length_set_key, length_set_link))

  pub alone_good : (key : ℕ) (c : KeyCall) → Good w (Call.on key c) (row 1 (BadState w) ∷ alone_rows w key c) (alone w key c)
  unfolding alone perform alone_rows key_rows row given calls.find found calls.update updated calls.add_alone added calls.delete_alone deleted removed held unlink_entry LeavesAll Leaves key_zeros value_reply done_reply state_reply reply error_number kept carry lengths_of world
  alone_good key KeyCall.find =
      read (λ a. kept w (value_reply w.state a) []) _ _ (refl, refl)
      (λ h.
      held_good key (λ l. kept w (value_reply w.state (found w.entries l)) []) (refl, refl) (refl, refl)
      (λ t before n. Good.answered refl refl))
  alone_good key (KeyCall.update value) =
      written _ (done_reply w.state) Err (λ e. (refl, refl)) _
      (λ refuse.
      held_good key (λ l. put w (done_reply w.state) (updated (current w) (other w) w.entries value l))
      (refuse Error.Damaged) (refuse Error.Absent)
      (λ t before n.
      done (done_reply w.state) _ _ _ _ refl refl refl (length_set_value w.entries n value)))
  alone_good key (KeyCall.add value) =
      written _ (state_reply w.state) Err (λ e. (refl, refl)) _
      (λ refuse.
      looked key (λ l. put w (state_reply w.state) (here added key value l)) (refuse Error.Damaged)
      (λ n. Good.past n (added_good key value refuse)) (λ h t before n. Good.refused h (refuse Error.Present)))
  alone_good key KeyCall.delete =
      written _ (state_reply w.state) Err (λ e. (refl, refl)) _
      (λ refuse.
      held_good key (λ l. put w (state_reply w.state) (here deleted key l)) (refuse Error.Damaged) (refuse Error.Absent)
      (λ t before n.
      changed_done (state_reply w.state) t _ _ _ refl (simp length_unlinked) (simp (length_set_entry, length_set_link))))

  -- ---- resize

  passes_size : (size : ℕ)
      → Passes ((¬ (legal_size size ≡ true)) ⊎ (size ≡ w.state.old_size) ⊎ (length (other w) < size))
      (acceptable w.state.old_size (length (other w)) size)
  unfolding acceptable
  passes_size size =
      rw and_assoc (passes_or (passes_not (tells_true (legal_size size))) (passes_or (passes_ne _ _) (passes_le _ _)))

  pub resized_good : (size : ℕ) → Good w (Call.resize size) (rows w (Call.resize size)) (perform w (Call.resize size))
  unfolding perform rows row given calls.resize resized LeavesAll Leaves state_reply reply error_number kept
  resized_good size =
      written (Call.resize size) (state_reply w.state) Err (λ e. (refl, refl)) _
      (λ refuse. by refuse w.state.rehashing)
    where
      by : Refusing (Call.resize size) (state_reply w.state) Err → (t : Bool)
          → Good w (Call.resize size)
          (row 7 (t ≡ true)
          ∷ row 6 ((¬ (legal_size size ≡ true)) ⊎ (size ≡ w.state.old_size) ⊎ (length (other w) < size))
          ∷ [])
          (put w (state_reply w.state) (here resized size t))
      by refuse true = Good.refused refl (refuse Error.Rehashing)
      by refuse false =
          Good.past (λ e. true_not_false (sym e))
          (gated (put w (state_reply w.state)) (passes_size size)
          (λ accepted.
          let fits = (allowed w.state.old_size (length (other w)) size accepted).2 in
          done (state_reply w.state) _ _ _ _ refl refl (length_cleared size (other w) fits) refl)
          (refuse Error.BadSize))

  -- ---- a step

  -- a step that finds its chain sound
  step_sound : (b : ℕ) → FirstFilled w b → SoundChain w (Place.bucket Table.Old b) → ¬ StepDamaged w
  unfolding StepDamaged EndFirst EmptyFrom
  step_sound b f c (pos, inl (reach, all)) = f.filled (all b f.from_next f.in_table)
  step_sound b f c (pos, inr (a, g, h)) =
      h (subst (λ (d : ℕ). SoundChain w (Place.bucket Table.Old d)) (same_first w b a f g) c)

  -- a step that passes as many empty buckets as it may
  step_passing : (b : ℕ) → b ≡ w.state.rehash_index + empty_visits → b < w.state.old_size → EmptyFrom w b
      → ¬ StepDamaged w
  unfolding StepDamaged EndFirst EmptyFrom
  step_passing b is below all (pos, inl (reach, end)) = omega arith
  step_passing b is below all (pos, inr (a, g, h)) = g.filled (all a g.from_next (omega (arith, g.in_reach)))

  module _ (refuse : Refusing Call.rehash_step (step_reply w.state) Err) where
    moved_good : 0 < w.state.old_used → (b : ℕ) → FirstFilled w b → (o : Option (List ℕ))
        → AtPlace w (Place.bucket Table.Old b) o
        → Good w Call.rehash_step (row 2 (StepDamaged w) ∷ []) (put w (step_reply w.state) (here moved_chain b o))
    unfolding row moved_chain step_done AtPlace StepDamaged step_reply reply error_number
    moved_good pos b f none n =
        let damaged : StepDamaged w = (pos, inr (b, f, n)) in Good.refused damaged (refuse Error.Damaged)
    moved_good pos b f (some ns) r =
        let (x, y) = moved_length w.state.new_size ns (record { buckets = other w; entries = w.entries }) in
        Good.past (step_sound b f (place_sound w (Place.bucket Table.Old b) ns r))
        (done (step_reply w.state) _ _ _ _ refl (length-set (current w) b 0) x y)

    from_good : (r : Ahead) → StepMeets w r → {t : Bool} → Tells (w.state.old_used ≡ 0) t
        → Good w Call.rehash_step (row 2 (StepDamaged w) ∷ [])
        (put w (step_reply w.state)
        (cond t (stay (step_done w.state 0 w.state.rehash_index)) (here moved_from r)))
    unfolding row moved_from step_done StepMeets StepDamaged step_reply reply error_number
    from_good r h (Tells.holds e) =
        Good.past (λ (d : StepDamaged w). omega (arith, d.0)) (done (step_reply w.state) _ _ _ _ refl refl refl refl)
    from_good Ahead.End end (Tells.fails f) =
        let damaged : StepDamaged w = (omega arith, inl end) in Good.refused damaged (refuse Error.Damaged)
    from_good (Ahead.Empty b) h (Tells.fails f) =
        let (is, below, before) = h in
        Good.past (step_passing b is below before) (done (step_reply w.state) _ _ _ _ refl refl refl refl)
    from_good (Ahead.Filled b) first (Tells.fails f) =
        moved_good (omega arith) b first (here chain_at (Place.bucket Table.Old b)) (place_read w (Place.bucket Table.Old b))

    stepped_good : (t : Bool)
        → Good w Call.rehash_step
        (row 8 (t ≡ false) ∷ row 18 (0 < w.state.safe_iterators) ∷ row 2 (StepDamaged w) ∷ [])
        (put w (step_reply w.state) (here stepped t))
    unfolding row stepped step_taken paused error_number
    stepped_good false = Good.refused refl (refuse Error.NotRehashing)
    stepped_good true =
        Good.past true_not_false
        (barred (put w (step_reply w.state)) (tells_le 1 w.state.safe_iterators) (refuse Error.Paused)
        (λ unpaused. from_good _ (step_meets w) (tells_eq w.state.old_used 0)))

  pub step_good : Good w Call.rehash_step (rows w Call.rehash_step) (perform w Call.rehash_step)
  unfolding perform rows given calls.rehash_step LeavesAll Leaves step_reply reply kept
  step_good =
      written Call.rehash_step (step_reply w.state) Err (λ e. (refl, refl)) _
      (λ refuse. stepped_good refuse w.state.rehashing)

  -- ---- init, and the calls that only read

  pub init_good : (capacity size : ℕ)
      → Good w (Call.init capacity size) (rows w (Call.init capacity size)) (perform w (Call.init capacity size))
  unfolding perform rows row calls.init init_reply reply error_number LeavesAll Leaves left kept carry lengths_of world long_enough
  init_good capacity size =
      let refuse : (e : Error) → Refuses w (Call.init capacity size) (error_number e)
      (left init_reply (After.after (Err (record { error = e; state = no_state })) w.first w.second w.entries)) =
      λ e. (refl, refl)
      in
      gated (left init_reply) (passes_not (tells_and (tells_true (legal_capacity capacity)) (tells_true (legal_size size))))
      (λ limits.
      gated (left init_reply) (passes_or (passes_le size (length w.first)) (passes_le (capacity * 3) (length w.entries)))
      (λ long.
      let x = started_buckets_length capacity size w.first w.second w.entries limits long in
      let z = started_entries_length capacity size w.first w.second w.entries limits long in
      Good.answered refl (λ k. record { first = x k; second = length w.second; entries = z k }))
      (refuse Error.BadState))
      (refuse Error.BadSize)

  -- a live table has a bucket
  look_number : (n : ℕ) (buckets : List ℕ) → 0 < n → n ≤ length buckets → (table_reply w.state (take n buckets)).number ≡ 0
  unfolding table_reply reply
  look_number zero buckets h l = absurd (omega arith)
  look_number (suc n) [] h l = absurd (omega arith)
  look_number (suc n) (b ∷ buckets) h l = refl

  pub read_good : (c : ReadCall) → Good w (Call.read c) (rows w (Call.read c)) (perform w (Call.read c))
  unfolding perform rows read_rows row given calls.suggested_size calls.current_table iterators.begin_iterator iterators.end_iterator value_reply table_reply done_reply reply error_number LeavesAll read_zeros Leaves kept carry lengths_of world legal_size
  read_good (ReadCall.suggested_size growing) =
      read (λ a. kept w (value_reply w.state a) []) _ _ (refl, refl) (λ h. Good.answered refl refl)
  read_good ReadCall.current_table =
      read (λ l. kept w (table_reply w.state l) []) _ _ (refl, refl)
      (λ h.
      let sound = sound_facts w.state (current w) (other w) w.entries h in
      Good.answered (look_number _ _ (legal_pos largest_exponent _ sound.old_legal) sound.old_fits) refl)
  read_good ReadCall.begin_iterator =
      read (λ a. kept w (value_reply w.state a) []) _ _ (refl, refl) (λ h. Good.answered refl refl)
  read_good (ReadCall.end_iterator fingerprint) =
      read (λ a. kept w (done_reply w.state a) []) _ _ (refl, refl)
      (λ h.
      let refuse : (e : Error) → Refuses w (Call.read (ReadCall.end_iterator fingerprint)) (error_number e)
      (kept w (done_reply w.state (Err e)) []) =
      λ e. (refl, refl)
      in
      gated (λ a. kept w (done_reply w.state a) []) (passes_not (tells_eq fingerprint _)) (λ e. Good.answered refl refl)
      (refuse Error.Changed))

  -- ---- the calls that set a field of the state

  abbrev set_out : Result State Error → Outcome
  set_out a = kept w (state_reply w.state a) []

  fewer_good : (iterators : ℕ)
      → Good w (Call.note StateCall.end_safe) (row 16 (iterators ≡ 0) ∷ []) (set_out (one_fewer w.state iterators))
  unfolding row one_fewer state_reply reply error_number LeavesAll Leaves kept carry lengths_of world
  fewer_good zero = Good.refused refl (refl, refl)
  fewer_good (suc iterators) = Good.past (λ (e : suc iterators ≡ 0). omega arith) (Good.answered refl refl)

  pub note_good : (c : StateCall) → Good w (Call.note c) (rows w (Call.note c)) (perform w (Call.note c))
  unfolding perform rows note_rows row given calls.allow_resize iterators.begin_safe iterators.end_safe one_more state_reply reply error_number LeavesAll Leaves kept carry lengths_of world
  note_good (StateCall.allow_resize allowed) = read set_out _ _ (refl, refl) (λ h. Good.answered refl refl)
  note_good StateCall.begin_safe =
      read set_out _ _ (refl, refl)
      (λ h.
      let refuse : (e : Error) → Refuses w (Call.note StateCall.begin_safe) (error_number e)
      (set_out (Err e)) =
      λ e. (refl, refl)
      in
      gated set_out (passes_lt _ most_safe_iterators) (λ e. Good.answered refl refl) (refuse Error.TooManyIterators))
  note_good StateCall.end_safe = read set_out _ _ (refl, refl) (λ h. fewer_good w.state.safe_iterators)
