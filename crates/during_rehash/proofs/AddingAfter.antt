-- What an add comes to that takes a step first, by what was told of the memory after it.
-- Assumes nothing.
use Prim.Native.Nat.{ℕ, suc, ◌<◌}
use mathlib.Core.Path.{◌≡◌, refl, sym, ap, subst, ◌∙◌}
use mathlib.Core.Bool.{Bool, true, false, not, cond}
use mathlib.Core.List.{List}
use mathlib.Core.Option.{Option, none, some}
use native.Mathlib.Omega.{arith}
use lib.ListN.{length, get_or, set}
use lib.Dec.{eqb}
use Rattle.model.specs.declared.State.{State}
use Rattle.model.specs.declared.Table.{Table}
use Rattle.model.specs.declared.Error.{Error}
use Rattle.model.specs.declared.Ahead.{Ahead}
use Rattle.model.specs.Keys.{bucket_of}
use Rattle.model.specs.Memory.{link_of, set_entry, size_of, buckets_of, sound_state, Place, chain_at}
use Rattle.model.specs.Calls.{After, sound, oriented, back, writing, changed, state_of, old_new, retabled, pushed, target, add_alone, advanced, finished, settled, step_done, moved_chain, moved_from, ahead_of, step_taken, stepped, rehash_step, step_due, is_added, add_after_step}
use Rattle.model.proofs.Soundness.{Sound, Counted, sound_test, tested_counts}
use Rattle.model.proofs.StepLeaves.{Follows, StepLeaves, step_leaves}
use Rattle.memory.specs.Lent.{sound_lent}
use Rattle.memory.proofs.Orientation.{writing_sound}
use Rattle.search.specs.Tables.{lookup_lent, Readable}
use Rattle.dict_rehash.proofs.Due.{due_rehashing, due_unpaused, due_stepped}
use Rattle.after_step.specs.Presence.{presence_after, presence_then, entries_after}
use Rattle.after_step.specs.Planned.{Planned}
use Rattle.after_step.proofs.StepFirst.{is_absent, StepTaken, step_taken_lem, first_done, first_refused}
use Rattle.during_rehash.specs.Counts.{one_more}
use Rattle.during_rehash.specs.Free.{next_free}
use Rattle.during_rehash.specs.Foretold.{StepDue, Foretold, Untold}
use Rattle.during_rehash.specs.declared.foresee.Foresight.{Foresight}
use Rattle.during_rehash.specs.Moving.{first_of, second_of, add_moving}
use Rattle.during_rehash.proofs.Taking.{taken}
use Rattle.during_rehash.proofs.Answering.{add_counted, add_answer, alone_answer, next_follows, Takes, takes_free, some_free, pushed_lent, alone_pushes}
use Rattle.std.specs.Prelude.{Result, Ok, Err}

-- ---- the current and the other buffer, and the lent ones

module _ {A : Type 0} where
  lent_of : (f : Bool) (a : A) (c o z : List ℕ) → back f (After.after a c o z) ≡ After.after a (first_of f c o) (second_of f c o) z
  unfolding oriented back
  lent_of false a c o z = refl
  lent_of true a c o z = refl

  lent_back : (f : Bool) (a : A) (c o z : List ℕ) → After.after a c o z ≡ back f (After.after a (first_of f c o) (second_of f c o) z)
  unfolding oriented back
  lent_back false a c o z = refl
  lent_back true a c o z = refl

  pub twice_back : (f : Bool) (m : After A) → back f (back f m) ≡ m
  unfolding back
  twice_back false m = refl
  twice_back true (After.after a x y z) = refl

module _ (s : State) (current other entries : List ℕ) where
  abbrev pub first : List ℕ
  first = first_of s.second_is_current current other

  abbrev pub second : List ℕ
  second = second_of s.second_is_current current other

  module _ (h : Sound s (length current) (length other) (length entries)) where
    lent : sound_lent (length first) (length second) (length entries) s ≡ true
    unfolding sound_lent oriented sound
    lent = pick s.second_is_current
      where
        pick : (f : Bool)
            → sound_state (cond f (length (second_of f current other)) (length (first_of f current other)))
            (cond f (length (first_of f current other)) (length (second_of f current other))) (length entries) s
            ≡ true
        pick false = sound_test s current other entries h
        pick true = sound_test s current other entries h

    -- a call on the lent buffers is the call on the current and the other one
    pub lent_writing : {A : Type 0} (refusal : A) (call : List ℕ → List ℕ → After A)
        → back s.second_is_current (call current other) ≡ writing s first second entries refusal call
    unfolding oriented
    lent_writing refusal call =
        writing_sound s first second entries true (sym lent) refusal call _ refl
        (ap (back s.second_is_current) (pick s.second_is_current))
      where
        pick : (f : Bool) → call current other ≡ oriented f call (first_of f current other) (second_of f current other)
        pick false = refl
        pick true = refl

    pub lent_step : step_due s ≡ true
        → back s.second_is_current (step_taken s current other entries) ≡ rehash_step s first second entries
    unfolding rehash_step
    lent_step d =
        ap (back s.second_is_current) (due_stepped s d current other entries)
        ∙ lent_writing (Err Error.BadState) (λ c o. stepped s c o entries s.rehashing)

    lent_entries : step_due s ≡ true
        → entries_after (rehash_step s first second entries) ≡ entries_after (step_taken s current other entries)
    unfolding entries_after back
    lent_entries d = ap entries_after (sym (lent_step d)) ∙ pick s.second_is_current (step_taken s current other entries)
      where
        pick : (f : Bool) (a : After (Result (ℕ × State) Error)) → entries_after (back f a) ≡ entries_after a
        pick false a = refl
        pick true (After.after a x y z) = refl

-- ---- refusals

module _ (s : State) (current other entries : List ℕ) (key value : ℕ) (d : StepDue s current other entries) where
  abbrev step : After (Result (ℕ × State) Error)
  step = step_taken s current other entries

  -- the number that the call alone gives on what any answered step leaves
  refuses_with : (v : Result Bool Error) → v ≡ presence_then key s.second_is_current step → (error : Error)
      → (v ≡ Err Error.Damaged → error ≡ Error.Damaged)
      → ((t : State) → Follows s t → add_answer t (entries_after step) v ≡ Err error)
      → After.after (Err error) current other entries ≡ add_moving s current other entries key value
  unfolding add_moving add_after_step is_added presence_then
  refuses_with v k error damaged each =
      lent_back s.second_is_current (Err error) current other entries
      ∙ ap (back s.second_is_current)
      (first_refused Err is_added (λ t x y z. add_alone t x y z key value) s (first s current other entries)
      (second s current other entries) entries d.due key v (Err error) (lent s current other entries d.sound)
      (k ∙ ap (presence_after key) (lent_step s current other entries d.sound d.due)) (λ e. ap Err (damaged e)) refl
      (λ t x y z p o q w.
      alone_answer t x y z key value p
      ∙ ap (add_answer t z) (sym w)
      ∙ ap (λ (u : List ℕ). add_answer t u v) (q ∙ lent_entries s current other entries d.sound d.due)
      ∙ each t o))

  pub add_untold : (error : Error) → Untold s current other entries key error
      → After.after (Err error) current other entries ≡ add_moving s current other entries key value
  unfolding add_answer
  add_untold error k = refuses_with (Err error) k.told error (λ e. cc) (λ t o. refl)

  pub add_no_room : (f : Foresight) → Foretold s current other entries key f → (error : Error)
      → Err error ≡ next_free s f.held (entries_after (step_taken s current other entries))
      → After.after (Err error) current other entries ≡ add_moving s current other entries key value
  unfolding add_answer add_counted
  add_no_room f k error e =
      refuses_with (Ok f.held) k.told error (λ e. let z : ◌≡◌ {A = ℕ} 0 1 = cc in absurd (omega arith))
      (λ t o. ap (add_counted t) (next_follows s t f.held (entries_after step) o ∙ sym e))

-- ---- the entry in the other buffer

-- By the flag before the step and the new table's size: the rehash goes on, or it is over and the flag is turned.
data Targets (f : Bool) (size : ℕ) (t : State) : Type 0 where
  goes_on : t.second_is_current ≡ f → t.rehashing ≡ true → t.new_size ≡ size → Targets f size t
  is_over : t.second_is_current ≡ not f → t.rehashing ≡ false → t.old_size ≡ size → Targets f size t

settled_targets : (s : State) (count next : ℕ)
    → Targets s.second_is_current s.new_size (settled (advanced s count next))
unfolding settled finished advanced retabled state_of old_new size_of
settled_targets s count next = by (eqb (advanced s count next).old_used 0)
  where
    by : (b : Bool)
        → Targets s.second_is_current s.new_size (cond b (finished (advanced s count next)) (advanced s count next))
    by true = Targets.is_over refl refl refl
    by false = Targets.goes_on refl refl refl

-- what any answered step leaves
unfoldable StepTargets : Bool → ℕ → After (Result (ℕ × State) Error) → Type 0
StepTargets f size (After.after (Err error) c o z) = Unit {0}
StepTargets f size (After.after (Ok (count, t)) c o z) = Targets f size t

step_targets : (s : State) (current other entries : List ℕ)
    → StepTargets s.second_is_current s.new_size (step_taken s current other entries)
unfolding StepTargets step_taken moved_from moved_chain step_done
step_targets s current other entries = by (eqb s.old_used 0)
  where
    chain : (b : ℕ) (c : Option (List ℕ)) → StepTargets s.second_is_current s.new_size (moved_chain s current other entries b c)
    chain b none = tt
    chain b (some ns) = settled_targets s (length ns) (suc b)

    from : (a : Ahead) → StepTargets s.second_is_current s.new_size (moved_from s current other entries a)
    from Ahead.End = tt
    from (Ahead.Empty b) = settled_targets s 0 b
    from (Ahead.Filled b) = chain b (chain_at s current other entries (Place.bucket Table.Old b))

    by : (f : Bool)
        → StepTargets s.second_is_current s.new_size
        (cond f (After.after (step_done s 0 s.rehash_index) current other entries) (moved_from s current other entries (ahead_of s current)))
    by true = settled_targets s 0 s.rehash_index
    by false = from (ahead_of s current)

module _ (t : State) (c o z : List ℕ) (key value : ℕ) where
  -- with the first free entry at the head of the key's bucket there, in a table of that size
  abbrev with_entry : ℕ → After (Result State Error)
  with_entry size =
      After.after (Ok (one_more t (target t.rehashing) (link_of z t.free_head))) c
      (set o (bucket_of key size) t.free_head)
      (set_entry z t.free_head (get_or o (bucket_of key size) 0) key value)

  -- what its table's push leaves, by the flag then
  lent_push : Bool → List ℕ → List ℕ → After (Result State Error)
  lent_push g x y = back g (oriented g (λ c o. pushed t c o z key value (target t.rehashing)) x y)

  pushed_on : (f : Bool) → t.rehashing ≡ true
      → with_entry t.new_size ≡ back f (lent_push f (first_of f c o) (second_of f c o))
  unfolding lent_push oriented back changed buckets_of target size_of
  pushed_on false r = taken t c o z key value Table.New (ap target r)
  pushed_on true r = ap (λ (m : After (Result State Error)). back true (back true m)) (taken t c o z key value Table.New (ap target r))

  pushed_over : (f : Bool) → t.rehashing ≡ false
      → with_entry t.old_size ≡ back f (lent_push (not f) (first_of f c o) (second_of f c o))
  unfolding lent_push oriented back changed buckets_of target size_of
  pushed_over false r = ap (back true) (taken t o c z key value Table.Old (ap target r))
  pushed_over true r = ap (back true) (taken t o c z key value Table.Old (ap target r))

  pushed_other : (f : Bool) (size : ℕ) → Targets f size t
      → with_entry size ≡ back f (pushed_lent t (first_of f c o) (second_of f c o) z key value)
  unfolding pushed_lent lent_push
  pushed_other f size (Targets.goes_on g r n) =
      ap with_entry (sym n)
      ∙ pushed_on f r
      ∙ ap (λ (g : Bool). back f (lent_push g (first_of f c o) (second_of f c o))) (sym g)
  pushed_other f size (Targets.is_over g r n) =
      ap with_entry (sym n)
      ∙ pushed_over f r
      ∙ ap (λ (g : Bool). back f (lent_push g (first_of f c o) (second_of f c o))) (sym g)

  -- as the code has it
  pushed_with : (f : Bool) (size n link : ℕ) → Targets f size t → n ≡ t.free_head → link ≡ link_of z t.free_head
      → After.after (Ok (one_more t (target t.rehashing) link)) c (set o (bucket_of key size) n)
      (set_entry z n (get_or o (bucket_of key size) 0) key value)
      ≡ back f (pushed_lent t (first_of f c o) (second_of f c o) z key value)
  pushed_with f size n link h ne le = rw (ne, le) (pushed_other f size h)

-- ---- the step for real, and the entry

taken_leaves : (s : State) (current other entries : List ℕ) → StepDue s current other entries
    → StepLeaves s current other entries (step_taken s current other entries)
taken_leaves s current other entries d =
    subst (StepLeaves s current other entries) (sym (due_stepped s d.due current other entries))
    (step_leaves s current other entries d.sound (due_rehashing s d.due) (due_unpaused s d.due))

module _ (s : State) (current other entries : List ℕ) (key value : ℕ) (f : Foresight) (k : Foretold s current other entries key f)
    (free : ℕ) (e : Ok free ≡ next_free s f.held (entries_after (step_taken s current other entries)))
    (p : ℕ × State) (c o z : List ℕ) (Taken_step : After.after (Ok p) c o z ≡ step_taken s current other entries) where
  abbrev due : StepDue s current other entries
  due = k.going.due

  abbrev count : ℕ
  count = p.0

  abbrev t : State
  t = p.1

  takes : Takes s f.held z free
  unfolding entries_after
  takes = takes_free s f.held z free (rw (← Taken_step) at e)

  pub taken_some : 0 < s.free_head
  taken_some = some_free s z takes.takeable

  pub taken_readable : Readable s.new_size (length o) s.free_head (length z)
  unfolding StepLeaves
  taken_readable =
      let then : StepLeaves s current other entries (After.after (Ok p) c o z) =
      subst (StepLeaves s current other entries) (sym Taken_step) (taken_leaves s current other entries due) in
      let new = due.sound.rehashing (due_rehashing s due.due) in
      record {
        size_legal = new.new_legal;
        buckets_fit = omega (arith, then.1);
        entries_fit = omega (arith, then.2, due.sound.entries_fit, due.sound.free_fits);
      }

  -- the same on the lent buffers

  abbrev x : List ℕ
  x = first_of s.second_is_current c o

  abbrev y : List ℕ
  y = second_of s.second_is_current c o

  planned : Planned s (first s current other entries) (second s current other entries) entries key (Ok f.held)
  unfolding presence_then
  planned =
      record {
        sound = lent s current other entries due.sound;
        due = due.due;
        told = k.told ∙ ap (presence_after key) (lent_step s current other entries due.sound due.due);
      }

  lent_taken : After.after (Ok p) x y z ≡ rehash_step s (first s current other entries) (second s current other entries) entries
  lent_taken =
      sym (lent_of s.second_is_current (Ok p) c o z)
      ∙ ap (back s.second_is_current) Taken_step
      ∙ lent_step s current other entries due.sound due.due

  world : StepTaken s (first s current other entries) (second s current other entries) entries key (Ok f.held) count t x y z
  world =
      step_taken_lem s (first s current other entries) (second s current other entries) entries key (Ok f.held) planned
      (Ok p) x y z lent_taken count t refl

  pub taken_counted : Counted t
  unfolding sound_lent
  taken_counted = tested_counts t _ _ (length z) _ refl world.sound

  taken_targets : Targets s.second_is_current s.new_size t
  unfolding StepTargets
  taken_targets =
      subst (StepTargets s.second_is_current s.new_size) (sym Taken_step) (step_targets s current other entries)

  -- the first free entry is there then
  takes_then : Takes t f.held z free
  unfolding entries_after
  takes_then = takes_free t f.held z free (rw (← Taken_step) at (e) ∙ sym (next_follows s t f.held z world.follows))

  -- an add alone there takes the entry
  alone : pushed_lent t x y z key value ≡ add_alone t x y z key value
  alone =
      alone_pushes t x y z key value world.sound
      (is_absent (lookup_lent t x y z key) (rw takes.absent at world.told)) takes_then.not_full takes_then.takeable

  pub add_taken : (b w : List ℕ) → b ≡ set o (bucket_of key s.new_size) s.free_head
      → w ≡ set_entry z s.free_head (get_or o (bucket_of key s.new_size) 0) key value
      → (u : State) → u ≡ one_more t (target t.rehashing) free
      → After.after (Ok u) c b w ≡ add_moving s current other entries key value
  unfolding add_moving add_after_step is_added
  add_taken b w be we u ue =
      let g = s.second_is_current in
      let a : Result State Error = Ok (one_more t (target t.rehashing) free) in
      let here : After.after a c b w ≡ back g (pushed_lent t x y z key value) =
      rw (be, we)
      (pushed_with t c o z key value g s.new_size s.free_head free taken_targets (sym world.follows.free) takes_then.link) in
      let there = sym (lent_of g a c b w) ∙ ap (back g) here ∙ twice_back g (pushed_lent t x y z key value) in
      rw ue
      (lent_back g a c b w
      ∙ ap (back g)
      (first_done Err is_added (λ t x y z. add_alone t x y z key value) s (first s current other entries)
      (second s current other entries) entries due.due count t x y z a (first_of g c b) (second_of g c b) w world.step
      (there ∙ alone) refl))
