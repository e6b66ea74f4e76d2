-- What is foreseen of a step, from the survey, from what comes from the next bucket on and from the counts; and from there an
-- entry's link then, and the step.
-- Assumes nothing.
use Prim.Native.Nat.{ℕ, ◌+◌, ◌-◌, ◌<◌}
use mathlib.Core.Path.{◌≡◌, refl, sym, ap, subst, ◌∙◌}
use mathlib.Core.Logic.{inl, inr}
use mathlib.Core.Bool.{Bool, true, false, ◌||◌}
use mathlib.Core.List.{List, [], ◌∷◌}
use mathlib.Core.Option.{Option, some}
use native.Mathlib.Omega.{arith}
use lib.ListN.{length, get_or}
use lib.Dec.{eqb}
use borrow.Author.Tests.{eq-eqb}
use Rattle.cursor.specs.Member.{In}
use Rattle.model.specs.declared.State.{State}
use Rattle.model.specs.declared.Table.{Table}
use Rattle.model.specs.declared.Error.{Error}
use Rattle.model.specs.declared.Ahead.{Ahead}
use Rattle.model.specs.Keys.{bucket_of}
use Rattle.model.specs.Memory.{link_of}
use Rattle.model.specs.Calls.{After, both, moved_chain, moved_from, ahead_of, step_taken, step_done, settled, advanced}
use Rattle.model.proofs.Soundness.{Sound}
use Rattle.model.proofs.Moved.{moved_link}
use Rattle.memory.specs.Length.{bucket_chain}
use Rattle.search.specs.Found.{Found, found_of}
use Rattle.search.specs.Tables.{searched_in}
use Rattle.dict_rehash.specs.MovedChains.{old_chain, chains, ChainOf}
use Rattle.dict_rehash.proofs.Stepping.{old_linked, chain_of_lem, next_end, next_empty, step_finished, step_moved}
use Rattle.after_step.specs.declared.presence.Survey.{Survey}
use Rattle.after_step.specs.declared.course.ChainSight.{ChainSight}
use Rattle.after_step.specs.Presence.{presence_then, entries_after}
use Rattle.after_step.specs.Told.{among, surveyed, found_presence, new_then, old_then, tables_then, Moves}
use Rattle.after_step.specs.Links.{LinkMoved}
use Rattle.after_step.specs.Course.{Course, Foresight, sight, GoesChain, Goes, Foreseen, chain_course, ForeseenChain}
use Rattle.after_step.proofs.Surveying.{surveyed_none, surveyed_some}
use Rattle.after_step.proofs.Deciding.{exit_is, old_damaged, new_damaged, in_either, moving_unsound, moving_sound, ahead_end, ahead_empty, step_ended}
use Rattle.std.specs.Prelude.{Result, Ok, Err}
use Rattle.std.specs.Result.{IsErrAnd}

-- ---- the chain of bucket b of the old table

course_read : (b n : ℕ) (o : Option (List ℕ)) (ns : List ℕ) (count : ℕ) (meets : Bool) → o ≡ some ns → count ≡ length ns → meets ≡ among n ns
    → chain_course b n o ≡ Course.Moving (record { bucket = b; count = count; held = false; meets = meets })
unfolding chain_course
course_read b n o ns count meets read k g = rw (read, k, g)

module _ (s : State) (current other entries : List ℕ) (b key c n : ℕ) where
  pub foreseen_unsound : (r : Result ChainSight Error) (x : Error) → IsErrAnd r (λ e. e ≡ x)
      → Err x ≡ surveyed entries s.new_size c key n (old_chain s current entries b)
      → ForeseenChain s current other entries key n (moved_chain s current other entries b (old_chain s current entries b)) b r
  unfolding ForeseenChain chain_course Goes moved_chain
  foreseen_unsound r x h e =
      let (no_chain, damaged) = surveyed_none entries s.new_size c key n x (old_chain s current entries b) e in
      rw (exit_is r x h) (record { told = moving_unsound s current other entries b key c n x e; goes = rw no_chain })

  module _ (v : Survey) (e : Ok v ≡ surveyed entries s.new_size c key n (old_chain s current entries b)) (ce : c ≡ bucket_of key s.new_size)
      (moves : Moves s current other entries b) where
    abbrev then : Result Bool Error
    then = tables_then s current other entries b key (s.old_used - v.count) (s.new_used + v.count - v.joining) v.last v.held

    abbrev sees : Bool → ChainSight
    sees held = record { bucket = b; count = v.count; held = held; meets = v.meets }

    chain_goes : (held : Bool)
        → GoesChain s current other entries n (moved_chain s current other entries b (old_chain s current entries b)) (sees held)
    chain_goes held =
        let (ns, read, k, l, m, h, g) = surveyed_some entries s.new_size c key n v (old_chain s current entries b) e in
        record {
          below = moves.below;
          chain = record { ns = ns; read = read; counted = sym k };
          step = refl;
          met = g;
        }

    abbrev step : After (Result (ℕ × State) Error)
    step = moved_chain s current other entries b (old_chain s current entries b)

    abbrev new : Option (List ℕ)
    new = bucket_chain s.new_size entries s.capacity (s.new_used + v.count - v.joining) other (bucket_of key s.new_size)

    -- where damage is met after the survey, that chain moves
    moves_on : chain_course b n (old_chain s current entries b) ≡ Course.Moving (sees false)
    moves_on =
        let (ns, read, k, l, m, h, g) = surveyed_some entries s.new_size c key n v (old_chain s current entries b) e in
        course_read b n (old_chain s current entries b) ns v.count v.meets read k g

    -- a chain that a lookup reads after the move is not sound
    damaged : (r : Result ChainSight Error) (x : Error) → IsErrAnd r (λ e. e ≡ x) → Err x ≡ then
        → ForeseenChain s current other entries key n step b r
    unfolding ForeseenChain Goes
    damaged r x h f =
        rw (exit_is r x h)
        (record { told = moving_sound s current other entries b key c n v e ce moves (Err x) f; goes = rw moves_on (chain_goes false) })

    pub foreseen_old : (r : Result ChainSight Error) (x : Error) → IsErrAnd r (λ e. e ≡ x)
        → Err x ≡ old_then entries s.capacity (s.old_used - v.count) current s.old_size b key
        → ForeseenChain s current other entries key n (moved_chain s current other entries b (old_chain s current entries b)) b r
    foreseen_old r x h f =
        damaged r x h (old_damaged s current other entries b key (s.old_used - v.count) (s.new_used + v.count - v.joining) v.last v.held x f)

    module _ (held : Bool) (o : Ok held ≡ old_then entries s.capacity (s.old_used - v.count) current s.old_size b key) where
      pub foreseen_new : (r : Result ChainSight Error) (x : Error) → IsErrAnd r (λ e. e ≡ x)
          → Err x
          ≡ new_then entries key v.last v.held
          (bucket_chain s.new_size entries s.capacity (s.new_used + v.count - v.joining) other (bucket_of key s.new_size))
          → ForeseenChain s current other entries key n (moved_chain s current other entries b (old_chain s current entries b)) b r
      foreseen_new r x h f =
          damaged r x h
          (new_damaged s current other entries b key (s.old_used - v.count) (s.new_used + v.count - v.joining) v.last v.held held o x f)

      pub foreseen_moving : (held' : Bool)
          → Ok held'
          ≡ new_then entries key v.last v.held
          (bucket_chain s.new_size entries s.capacity (s.new_used + v.count - v.joining) other (bucket_of key s.new_size))
          → ForeseenChain s current other entries key n (moved_chain s current other entries b (old_chain s current entries b)) b
          (Ok (record { bucket = b; count = v.count; held = held || held'; meets = v.meets }))
      unfolding ForeseenChain Goes
      foreseen_moving held' f =
          let told = in_either s current other entries b key (s.old_used - v.count) (s.new_used + v.count - v.joining) v.last v.held held o held' f in (
            refl,
            record {
              told = moving_sound s current other entries b key c n v e ce moves (Ok (held || held')) told;
              goes = chain_goes (held || held');
            },
          )

-- the same of the step that moves that chain

module _ (s : State) (current other entries : List ℕ) (key n b : ℕ) (a : After (Result (ℕ × State) Error)) where
  pub chain_damaged : (e : Error) → ForeseenChain s current other entries key n a b (Err e) → Err e ≡ presence_then key s.second_is_current a
  unfolding ForeseenChain
  chain_damaged e h = h.told

  pub chain_sound : (c : ChainSight) → ForeseenChain s current other entries key n a b (Ok c)
      → Foreseen s current other entries key n a (sight (Ok c.held) (Course.Moving c))
  unfolding ForeseenChain
  chain_sound c h = h.1

-- ---- what comes from the next bucket on, and the step

module _ (s : State) (current other entries : List ℕ) (key n : ℕ) where
  -- foreseen of one step, and so of another that does the same
  pub same_step : (a b : After (Result (ℕ × State) Error)) → a ≡ b → (r : Foresight) → Foreseen s current other entries key n a r
      → Foreseen s current other entries key n b r
  same_step a b e r h = subst (λ (x : After (Result (ℕ × State) Error)). Foreseen s current other entries key n x r) e h

  module _ (r o : Ahead) (f : r ≡ o) where
    pub foreseen_end : r ≡ Ahead.End
        → Foreseen s current other entries key n (moved_from s current other entries o) (sight (Err Error.Damaged) Course.Refused)
    unfolding Goes
    foreseen_end e =
        record { told = ahead_end s key current other entries r o f e; goes = next_end s current other entries r o f e }

    pub foreseen_empty : (b : ℕ) → r ≡ Ahead.Empty b → 0 < s.old_used → (y : Found) (x : Result Bool Error)
        → y ≡ found_of (both
        (searched_in entries s.capacity s.old_used current s.old_size key Table.Old)
        (searched_in entries s.capacity s.new_used other s.new_size key Table.New))
        → x ≡ found_presence y
        → Foreseen s current other entries key n (moved_from s current other entries o) (sight x (Course.Still b))
    unfolding Goes step_done
    foreseen_empty b e l y x g h =
        record {
          told = ahead_empty s key current other entries r o f b e l y x g h;
          goes = next_empty s current other entries r o f b (settled (advanced s 0 b)) e refl;
        }

  pub foreseen_ended : s.old_used ≡ 0 → (y : Found) (x : Result Bool Error)
      → ((t : Table) → y ≡ found_of (searched_in entries s.capacity s.new_used other s.new_size key t))
      → x ≡ found_presence y
      → Foreseen s current other entries key n (step_taken s current other entries) (sight x (Course.Still s.rehash_index))
  unfolding Goes step_done
  foreseen_ended z y x g h =
      record {
        told = step_ended s key current other entries z y x g h;
        goes = step_finished s current other entries (settled (advanced s 0 s.rehash_index)) z refl;
      }

  pub foreseen_ahead : (s.old_used ≡ 0 → ⊥) → (x : Foresight)
      → Foreseen s current other entries key n (moved_from s current other entries (ahead_of s current)) x
      → Foreseen s current other entries key n (step_taken s current other entries) x
  foreseen_ahead z x h = same_step _ _ (step_moved s current other entries _ z refl) x h

-- ---- by the course

not_among : (n : ℕ) (ns : List ℕ) → among n ns ≡ false → ¬ In n ns
unfolding among
not_among n [] e i = elim i [ ]
not_among n (m ∷ ns) e (inl f) = let t = eq-eqb m n (sym f) in let z : ◌≡◌ {A = ℕ} 0 1 = cc in omega arith
not_among n (m ∷ ns) e (inr i) = not_among n ns (behind (eqb m n) (among n ns) e) i
  where
    behind : (t u : Bool) → (t || u) ≡ false → u ≡ false
    behind false u f = f
    behind true u f = let z : ◌≡◌ {A = ℕ} 0 1 = cc in absurd (omega arith)

module _ (s : State) (current other entries : List ℕ) (n : ℕ) (a : After (Result (ℕ × State) Error)) where
  module _ (c : ChainSight) (k : GoesChain s current other entries n a c) where
    pub goes_counted : Sound s (length current) (length other) (length entries) → ChainOf entries (get_or current c.bucket 0) c.count
    goes_counted h = chain_of_lem s current entries c.bucket c.count k.chain h.entries_fit

    -- the entry is on the chain
    pub link_met : (link : ℕ) → Sound s (length current) (length other) (length entries)
        → LinkMoved s.new_size (get_or current c.bucket 0) n link (chains other entries) → link ≡ link_of (entries_after a) n
    unfolding entries_after moved_chain
    link_met link h m =
        rw (← k.step, k.chain.read) (m.each k.chain.ns (old_linked s current entries c.bucket c.count k.chain h.entries_fit))

    -- it is not, and keeps its link
    pub link_kept : (link : ℕ) → c.meets ≡ false → link ≡ link_of entries n → link ≡ link_of (entries_after a) n
    unfolding entries_after moved_chain
    link_kept link f l =
        rw (← k.step, k.chain.read)
        (l ∙ sym (moved_link s.new_size k.chain.ns (chains other entries) n (not_among n k.chain.ns (sym k.met ∙ f))))

  module _ (course : Course) (g : Goes s current other entries n a course) where
    pub goes_still : (next : ℕ) → course ≡ Course.Still next
        → After.after (step_done s 0 next) current other entries ≡ a
    unfolding Goes
    goes_still next e = rw e at g

    pub link_still : (next : ℕ) → course ≡ Course.Still next → (link : ℕ) → link ≡ link_of entries n
        → link ≡ link_of (entries_after a) n
    unfolding entries_after
    link_still next e link l = l ∙ ap (λ (x : After (Result (ℕ × State) Error)). link_of (entries_after x) n) (goes_still next e)
