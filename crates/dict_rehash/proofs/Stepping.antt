-- What a rehash step comes to, from its tests and the functions that it calls.
-- Assumes nothing.
use Prim.Native.Nat.{ℕ, ◌+◌, ◌*◌, ◌-◌, ◌≤◌, ◌<◌}
use mathlib.Core.Path.{◌≡◌, refl, sym, ◌∙◌}
use mathlib.Core.Bool.{Bool, true, false}
use mathlib.Core.List.{List}
use mathlib.Core.Option.{Option, some}
use native.Mathlib.Numerals.{add-one}
use native.Mathlib.Omega.{arith}
use lib.ListN.{length, get_or, set}
use mir.Syntax.{w32}
use mir.Val.{Fits}
use borrow.Author.Tests.{eq-eqb, ne_eqb}
use Rattle.model.specs.declared.State.{State}
use Rattle.model.specs.declared.Error.{Error}
use Rattle.model.specs.declared.Ahead.{Ahead}
use Rattle.model.specs.Limits.{legal_size}
use Rattle.model.specs.Memory.{size_of, used_of, buckets_of, chain, head_at, budget_at, belongs, chain_at, listed}
use Rattle.model.specs.Calls.{After, Chains, state_of, old_new, retabled, moved, advanced, finished, settled, step_done, moved_chain, moved_from, ahead, ahead_of, step_taken, stepped, rehash_step}
use Rattle.model.proofs.Soundness.{Sound}
use Rattle.model.proofs.StepAhead.{filled_below}
use Rattle.model.proofs.Linked.{Linked, room, read_sound, linked_wider}
use Rattle.memory.specs.Length.{length_of}
use Rattle.memory.specs.Lent.{sound_lent}
use Rattle.memory.proofs.Orientation.{written_first, written_second, writing_sound}
use Rattle.memory.proofs.Counted.{counted, uncounted}
use Rattle.dict_rehash.specs.MovedChains.{old_chain, step_room, OldChain, chains, ChainOf, ChainMoved}
use Rattle.dict_rehash.proofs.Due.{is_paused, due_of, stepped_by, due_stepped}
use Rattle.std.specs.Prelude.{Result, Ok, Err}
use Rattle.std.specs.Result.{IsErrAnd, IfOk}
use Rattle.std.proofs.lemmas.Result.{err_from_is_err_and}

-- what a sound state says of the two tables during a rehash
module _ (s : State) (current other entries : ℕ) (h : Sound s current other entries) (e : s.rehashing ≡ true) where
  pub index_fits : s.rehash_index ≤ s.old_size
  index_fits = (h.rehashing e).index_fits

  pub target_legal : legal_size s.new_size ≡ true
  target_legal = (h.rehashing e).new_legal

  pub target_fits : s.new_size ≤ other
  target_fits = (h.rehashing e).new_fits

-- ---- a chain that was read, and one whose entries were counted

-- its entries are in the entry buffer
pub read_linked : (test : ℕ → Bool) (entries : List ℕ) (capacity budget head : ℕ) (ns : List ℕ) → chain test entries capacity budget head ≡ some ns
    → capacity * 3 ≤ length entries → Linked entries (room entries) head ns
unfolding room
read_linked test entries capacity budget head ns e fits =
    linked_wider entries capacity (room entries) head ns (omega arith) (read_sound test entries capacity budget head ns e).0

-- the chain of a bucket of the old table, once its entries were counted
pub old_counted : (count : ℕ) (s : State) (current entries : List ℕ) (b : ℕ) → Ok count ≡ length_of (old_chain s current entries b)
    → OldChain s current entries b count
old_counted count s current entries b e =
    let o = old_chain s current entries b in
    let (read, n) = counted (Ok count) count o refl e in
    record { ns = listed o; read = read; counted = n }

module _ (s : State) (current entries : List ℕ) (b count : ℕ) (k : OldChain s current entries b count) where
  pub old_linked : s.capacity * 3 ≤ length entries → Linked entries (room entries) (get_or current b 0) k.ns
  old_linked fits = read_linked _ entries s.capacity s.old_used (get_or current b 0) k.ns k.read fits

  pub chain_of_lem : s.capacity * 3 ≤ length entries → ChainOf entries (get_or current b 0) count
  chain_of_lem fits = record { ns = k.ns; linked = old_linked fits; counted = k.counted }

  -- from its head, as it was read
  pub chain_from : (head : ℕ) → head ≡ get_or current b 0 → s.capacity * 3 ≤ length entries → ChainOf entries head count
  chain_from head e fits = rw e (chain_of_lem fits)

  count_fits : count ≤ s.old_used
  count_fits = omega (arith, k.counted, (read_sound _ entries s.capacity s.old_used (get_or current b 0) k.ns k.read).1)

-- ---- the chain of a bucket of the old table

-- a step that is refused moves no keys
pub refused_room : (s : State) (r : Result (ℕ × State) Error) (x : Error) → IsErrAnd r (λ e. e ≡ x) → IfOk r (λ t. step_room s t.0)
refused_room s (Err e) x h = tt
refused_room s (Ok t) x h = absurd h

module _ (s : State) (current other entries : List ℕ) (b : ℕ) where
  moved_by : (c : Option (List ℕ)) (ns : List ℕ) (count : ℕ) (then : Chains) (t : State) → c ≡ some ns → length ns ≡ count
      → then ≡ moved s.new_size ns (chains other entries) → t ≡ settled (advanced s count (b + 1))
      → After.after (Ok (count, t)) (set current b 0) then.buckets then.entries ≡ moved_chain s current other entries b c
  unfolding moved_chain step_done
  moved_by c ns count then t ce n e te = rw (ce, e, te, ← n, add-one)

  pub bucket_unsound : (r : Result (ℕ × State) Error) (x : Error) → IsErrAnd r (λ e. e ≡ x) → Err x ≡ length_of (old_chain s current entries b)
      → After.after r current other entries ≡ moved_chain s current other entries b (old_chain s current entries b)
  unfolding moved_chain
  bucket_unsound r x h e =
      let (none_read, damaged) = uncounted (Err x) x (old_chain s current entries b) refl e in
      let p = err_from_is_err_and r h in
      rw (none_read, p.1, p.2, damaged)

  module _ (count : ℕ) (k : OldChain s current entries b count) (h : Sound s (length current) (length other) (length entries)) where
    pub bucket_moved : (head empty : ℕ) (other' entries' : List ℕ) (t : State) → head ≡ get_or current b 0 → empty ≡ 0
        → ChainMoved s.new_size head (chains other entries) (chains other' entries') → t ≡ settled (advanced s count (b + 1))
        → After.after (Ok (count, t)) (set current b empty) other' entries'
        ≡ moved_chain s current other entries b (old_chain s current entries b)
    bucket_moved head empty other' entries' t h' z m te =
        rw z
        (moved_by (old_chain s current entries b) k.ns count (chains other' entries') t k.read k.counted
        (m.each k.ns (rw h' (old_linked s current entries b count k h.entries_fit))) te)

    -- the counts that change stay in range
    pub moved_old : count ≤ s.old_used
    moved_old = count_fits s current entries b count k

    pub moved_new : s.new_used + count ≤ s.capacity
    moved_new = let short = moved_old in omega (arith, h.used_fits)

  -- the number of the bucket behind it
  pub bucket_behind : b < s.old_size → Fits w32 s.old_size → Fits w32 (b + 1)
  bucket_behind l f = omega arith

-- ---- what comes from the next bucket on

-- no key has moved
pub none_moved : (s : State) (current other entries : ℕ) → Sound s current other entries → s.new_used + 0 ≤ s.capacity
none_moved s current other entries h = omega (arith, h.used_fits)

-- a filled bucket lies in the old table
pub next_below : (r : Ahead) (buckets : List ℕ) (from size visits : ℕ) → r ≡ ahead buckets from (size - from) visits
    → from ≤ size → (b : ℕ) → r ≡ Ahead.Filled b → b < size
next_below r buckets from size visits e l b f =
    omega (arith, filled_below buckets from (size - from) visits b (sym e ∙ f))

module _ (s : State) (current other entries : List ℕ) (r o : Ahead) (f : r ≡ o) where
  pub next_end : r ≡ Ahead.End → After.after (Err Error.Damaged) current other entries ≡ moved_from s current other entries o
  unfolding moved_from
  next_end e = rw (← f, e)

  pub next_empty : (b : ℕ) (t : State) → r ≡ Ahead.Empty b → t ≡ settled (advanced s 0 b)
      → After.after (Ok (0, t)) current other entries ≡ moved_from s current other entries o
  unfolding moved_from step_done
  next_empty b t e te = rw (← f, e, te)

  pub next_filled : (b : ℕ) → r ≡ Ahead.Filled b → (a : After (Result (ℕ × State) Error))
      → a ≡ moved_chain s current other entries b (old_chain s current entries b) → a ≡ moved_from s current other entries o
  unfolding moved_from chain_at head_at budget_at belongs size_of used_of buckets_of
  next_filled b e a h = rw (← f, e) h

-- ---- a step that is taken

module _ (s : State) (current other entries : List ℕ) where
  pub step_finished : (t : State) → s.old_used ≡ 0 → t ≡ settled (advanced s 0 s.rehash_index)
      → After.after (Ok (0, t)) current other entries ≡ step_taken s current other entries
  unfolding step_taken step_done
  step_finished t z te = rw (eq-eqb s.old_used 0 z, te)

  pub step_moved : (a : After (Result (ℕ × State) Error)) → (s.old_used ≡ 0 → ⊥) → a ≡ moved_from s current other entries (ahead_of s current)
      → a ≡ step_taken s current other entries
  unfolding step_taken
  step_moved a z d = rw (ne_eqb s.old_used 0 z) d

-- ---- a step in a sound state

module _ (s : State) (current other entries : List ℕ) where
  pub step_resting : s.rehashing ≡ false
      → After.after (Err Error.NotRehashing) current other entries ≡ stepped s current other entries s.rehashing
  unfolding stepped
  step_resting p = rw p

  pub step_paused : s.rehashing ≡ true → (s.safe_iterators ≡ 0 → ⊥)
      → After.after (Err Error.Paused) current other entries ≡ stepped s current other entries s.rehashing
  step_paused p i = stepped_by s current other entries p true (is_paused s i)

  pub step_due_lem : (a : After (Result (ℕ × State) Error)) → s.rehashing ≡ true → s.safe_iterators ≡ 0 → a ≡ step_taken s current other entries
      → a ≡ stepped s current other entries s.rehashing
  step_due_lem a p i d = d ∙ due_stepped s (due_of s p i) current other entries

-- ---- on the lent buffers

module _ (s : State) (first second entries : List ℕ) (h : sound_lent (length first) (length second) (length entries) s ≡ true)
    (m : Result (ℕ × State) Error) (x y e : List ℕ) where
  pub step_lent_first : s.second_is_current ≡ false → After.after m x y e ≡ stepped s first second entries s.rehashing
      → After.after m x y e ≡ rehash_step s first second entries
  unfolding rehash_step
  step_lent_first f d = writing_sound s first second entries true (sym h) _ _ _ refl (written_first _ _ first second m x y e f d)

  pub step_lent_second : s.second_is_current ≡ true → After.after m x y e ≡ stepped s second first entries s.rehashing
      → After.after m y x e ≡ rehash_step s first second entries
  unfolding rehash_step
  step_lent_second f d = writing_sound s first second entries true (sym h) _ _ _ refl (written_second _ _ first second m x y e f d)

-- ---- the state then

module _ (s : State) (count next : ℕ) where
  pub settled_end : count ≡ s.old_used → finished (advanced s count next) ≡ settled (advanced s count next)
  unfolding settled advanced retabled state_of old_new
  settled_end e = let none_left : s.old_used - count ≡ 0 = omega arith in rw (eq-eqb (s.old_used - count) 0 none_left)

  pub settled_on : count ≤ s.old_used → (count ≡ s.old_used → ⊥) → advanced s count next ≡ settled (advanced s count next)
  unfolding settled advanced retabled state_of old_new
  settled_on l f =
      let some_left : s.old_used - count ≡ 0 → ⊥ = λ e. f (omega arith) in rw (ne_eqb (s.old_used - count) 0 some_left)
