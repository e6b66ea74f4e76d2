-- Entries moved in turn to a table, and the chain of one of its buckets: those of that bucket come before it, last first, if
-- they were not on it; and if they were, it is not sound any more.
-- Assumes nothing.
use Prim.Native.Nat.{ℕ, ◌+◌, ◌*◌, ◌<◌, ◌≤◌}
use mathlib.Core.Path.{◌≡◌, refl, sym, ap, ◌∙◌}
use mathlib.Core.Logic.{inl, inr}
use mathlib.Core.Bool.{Bool, true, false, cond}
use mathlib.Core.List.{List, [], ◌∷◌}
use mathlib.Core.Option.{Option, some}
use native.Mathlib.Nat.{mod-lt}
use native.Mathlib.Omega.{arith}
use lib.ListN.{length, get_or, length-set}
use lib.Seq.{get_or-set_same, get_or-set_other}
use mir.Val.{bool_byte}
use borrow.Author.Tests.{eqb-true, eqb-false}
use Rattle.cursor.specs.Member.{In, Distinct}
use Rattle.model.specs.Keys.{bucket_of, hash}
use Rattle.model.specs.Memory.{link_of, key_of, in_bucket}
use Rattle.model.specs.Calls.{Chains, push, moved}
use Rattle.model.proofs.Fields.{length_set_link, link_set_same, key_set_link}
use Rattle.model.proofs.Linked.{Linked, read_sound, read_complete, linked_kept, linked_first, linked_distinct, link_set_other}
use Rattle.memory.specs.Length.{bucket_chain}
use Rattle.after_step.specs.Told.{of_bucket, how_many}
use Rattle.after_step.proofs.SameChains.{chain_same}

-- the entries of ns that pass, each put in front in turn: last first, and then ms
unfoldable pub stacked : (ℕ → Bool) → List ℕ → List ℕ → List ℕ
stacked test [] ms = ms
stacked test (n ∷ ns) ms = stacked test ns (cond (test n) (n ∷ ms) ms)

still_apart : (t : Bool) (n k : ℕ) (ms : List ℕ) → ¬ (k ≡ n) → ¬ In k ms → ¬ In k (cond t (n ∷ ms) ms)
still_apart true n k ms f g i = elim i [ inl e ↦ f e | inr j ↦ g j ]
still_apart false n k ms f g i = g i

-- Entries moved to a table of that size, of which c is a bucket: those that pass the test are of that bucket.
module _ (size c capacity : ℕ) (filled : 0 < size) (test : ℕ → Bool) where
  pub record Movable (ns : List ℕ) (m : Chains) : Type 0 where
    pub in_range : (n : ℕ) → In n ns → (0 < n) × (n ≤ capacity)
    pub entries_fit : capacity * 3 ≤ length m.entries
    pub buckets_fit : size ≤ length m.buckets
    pub tested : (n : ℕ) → of_bucket size c m.entries n ≡ test n

  abbrev pub chain_in : Chains → ℕ → Option (List ℕ)
  chain_in m budget = bucket_chain size m.entries capacity budget m.buckets c

  -- the first of them, put at the head of its bucket
  module _ (n : ℕ) (ns : List ℕ) (m : Chains) (h : Movable (n ∷ ns) m) where
    abbrev d : ℕ
    d = bucket_of (key_of m.entries n) size

    abbrev m' : Chains
    m' = push d n m

    abbrev at : ℕ
    at = get_or m.buckets c 0

    some_entry : 0 < n
    some_entry = (h.in_range n (inl refl)).0

    fits : n ≤ capacity
    fits = (h.in_range n (inl refl)).1

    below : d < length m.buckets
    unfolding bucket_of
    below = omega (arith, mod-lt (hash (key_of m.entries n)) filled, h.buckets_fit)

    keys : (k : ℕ) → key_of m'.entries k ≡ key_of m.entries k
    unfolding push
    keys k = key_set_link m.entries n k _

    links : (k : ℕ) → ¬ (k ≡ n) → link_of m'.entries k ≡ link_of m.entries k
    unfolding push
    links k f = link_set_other m.entries n k _ f

    rest : Movable ns m'
    unfolding push
    rest =
        record {
          in_range = λ k i. h.in_range k (inr i);
          entries_fit = rw length_set_link h.entries_fit;
          buckets_fit = rw length-set h.buckets_fit;
          tested = λ k. ap (in_bucket size c) (keys k) ∙ h.tested k;
        }

    -- a chain on which it has no place is read as before
    elsewhere : test n ≡ false → (budget : ℕ) → chain_in m' budget ≡ chain_in m budget
    unfolding push in_bucket
    elsewhere p budget =
        let stray = h.tested n ∙ p in
        rw (get_or-set_other m.buckets d c n 0 (λ e. eqb-false d c stray (sym e)))
        (chain_same (in_bucket size c) m.entries m'.entries capacity keys
        (λ k q. links k (λ e. let z : ◌≡◌ {A = ℕ} 0 1 = cc (ap (of_bucket size c m.entries) e) in omega arith))
        budget at)

    module _ (p : test n ≡ true) where
      here : d ≡ c
      unfolding in_bucket
      here = eqb-true d c (h.tested n ∙ p)

      head : get_or m'.buckets c 0 ≡ n
      unfolding push
      head = rw (← here) (get_or-set_same m.buckets d n 0 below)

      link : link_of m'.entries n ≡ at
      unfolding push
      link =
          link_set_same m.entries n (get_or m.buckets d 0) some_entry (omega (arith, fits, h.entries_fit))
          ∙ ap (λ (i : ℕ). get_or m.buckets i 0) here

      module _ (budget : ℕ) where
        -- it comes before a sound chain that it is not on
        in_front : (ms : List ℕ) → chain_in m budget ≡ some ms → ¬ In n ms → chain_in m' (budget + 1) ≡ some (n ∷ ms)
        unfolding Linked
        in_front ms read f =
            let (linked, short, passing) = read_sound (in_bucket size c) m.entries capacity budget at ms read in
            let behind = linked_kept m.entries m'.entries capacity at ms (λ k i. links k (λ e. f (rw e at i))) linked in
            read_complete (in_bucket size c) m'.entries capacity (budget + 1) _ (n ∷ ms) (head, some_entry, fits, rw link behind)
            (λ k i. rw (keys k) (elim i [ inl e ↦ rw e (h.tested n ∙ p) | inr j ↦ passing k j ])) (omega arith)

        -- and of no other chain
        behind : (ls : List ℕ) → chain_in m' (budget + 1) ≡ some ls
            → (ms : List ℕ) × (ls ≡ n ∷ ms) × (¬ In n ms) × (chain_in m budget ≡ some ms)
        behind ls read =
            let (linked, short, passing) = read_sound (in_bucket size c) m'.entries capacity (budget + 1) n ls (rw head at read) in
            let (ms, same, linked') = linked_first m'.entries capacity n ls some_entry linked in
            let alone = (linked_distinct m'.entries capacity n (n ∷ ms) (rw same at linked)).0 in
            let before =
            linked_kept m'.entries m.entries capacity at ms (λ k i. sym (links k (λ e. alone (rw e at i))))
            (rw link at linked') in (
              ms,
              same,
              alone,
              read_complete (in_bucket size c) m.entries capacity budget at ms before
                  (λ k i. rw (← keys k) (passing k (rw same (inr i)))) (omega (arith, ap length same)),
            )

    one_more : (t : Bool) → test n ≡ t → (budget : ℕ) (ms : List ℕ) → chain_in m budget ≡ some ms → ¬ In n ms
        → chain_in m' (budget + bool_byte t) ≡ some (cond t (n ∷ ms) ms)
    one_more true p budget ms read f = in_front p budget ms read f
    one_more false p budget ms read f = elsewhere p (budget + 0) ∙ ap (chain_in m) (omega arith) ∙ read

    one_less : (t : Bool) → test n ≡ t → (budget : ℕ) (ls : List ℕ) → chain_in m' (budget + bool_byte t) ≡ some ls
        → (ms : List ℕ) × (chain_in m budget ≡ some ms) × (¬ In n ms) × ((k : ℕ) → In k ms → In k ls)
    one_less true p budget ls read =
        let (ms, same, alone, before) = behind p budget ls read in (ms, before, alone, λ k i. rw same (inr i))
    one_less false p budget ls read =
        let nothing_more : budget ≡ budget + 0 = omega arith in
        let before = ap (chain_in m) nothing_more ∙ sym (elsewhere p (budget + 0)) ∙ read in (
          ls,
          before,
          λ i.
              let q = (read_sound (in_bucket size c) m.entries capacity budget at ls before).2 n i in
              let z : ◌≡◌ {A = ℕ} 0 1 = cc (h.tested n) in
              omega arith,
          λ k i. i,
        )

  -- before a sound chain that shares no entry with them come those that pass ..
  pub moved_in_front : (ns : List ℕ) (m : Chains) → Movable ns m → Distinct ns → (budget whole : ℕ) → budget + how_many test ns ≡ whole
      → (ms : List ℕ) → chain_in m budget ≡ some ms → ((n : ℕ) → In n ns → ¬ In n ms)
      → chain_in (moved size ns m) whole ≡ some (stacked test ns ms)
  unfolding moved how_many stacked
  moved_in_front [] m h d budget whole e ms read apart = let same : whole ≡ budget = omega arith in rw same read
  moved_in_front (n ∷ ns) m h d budget whole e ms read apart =
      moved_in_front ns (push (bucket_of (key_of m.entries n) size) n m) (rest n ns m h) d.1
      (budget + bool_byte (test n)) whole (omega arith) (cond (test n) (n ∷ ms) ms)
      (one_more n ns m h (test n) refl budget ms read (apart n (inl refl)))
      (λ k i. still_apart (test n) n k ms (λ f. d.0 (rw f at i)) (apart k (inr i)))

  -- .. and no other is sound then
  pub moved_before : (ns : List ℕ) (m : Chains) → Movable ns m → (budget whole : ℕ) → budget + how_many test ns ≡ whole
      → (ls : List ℕ) → chain_in (moved size ns m) whole ≡ some ls
      → (ms : List ℕ) × (chain_in m budget ≡ some ms) × ((n : ℕ) → In n ns → ¬ In n ms)
  unfolding moved how_many
  moved_before [] m h budget whole e ls read =
      let same : budget ≡ whole = omega arith in (ls, rw same read, λ n i. absurd i)
  moved_before (n ∷ ns) m h budget whole e ls read =
      let (ks, then, apart) =
      moved_before ns (push (bucket_of (key_of m.entries n) size) n m) (rest n ns m h) (budget + bool_byte (test n)) whole
      (omega arith) ls read in
      let (ms, before, alone, kept) = one_less n ns m h (test n) refl budget ks then in
      (ms, before, λ k i j. elim i [ inl f ↦ alone (rw f at j) | inr l ↦ apart k l (kept k j) ])
