-- What reading a chain gives, in demand 1's words: its entries where it is sound, and that it is not sound where nothing
-- was read. Then whether a key is on it.
-- Assumes nothing.
use Prim.Native.Nat.{ℕ, zero, suc, ◌+◌, ◌-◌, ◌<◌, ◌≤◌}
use mathlib.Core.Path.{◌≡◌, refl, sym, ap, ◌∙◌, subst}
use mathlib.Core.Bool.{Bool}
use mathlib.Core.List.{List, [], ◌∷◌}
use mathlib.Core.Logic.{inl, inr}
use mathlib.Core.Option.{Option, none, some}
use native.Mathlib.Nat.{add-zero, add-suc}
use native.Mathlib.Numerals.{sub-one}
use native.Mathlib.Omega.{arith}
use lib.ListN.{length}
use Rattle.cursor.specs.Member.{In}
use Rattle.model.specs.Memory.{Place, link_of, key_of, budget_at, belongs, chain_at}
use Rattle.model.specs.Sequences.{World}
use Rattle.model.proofs.Linked.{Linked, Passing, read_complete, read_sound, linked_in_range}
use Rattle.refinement.specs.Worlds.{current, other}
use Rattle.refinement.specs.Demand1.{nth, Chain, head_of, ChainAt, SoundChain, OnChain}

module _ (entries : List ℕ) where
  nth_from : (head i k : ℕ) → nth entries head (i + k) ≡ nth entries (nth entries head i) k
  unfolding nth
  nth_from head i zero = rw add-zero
  nth_from head i (suc k) = rw add-suc (ap (link_of entries) (nth_from head i k))

  nth_link : (head k : ℕ) → nth entries (link_of entries head) k ≡ nth entries head (suc k)
  unfolding nth
  nth_link head zero = refl
  nth_link head (suc k) = ap (link_of entries) (nth_link head k)

  -- behind the end there is 0 only
  nth_zero : (k : ℕ) → nth entries 0 k ≡ 0
  unfolding nth link_of
  nth_zero zero = refl
  nth_zero (suc k) = ap (link_of entries) (nth_zero k)

-- The numbers met from the head of a linked list are its entries, and then 0.

module _ (entries : List ℕ) (capacity : ℕ) where
  linked_nth : (head : ℕ) (ns : List ℕ) → Linked entries capacity head ns → (k : ℕ) → k < length ns
      → In (nth entries head k) ns
  unfolding Linked nth
  linked_nth head [] h k l = absurd (omega arith)
  linked_nth head (n ∷ ns) h zero l = inl h.0
  linked_nth head (n ∷ ns) h (suc k) l =
      inr
      (subst (λ (x : ℕ). In x ns) (nth_link entries head k)
      (rw h.0 (linked_nth (link_of entries n) ns h.3 k (omega arith))))

  linked_in : (head : ℕ) (ns : List ℕ) → Linked entries capacity head ns → (n : ℕ) → In n ns
      → (k : ℕ) × (k < length ns) × (nth entries head k ≡ n)
  unfolding Linked nth
  linked_in head [] h n i = elim i [ ]
  linked_in head (m ∷ ns) h n (inl e) = (0, omega arith, h.0 ∙ sym e)
  linked_in head (m ∷ ns) h n (inr i) =
      let (k, l, e) = linked_in (link_of entries m) ns h.3 n i in
      (suc k, omega arith, rw (← nth_link entries head k, h.0) e)

  linked_end : (head : ℕ) (ns : List ℕ) → Linked entries capacity head ns → nth entries head (length ns) ≡ 0
  unfolding Linked nth
  linked_end head [] h = h
  linked_end head (n ∷ ns) h = rw (← nth_link entries head (length ns), h.0) (linked_end (link_of entries n) ns h.3)

-- A chain, whatever the test of its keys.

module _ (test : ℕ → Bool) (entries : List ℕ) (capacity : ℕ) where
  -- a chain from the number met after k links
  chain_from : (head count k : ℕ) → k ≤ count → Chain test entries capacity head count
      → Chain test entries capacity (nth entries head k) (count - k)
  chain_from head count k l c =
      record {
        entry = λ i h. rw (nth_from entries head k i) at (c.entry (k + i) (omega arith));
        key = λ i h. rw (nth_from entries head k i) at (c.key (k + i) (omega arith));
        end =
            sym (nth_from entries head k (count - k))
            ∙ ap (nth entries head) (omega arith)
            ∙ c.end;
      }

  -- no chain has two lengths
  not_shorter : (head m n : ℕ) → Chain test entries capacity head m → Chain test entries capacity head n → ¬ (m < n)
  not_shorter head m n c d h = let e = d.entry m h in let z = c.end in omega arith

  one_length : (head m n : ℕ) → Chain test entries capacity head m → Chain test entries capacity head n → m ≡ n
  one_length head m n c d = omega (arith, not_shorter head m n c d, not_shorter head n m d c)

  past_end : (head count k : ℕ) → Chain test entries capacity head count → count ≤ k → nth entries head k ≡ 0
  past_end head count k c l =
      ap (nth entries head) (omega arith)
      ∙ nth_from entries head count (k - count)
      ∙ ap (λ (n : ℕ). nth entries n (k - count)) c.end
      ∙ nth_zero entries (k - count)

  -- a chain that comes back to an entry would have two lengths from there on
  no_loop : (head i d count : ℕ) → nth entries head (i + suc d) ≡ nth entries head i → ¬ (nth entries head i ≡ 0)
      → ¬ Chain test entries capacity head count
  no_loop head i d count e f c =
      let far : ¬ (count ≤ i + suc d) = λ l. f (sym e ∙ past_end head count (i + suc d) c l) in
      let again = rw e at (chain_from head count (i + suc d) (omega arith) c) in
      omega
      (arith, one_length (nth entries head i) (count - i) (count - (i + suc d)) (chain_from head count i (omega arith) c) again)

  -- the entries of a chain, as a list

  chain_linked : (head count : ℕ) → Chain test entries capacity head count
      → (ns : List ℕ) × (length ns ≡ count) × Linked entries capacity head ns × Passing test entries ns
  unfolding Linked nth
  chain_linked head zero c = ([], refl, c.end, λ n i. absurd i)
  chain_linked head (suc count) c =
      let (pos, fits) = c.entry 0 (omega arith) in
      let rest = rw sub-one at (chain_from head (suc count) 1 (omega arith) c) in
      let (ns, l, h, f) = chain_linked (link_of entries head) count rest in
      let passes = c.key 0 (omega arith) in
      (head ∷ ns, ap suc l, (refl, pos, fits, h), λ n i. elim i [ inl e ↦ rw e passes | inr j ↦ f n j ])

  linked_chain : (head : ℕ) (ns : List ℕ) → Linked entries capacity head ns → Passing test entries ns
      → Chain test entries capacity head (length ns)
  linked_chain head ns h f =
      record {
        entry = λ k l. linked_in_range entries capacity head (nth entries head k) ns h (linked_nth entries capacity head ns h k l);
        key = λ k l. f (nth entries head k) (linked_nth entries capacity head ns h k l);
        end = linked_end entries capacity head ns h;
      }

-- At a place of a store.

module _ (w : World) where
  -- what was read there: nothing where the chain is not sound, else its entries
  unfoldable pub AtPlace : Place → Option (List ℕ) → Type 0
  AtPlace p none = ¬ SoundChain w p
  AtPlace p (some ns) =
      (length ns ≤ budget_at w.state p)
      × Linked w.entries w.state.capacity (head_of w p) ns
      × Passing (belongs w.state p) w.entries ns

  pub place_read : (p : Place) → AtPlace p (chain_at w.state (current w) (other w) w.entries p)
  unfolding AtPlace SoundChain ChainAt chain_at head_of
  place_read p = by (chain_at w.state (current w) (other w) w.entries p) refl
    where
      by : (o : Option (List ℕ)) → chain_at w.state (current w) (other w) w.entries p ≡ o → AtPlace p o
      by none e =
          λ s.
          let (ns, k, h, f) = chain_linked (belongs w.state p) w.entries w.state.capacity (head_of w p) s.0 s.2 in
          let r = read_complete (belongs w.state p) w.entries w.state.capacity (budget_at w.state p) (head_of w p) ns h f (omega (arith, s.1)) in
          let z : ◌≡◌ {A = ℕ} 0 1 = cc in
          omega arith
      by (some ns) e =
          let (h, l, f) = read_sound (belongs w.state p) w.entries w.state.capacity (budget_at w.state p) (head_of w p) ns e in
          (l, h, f)

  -- the chain that was read is sound
  pub place_chain : (p : Place) (ns : List ℕ) → AtPlace p (some ns) → ChainAt w p (length ns)
  unfolding AtPlace ChainAt
  place_chain p ns r = linked_chain (belongs w.state p) w.entries w.state.capacity (head_of w p) ns r.1 r.2

  pub place_sound : (p : Place) (ns : List ℕ) → AtPlace p (some ns) → SoundChain w p
  unfolding AtPlace SoundChain
  place_sound p ns r = (length ns, r.0, place_chain p ns r)

  pub same_count : (p : Place) (m n : ℕ) → ChainAt w p m → ChainAt w p n → m ≡ n
  unfolding ChainAt
  same_count p m n c d = one_length (belongs w.state p) w.entries w.state.capacity (head_of w p) m n c d

  -- a key is on it exactly when one of its entries has the key
  pub on_chain : (key : ℕ) (p : Place) (ns : List ℕ) → AtPlace p (some ns)
      → (n : ℕ) → In n ns → key_of w.entries n ≡ key → OnChain w key p
  unfolding AtPlace OnChain
  on_chain key p ns r n i e =
      let (k, l, same) = linked_in w.entries w.state.capacity (head_of w p) ns r.1 n i in
      (length ns, k, place_chain p ns r, l, rw same e)

  pub in_chain : (key : ℕ) (p : Place) (ns : List ℕ) → AtPlace p (some ns) → OnChain w key p
      → (n : ℕ) × In n ns × (key_of w.entries n ≡ key)
  unfolding AtPlace OnChain
  in_chain key p ns r (count, k, c, l, e) =
      let same = same_count p count (length ns) c (place_chain p ns r) in
      (_, linked_nth w.entries w.state.capacity (head_of w p) ns r.1 k (omega arith), e)

  -- a chain that comes back to an entry is not sound
  pub loop_unsound : (p : Place) (i d : ℕ)
      → nth w.entries (head_of w p) (i + suc d) ≡ nth w.entries (head_of w p) i
      → ¬ (nth w.entries (head_of w p) i ≡ 0) → ¬ SoundChain w p
  unfolding SoundChain ChainAt
  loop_unsound p i d e f c = no_loop (belongs w.state p) w.entries w.state.capacity (head_of w p) i d c.0 e f c.2
