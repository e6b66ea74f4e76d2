-- A chain as its links give it, and the chain as it is read, whatever the test of its keys: what was read is linked and its
-- keys pass, and such a list no longer than the budget is read whole. Reading is a function, so a head has one list, and no
-- list repeats an entry.
-- Assumes nothing.
use Prim.Native.Nat.{ℕ, zero, suc, ◌+◌, ◌*◌, ◌/◌, ◌<◌, ◌≤◌}
use mathlib.Core.Path.{◌≡◌, refl, sym, ap, subst}
use mathlib.Core.Logic.{◌≢◌, inl, inr}
use mathlib.Core.Bool.{Bool, true, false, ◌&&◌}
use mathlib.Core.List.{List, [], ◌∷◌}
use mathlib.Core.Option.{Option, none, some}
use native.Mathlib.Omega.{arith}
use lib.ListN.{length}
use lib.Seq.{get_or-set_other}
use lib.Dec.{leb}
use borrow.Author.Tests.{leb-true, le-leb}
use Rattle.cursor.specs.Member.{In, Distinct}
use Rattle.model.specs.Memory.{link_of, key_of, set_link, chain, any_key, met}
use Rattle.model.proofs.Chains.{chain_end}

-- the entries from a head, link by link, to 0: each is numbered 1 to the most allowed
unfoldable pub Linked : List ℕ → ℕ → ℕ → List ℕ → Type 0
Linked entries most at [] = at ≡ 0
Linked entries most at (n ∷ ns) = (at ≡ n) × (0 < n) × (n ≤ most) × Linked entries most (link_of entries n) ns

-- how many entries the buffer has room for: the most that may be allowed
unfoldable pub room : List ℕ → ℕ
room entries = length entries / 3

-- their keys pass a test
abbrev pub Passing : (ℕ → Bool) → List ℕ → List ℕ → Type 0
Passing test entries ns = (n : ℕ) → In n ns → test (key_of entries n) ≡ true

-- what stands behind an entry that was met
met_some : (t u : Bool) (n : ℕ) (r : Option (List ℕ)) (ns : List ℕ) → met (t && u) n r ≡ some ns
    → (ms : List ℕ) × (t ≡ true) × (u ≡ true) × (r ≡ some ms) × (ns ≡ n ∷ ms)
unfolding met
met_some false u n r ns e = let z : ◌≡◌ {A = ℕ} 0 1 = cc in absurd (omega arith)
met_some true false n r ns e = let z : ◌≡◌ {A = ℕ} 0 1 = cc in absurd (omega arith)
met_some true true n none ns e = let z : ◌≡◌ {A = ℕ} 0 1 = cc in absurd (omega arith)
met_some true true n (some ms) ns e = (ms, refl, refl, refl, cc)

module _ (test : ℕ → Bool) (entries : List ℕ) (most : ℕ) where
  -- a linked list whose keys pass, no longer than the budget, is read whole
  pub read_complete : (budget at : ℕ) (ns : List ℕ) → Linked entries most at ns → Passing test entries ns → length ns ≤ budget
      → chain test entries most budget at ≡ some ns
  unfolding Linked chain met
  read_complete budget at [] h f l = chain_end test entries most budget at h
  read_complete zero at (n ∷ ns) h f l = absurd (omega arith)
  read_complete (suc budget) zero (n ∷ ns) h f l = absurd (omega arith)
  read_complete (suc budget) (suc at) (n ∷ ns) h f l =
      let rest = subst (λ (k : ℕ). Linked entries most (link_of entries k) ns) (sym h.0) h.3 in
      let passes = f (suc at) (inl h.0) in
      rw
      (le-leb (suc at) most (omega arith), passes, read_complete budget (link_of entries (suc at)) ns rest (λ k i. f k (inr i)) (omega arith))
      (cc h.0)

  -- what was read is linked, no longer than the budget, and its keys pass
  pub read_sound : (budget at : ℕ) (ns : List ℕ) → chain test entries most budget at ≡ some ns
      → Linked entries most at ns × (length ns ≤ budget) × Passing test entries ns
  unfolding Linked chain
  read_sound zero zero [] e = (refl, omega arith, λ n i. absurd i)
  read_sound zero zero (n ∷ ns) e = let z : ◌≡◌ {A = ℕ} 0 1 = cc in absurd (omega arith)
  read_sound zero (suc at) ns e = let z : ◌≡◌ {A = ℕ} 0 1 = cc in absurd (omega arith)
  read_sound (suc budget) zero [] e = (refl, omega arith, λ n i. absurd i)
  read_sound (suc budget) zero (n ∷ ns) e = let z : ◌≡◌ {A = ℕ} 0 1 = cc in absurd (omega arith)
  read_sound (suc budget) (suc at) ns e =
      let (ms, t, u, r, same) =
      met_some (leb (suc at) most) (test (key_of entries (suc at))) (suc at)
      (chain test entries most budget (link_of entries (suc at))) ns e in
      let rest = read_sound budget (link_of entries (suc at)) ms r in
      rw same (
        (refl, omega arith, leb-true (suc at) most t, rest.0),
        omega arith,
        λ n i. elim i [ inl f ↦ rw f u | inr j ↦ rest.2 n j ],
      )

module _ (entries : List ℕ) (most : ℕ) where
  -- a head has one list
  pub linked_unique : (at : ℕ) (ns ms : List ℕ) → Linked entries most at ns → Linked entries most at ms → ns ≡ ms
  unfolding any_key
  linked_unique at ns ms h k =
      let left = read_complete any_key entries most (length ns + length ms) at ns h (λ n i. refl) (omega arith) in
      let right = read_complete any_key entries most (length ns + length ms) at ms k (λ n i. refl) (omega arith) in
      cc

  -- an entry of a list heads a list that is no longer
  linked_from : (at n : ℕ) (ns : List ℕ) → Linked entries most at ns → In n ns
      → (ms : List ℕ) × Linked entries most n ms × (length ms ≤ length ns)
  unfolding Linked
  linked_from at n [] h i = elim i [ ]
  linked_from at n (m ∷ ns) h (inl e) = (m ∷ ns, (e, h.1, h.2, h.3), omega arith)
  linked_from at n (m ∷ ns) h (inr i) =
      let (ms, k, l) = linked_from (link_of entries m) n ns h.3 i in (ms, k, omega arith)

  -- no list repeats an entry
  pub linked_distinct : (at : ℕ) (ns : List ℕ) → Linked entries most at ns → Distinct ns
  unfolding Linked
  linked_distinct at [] h = tt
  linked_distinct at (n ∷ ns) h = (alone, linked_distinct (link_of entries n) ns h.3)
    where
      alone : In n ns → ⊥
      alone i =
          let (ms, k, l) = linked_from (link_of entries n) n ns h.3 i in
          omega (arith, ap length (linked_unique n (n ∷ ns) ms (refl, h.1, h.2, h.3) k))

  -- the entries of a list are in range
  pub linked_in_range : (at n : ℕ) (ns : List ℕ) → Linked entries most at ns → In n ns → (0 < n) × (n ≤ most)
  unfolding Linked
  linked_in_range at n [] h i = elim i [ ]
  linked_in_range at n (m ∷ ns) h (inl e) = (omega arith, omega arith)
  linked_in_range at n (m ∷ ns) h (inr i) = linked_in_range (link_of entries m) n ns h.3 i

  -- so is its head, which is 0 where the list is empty
  pub linked_head : (at : ℕ) (ns : List ℕ) → Linked entries most at ns → at ≤ most
  unfolding Linked
  linked_head at [] h = omega arith
  linked_head at (n ∷ ns) h = omega arith

  pub linked_empty : (at : ℕ) (ns : List ℕ) → Linked entries most at ns → at ≡ 0 → ns ≡ []
  unfolding Linked
  linked_empty at [] h e = refl
  linked_empty at (n ∷ ns) h e = absurd (omega arith)

  pub linked_filled : (at : ℕ) (ns : List ℕ) → Linked entries most at ns → at ≢ 0 → ns ≢ []
  unfolding Linked
  linked_filled at [] h f e = f h
  linked_filled at (n ∷ ns) h f e = let z : ◌≡◌ {A = ℕ} 0 1 = cc in omega arith

  -- where the head is an entry, it is the first of the list, and its link heads the rest
  pub linked_first : (at : ℕ) (ns : List ℕ) → 0 < at → Linked entries most at ns
      → (ms : List ℕ) × (ns ≡ at ∷ ms) × Linked entries most (link_of entries at) ms
  unfolding Linked
  linked_first at [] l h = absurd (omega arith)
  linked_first at (n ∷ ns) l h = (ns, rw h.0, rw h.0 h.3)

  -- a list is linked as well where more is allowed
  pub linked_wider : (most' at : ℕ) (ns : List ℕ) → most ≤ most' → Linked entries most at ns → Linked entries most' at ns
  unfolding Linked
  linked_wider most' at [] l h = h
  linked_wider most' at (n ∷ ns) l h = (h.0, h.1, omega arith, linked_wider most' (link_of entries n) ns l h.3)

-- so a chain that was read is read the same, where its keys pass the other test too
pub chain_wider : (test test' : ℕ → Bool) (entries : List ℕ) (most most' budget budget' at : ℕ) (ns : List ℕ)
    → ((key : ℕ) → test key ≡ true → test' key ≡ true) → most ≤ most' → budget ≤ budget'
    → chain test entries most budget at ≡ some ns → chain test' entries most' budget' at ≡ some ns
chain_wider test test' entries most most' budget budget' at ns p m b e =
    let (h, l, f) = read_sound test entries most budget at ns e in
    read_complete test' entries most' budget' at ns (linked_wider entries most most' at ns m h) (λ n i. p _ (f n i)) (omega arith)

-- a linked list whose links are kept
pub linked_kept : (e e' : List ℕ) (most at : ℕ) (ns : List ℕ) → ((n : ℕ) → In n ns → link_of e' n ≡ link_of e n)
    → Linked e most at ns → Linked e' most at ns
unfolding Linked
linked_kept e e' most at [] kept h = h
linked_kept e e' most at (n ∷ ns) kept h = (
  h.0,
  h.1,
  h.2,
  subst (λ (k : ℕ). Linked e' most k ns) (sym (kept n (inl refl)))
      (linked_kept e e' most (link_of e n) ns (λ k i. kept k (inr i)) h.3),
)

-- linking one entry anew keeps the link of another
pub link_set_other : (e : List ℕ) (n m x : ℕ) → (m ≡ n → ⊥) → link_of (set_link e n x) m ≡ link_of e m
unfolding link_of set_link
link_set_other e n zero x d = refl
link_set_other e zero (suc m) x d = refl
link_set_other e (suc n) (suc m) x d = get_or-set_other e (n * 3) (m * 3) x 0 (λ h. d (omega arith))
