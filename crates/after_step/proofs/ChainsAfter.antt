-- The chains once a chain of the old table has moved to the new one, told from the chains as they are.
-- Assumes nothing.
use Prim.Native.Nat.{ℕ, zero, suc, ◌+◌, ◌*◌, ◌<◌, ◌≤◌}
use mathlib.Core.Path.{◌≡◌, refl, sym, ◌∙◌}
use mathlib.Core.Logic.{◌≢◌, inl, inr}
use mathlib.Core.Bool.{Bool, true, false, cond}
use mathlib.Core.List.{List, [], ◌∷◌}
use mathlib.Core.Option.{Option, none, some}
use native.Mathlib.Omega.{arith}
use lib.ListN.{length, get_or, set}
use lib.Seq.{get_or-set_other}
use lib.Dec.{eqb}
use borrow.Author.Tests.{eqb-true, eqb-false}
use Rattle.cursor.specs.Member.{In}
use Rattle.model.specs.Keys.{bucket_of}
use Rattle.model.specs.Memory.{key_of, chain, in_bucket, last_or}
use Rattle.model.specs.Calls.{moved}
use Rattle.model.proofs.Chains.{chain_end}
use Rattle.model.proofs.Linked.{Linked, read_sound, linked_distinct, linked_in_range}
use Rattle.model.proofs.Shared.{shared_last}
use Rattle.memory.specs.Length.{bucket_chain}
use Rattle.dict_rehash.specs.MovedChains.{chains}
use Rattle.after_step.specs.Told.{of_bucket, how_many}
use Rattle.model.proofs.Moved.{moved_key, moved_link}
use Rattle.after_step.proofs.SameChains.{chain_same}
use Rattle.after_step.proofs.Stacking.{stacked, Movable, moved_in_front, moved_before}

-- ---- old chains

-- the old chain of another bucket is as it is, whatever the budget
pub old_chain_kept : (old new capacity budget budget' a b : ℕ) (ns current other entries : List ℕ)
    → bucket_chain old entries capacity budget current b ≡ some ns → ¬ (a ≡ b)
    → bucket_chain old (moved new ns (chains other entries)).entries capacity budget' (set current b 0) a
    ≡ bucket_chain old entries capacity budget' current a
unfolding in_bucket
old_chain_kept old new capacity budget budget' a b ns current other entries e d =
    rw (get_or-set_other current b a 0 0 d)
    (chain_same (in_bucket old a) entries (moved new ns (chains other entries)).entries capacity
    (moved_key new ns (chains other entries)) (λ n p. moved_link new ns (chains other entries) n (λ i. off n i p)) budget'
    (get_or current a 0))
  where
    off : (n : ℕ) → In n ns → in_bucket old a (key_of entries n) ≡ true → ⊥
    off n i p =
        let q = (read_sound (in_bucket old b) entries capacity budget (get_or current b 0) ns e).2 n i in
        d (sym (eqb-true (bucket_of (key_of entries n) old) a p) ∙ eqb-true (bucket_of (key_of entries n) old) b q)

-- that of the bucket itself is empty

emptied : (buckets : List ℕ) (b : ℕ) → get_or (set buckets b 0) b 0 ≡ 0
emptied [] b = refl
emptied (x ∷ xs) zero = refl
emptied (x ∷ xs) (suc b) = emptied xs b

pub old_chain_emptied : (old capacity budget b : ℕ) (current entries : List ℕ)
    → bucket_chain old entries capacity budget (set current b 0) b ≡ some []
old_chain_emptied old capacity budget b current entries =
    chain_end (in_bucket old b) entries capacity budget _ (emptied current b)

-- ---- new chains

-- the last entry of a list

last_of : (n : ℕ) (ns : List ℕ) → In (last_or n ns) (n ∷ ns)
unfolding last_or
last_of n [] = inl refl
last_of n (m ∷ ns) = inr (last_of m ns)

last_in : (ns : List ℕ) → 0 < last_or 0 ns → In (last_or 0 ns) ns
unfolding last_or
last_in [] h = absurd (omega arith)
last_in (n ∷ ns) h = last_of n ns

filled_last : (entries : List ℕ) (capacity at : ℕ) (ns : List ℕ) → Linked entries capacity at ns → ns ≢ [] → 0 < last_or 0 ns
unfolding last_or
filled_last entries capacity at [] h f = absurd (f refl)
filled_last entries capacity at (n ∷ ns) h f = (linked_in_range entries capacity at (last_or n ns) (n ∷ ns) h (last_of n ns)).0

-- what is made of a chain, unless it is not sound or ends in that entry
unfoldable pub unless_last : ℕ → (List ℕ → List ℕ) → Option (List ℕ) → Option (List ℕ)
unless_last last f none = none
unless_last last f (some ms) = cond (eqb (last_or 0 ms) last) none (some (f ms))

reads_nothing : (o : Option (List ℕ)) → ((ls : List ℕ) → ¬ (o ≡ some ls)) → o ≡ none
reads_nothing none f = refl
reads_nothing (some ls) f = absurd (f ls refl)

-- The chain ns, read anywhere, moves to a table of that size, of which c is a bucket. The chain there is then that of before,
-- read with the budget less those that come to it, with them in front.
module _ (size c capacity : ℕ) (filled : 0 < size) (other entries : List ℕ) (buckets_fit : size ≤ length other)
    (entries_fit : capacity * 3 ≤ length entries) (test : ℕ → Bool) (used head : ℕ) (ns : List ℕ)
    (read : chain test entries capacity used head ≡ some ns) (some_move : ns ≢ []) (budget whole : ℕ)
    (counts : budget + how_many (of_bucket size c entries) ns ≡ whole) where
  abbrev before : Option (List ℕ)
  before = bucket_chain size entries capacity budget other c

  abbrev after : Option (List ℕ)
  after = bucket_chain size (moved size ns (chains other entries)).entries capacity whole (moved size ns (chains other entries)).buckets c

  linked : Linked entries capacity head ns
  linked = (read_sound test entries capacity used head ns read).0

  movable : Movable size c capacity filled (of_bucket size c entries) ns (chains other entries)
  movable =
      record {
        in_range = λ n i. linked_in_range entries capacity head n ns linked i;
        entries_fit = entries_fit;
        buckets_fit = buckets_fit;
        tested = λ n. refl;
      }

  parted : (ls : List ℕ) → after ≡ some ls → (ms : List ℕ) × (before ≡ some ms) × ((n : ℕ) → In n ns → ¬ In n ms)
  parted = moved_before size c capacity filled (of_bucket size c entries) ns (chains other entries) movable budget whole counts

  pub new_chain_after : bucket_chain size (moved size ns (chains other entries)).entries capacity whole
      (moved size ns (chains other entries)).buckets c
      ≡ unless_last (last_or 0 ns) (stacked (of_bucket size c entries) ns) (bucket_chain size entries capacity budget other c)
  unfolding unless_last
  new_chain_after = by before refl
    where
      ends : (ms : List ℕ) → before ≡ some ms → (t : Bool) → eqb (last_or 0 ms) (last_or 0 ns) ≡ t
          → after ≡ cond t none (some (stacked (of_bucket size c entries) ns ms))
      ends ms e true t =
          let same = eqb-true (last_or 0 ms) (last_or 0 ns) t in
          let last = filled_last entries capacity head ns linked some_move in
          reads_nothing after
          (λ ls f.
          let (us, g, apart) = parted ls f in
          let sames : ms ≡ us = cc in
          apart (last_or 0 ns) (last_in ns last) (rw (← sames, ← same) (last_in ms (omega arith))))
      ends ms e false t =
          moved_in_front size c capacity filled (of_bucket size c entries) ns (chains other entries) movable
          (linked_distinct entries capacity head ns linked) budget whole counts ms e
          (λ n i j.
          eqb-false (last_or 0 ms) (last_or 0 ns) t
          (sym (shared_last test (in_bucket size c) entries capacity used budget head (get_or other c 0) ns ms read e n i j)))

      by : (o : Option (List ℕ)) → before ≡ o → after ≡ unless_last (last_or 0 ns) (stacked (of_bucket size c entries) ns) o
      by none e =
          reads_nothing after
          (λ ls f. let (us, g, apart) = parted ls f in let z : ◌≡◌ {A = ℕ} 0 1 = cc in omega arith)
      by (some ms) e = ends ms e (eqb (last_or 0 ms) (last_or 0 ns)) refl
