-- What two chains of one memory have in common. A key calls for one bucket of a table, so the chains of two of its buckets
-- share no entry. Links lead one way, so any two chains that share an entry go on alike from there and end in the same one.
-- Assumes nothing.
use Prim.Native.Nat.{ℕ}
use mathlib.Core.Path.{◌≡◌, refl, sym, ◌∙◌}
use mathlib.Core.Logic.{inl, inr}
use mathlib.Core.Bool.{Bool}
use mathlib.Core.List.{List, ◌∷◌}
use mathlib.Core.Option.{Option, none, some}
use borrow.Author.Tests.{eqb-true}
use Rattle.cursor.specs.Member.{In}
use Rattle.model.specs.declared.State.{State}
use Rattle.model.specs.declared.Table.{Table}
use Rattle.model.specs.Keys.{bucket_of}
use Rattle.model.specs.Memory.{link_of, key_of, chain, in_bucket, size_of, Place, belongs, chain_at, listed, entries_at, last_or}
use Rattle.model.proofs.Linked.{Linked, read_sound, linked_unique}

-- an entry of a linked list heads a list with the same last entry
last_from : (entries : List ℕ) (most before at n : ℕ) (ns : List ℕ) → Linked entries most at ns → In n ns
    → (ms : List ℕ) × Linked entries most n ms × (last_or 0 ms ≡ last_or before ns)
unfolding Linked last_or
last_from entries most before at n mathlib.Core.List.[] h i = elim i [ ]
last_from entries most before at n (m ∷ ns) h (inl e) = (m ∷ ns, (e, h.1, h.2, h.3), refl)
last_from entries most before at n (m ∷ ns) h (inr i) = last_from entries most m (link_of entries m) n ns h.3 i

-- Any two chains of one memory, whatever their tests, budgets and heads.

module _ (test test' : ℕ → Bool) (entries : List ℕ) (capacity budget budget' head head' : ℕ) (ns ms : List ℕ)
    (left : chain test entries capacity budget head ≡ some ns)
    (right : chain test' entries capacity budget' head' ≡ some ms) where
  -- that share an entry have the same last entry
  pub shared_last : (n : ℕ) → In n ns → In n ms → last_or 0 ns ≡ last_or 0 ms
  shared_last n i j =
      let (us, h, e) = last_from entries capacity 0 head n ns (read_sound test entries capacity budget head ns left).0 i in
      let (vs, k, f) = last_from entries capacity 0 head' n ms (read_sound test' entries capacity budget' head' ms right).0 j in
      let same = linked_unique entries capacity n us vs h k in
      cc

-- The chains of two buckets of a table of one size, whatever their budgets and heads, share no entry.

bucket_read : (entries : List ℕ) (capacity budget size b head n : ℕ) (ns : List ℕ)
    → chain (in_bucket size b) entries capacity budget head ≡ some ns → In n ns → bucket_of (key_of entries n) size ≡ b
unfolding in_bucket
bucket_read entries capacity budget size b head n ns e i =
    eqb-true (bucket_of (key_of entries n) size) b ((read_sound (in_bucket size b) entries capacity budget head ns e).2 n i)

pub buckets_apart : (entries : List ℕ) (capacity budget budget' size a b head head' : ℕ) (ns ms : List ℕ)
    → chain (in_bucket size a) entries capacity budget head ≡ some ns
    → chain (in_bucket size b) entries capacity budget' head' ≡ some ms
    → ¬ (a ≡ b) → (n : ℕ) → In n ns → ¬ In n ms
buckets_apart entries capacity budget budget' size a b head head' ns ms left right f n i j =
    f
    (sym (bucket_read entries capacity budget size a head n ns left i)
    ∙ bucket_read entries capacity budget' size b head' n ms right j)

-- The same at the places of a store.

module _ (s : State) (current other entries : List ℕ) where
  -- an entry in a bucket has a key of that bucket
  pub in_its_bucket : (t : Table) (b n : ℕ) → In n (entries_at s current other entries (Place.bucket t b))
      → bucket_of (key_of entries n) (size_of s t) ≡ b
  unfolding entries_at listed chain_at belongs
  in_its_bucket t b n = by (chain_at s current other entries (Place.bucket t b)) refl
    where
      by : (o : Option (List ℕ)) → chain_at s current other entries (Place.bucket t b) ≡ o → In n (listed o)
          → bucket_of (key_of entries n) (size_of s t) ≡ b
      by none e i = absurd i
      by (some ns) e i = bucket_read entries s.capacity _ (size_of s t) b _ n ns e i

  module _ (ns ms : List ℕ) where
    -- sound chains of different buckets of one table share no entry
    pub places_apart : (t : Table) (a b : ℕ) → chain_at s current other entries (Place.bucket t a) ≡ some ns
        → chain_at s current other entries (Place.bucket t b) ≡ some ms → ¬ (a ≡ b) → (n : ℕ) → In n ns → ¬ In n ms
    unfolding chain_at belongs
    places_apart t a b left right = buckets_apart entries s.capacity _ _ (size_of s t) a b _ _ ns ms left right

    -- sound chains of any places that share an entry have the same last entry
    pub places_last : (p q : Place) → chain_at s current other entries p ≡ some ns → chain_at s current other entries q ≡ some ms
        → (n : ℕ) → In n ns → In n ms → last_or 0 ns ≡ last_or 0 ms
    unfolding chain_at
    places_last p q left right =
        shared_last (belongs s p) (belongs s q) entries s.capacity _ _ _ _ ns ms left right
