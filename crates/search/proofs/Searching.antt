-- Searching a chain for the way to a key's entry, one entry a turn.
-- Assumes nothing.
use Prim.Native.Nat.{ℕ}
use mathlib.Core.Path.{◌≡◌, refl, ap, ◌∙◌}
use mathlib.Core.Bool.{true, false}
use mathlib.Core.List.{List, [], ◌∷◌}
use mathlib.Core.Option.{Option, none, some, map}
use Rattle.std.proofs.Common.{Bor}
use lib.Dec.{eqb}
use borrow.Author.Tests.{eq-eqb, ne_eqb}
use Rattle.model.specs.declared.Table.{Table}
use Rattle.model.specs.declared.Lookup.{Lookup}
use Rattle.model.specs.Keys.{bucket_of}
use Rattle.model.specs.Memory.{key_of}
use Rattle.model.specs.Calls.{searched, first_with}
use Rattle.memory.specs.declared.chain.Chain.{Chain}
use Rattle.memory.specs.Chains.{rest, AtEnd, Passed}
use Rattle.memory.specs.Length.{bucket_chain}
use Rattle.search.specs.Tables.{searched_in}
use Rattle.search.proofs.Lookups.{looked_in}

-- what comes of the chain from here: what was found so far, or the first entry with the key
pub resumed : List ℕ → ℕ → Table → (before : ℕ) → Lookup → Option (List ℕ) → Lookup
resumed entries key table before found none = Lookup.Damaged
resumed entries key table before Lookup.Absent (some ns) = first_with entries key table before ns
resumed entries key table before Lookup.Damaged (some ns) = Lookup.Damaged
resumed entries key table before (Lookup.At t b n) (some ns) = Lookup.At t b n

-- the search from here is the search from the head
pub record Searching (entries : List ℕ) (key : ℕ) (table : Table) (before : ℕ) (found : Lookup) (c : Chain) (whole : Option (List ℕ)) : Type 0 where
  pub entries_same : c.entries.now ≡ entries
  pub same : resumed entries key table before found (rest c) ≡ searched entries key table 0 whole

resumed_start : (entries : List ℕ) (key : ℕ) (table : Table) (o : Option (List ℕ))
    → resumed entries key table 0 Lookup.Absent o ≡ searched entries key table 0 o
unfolding resumed searched
resumed_start entries key table none = refl
resumed_start entries key table (some ns) = refl

pub searching_start : (key : ℕ) (table : Table) (c : Chain) → Searching c.entries.now key table 0 Lookup.Absent c (rest c)
searching_start key table c = record { entries_same = refl; same = resumed_start c.entries.now key table (rest c) }

-- one entry more: the first with the key, another before one is found, and any behind it
module _ (entries : List ℕ) (key : ℕ) (table : Table) (before n : ℕ) where
  resumed_first : (o : Option (List ℕ)) → eqb (key_of entries n) key ≡ true
      → resumed entries key table n (Lookup.At table before n) o ≡ resumed entries key table before Lookup.Absent (map (λ ns. n ∷ ns) o)
  unfolding resumed first_with
  resumed_first none e = refl
  resumed_first (some ns) e = rw e

  resumed_other : (o : Option (List ℕ)) → eqb (key_of entries n) key ≡ false
      → resumed entries key table n Lookup.Absent o ≡ resumed entries key table before Lookup.Absent (map (λ ns. n ∷ ns) o)
  unfolding resumed first_with
  resumed_other none e = refl
  resumed_other (some ns) e = rw e

  resumed_kept : (found : Lookup) (o : Option (List ℕ)) → (found ≡ Lookup.Absent → ⊥)
      → resumed entries key table n found o ≡ resumed entries key table before found (map (λ ns. n ∷ ns) o)
  unfolding resumed
  resumed_kept found none f = refl
  resumed_kept Lookup.Absent (some ns) f = absurd (f refl)
  resumed_kept Lookup.Damaged (some ns) f = refl
  resumed_kept (Lookup.At t b m) (some ns) f = refl

module _ (entries : List ℕ) (key : ℕ) (table : Table) (before : ℕ) (found : Lookup) (c : Chain) (whole : Option (List ℕ))
    (h : Searching entries key table before found c whole) (n : ℕ) (d : Chain) (p : Passed c n d) where
  searched_on : (now : Lookup)
      → resumed entries key table n now (rest d) ≡ resumed entries key table before found (map (λ ns. n ∷ ns) (rest d))
      → Searching entries key table n now d whole
  searched_on now e =
      record {
        entries_same = ap (λ (b : Bor (List ℕ)). b.now) p.entries_same ∙ h.entries_same;
        same = e ∙ (rw p.ahead at h.same);
      }

  module _ (k : ℕ) (ke : k ≡ key_of entries n) where
    pub searching_first : found ≡ Lookup.Absent → k ≡ key → Searching entries key table n (Lookup.At table before n) d whole
    searching_first f e = searched_on _ (rw f (resumed_first entries key table before n (rest d) (rw ke at (eq-eqb k key e))))

    pub searching_other : found ≡ Lookup.Absent → (k ≡ key → ⊥) → Searching entries key table n found d whole
    searching_other f e = searched_on _ (rw f (resumed_other entries key table before n (rest d) (rw ke at (ne_eqb k key e))))

  pub searching_kept : (found ≡ Lookup.Absent → ⊥) → Searching entries key table n found d whole
  searching_kept f = searched_on _ (resumed_kept entries key table before n found (rest d) f)

-- the chain of the key's bucket
module _ (entries : List ℕ) (capacity used : ℕ) (buckets : List ℕ) (size key bucket : ℕ) (b : bucket ≡ bucket_of key size)
    (table : Table) (before : ℕ) (found : Lookup) (c : Chain)
    (h : Searching entries key table before found c (bucket_chain size entries capacity used buckets bucket)) where
  pub searching_out : rest c ≡ none → Lookup.Damaged ≡ searched_in entries capacity used buckets size key table
  unfolding resumed
  searching_out e = looked_in entries capacity used buckets size key bucket table _ b (rw e at h.same)

  pub searching_end : AtEnd c → found ≡ searched_in entries capacity used buckets size key table
  unfolding resumed first_with
  searching_end e =
      looked_in entries capacity used buckets size key bucket table _ b (last found ∙ (rw e.nothing at h.same))
    where
      last : (found : Lookup) → found ≡ resumed entries key table before found (some [])
      last Lookup.Absent = refl
      last Lookup.Damaged = refl
      last (Lookup.At t b n) = refl
