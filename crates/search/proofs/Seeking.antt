-- Searching a chain for a key's entry, one entry a turn.
-- Assumes nothing.
use Prim.Native.Nat.{ℕ, zero, suc, ◌*◌, ◌<◌, ◌≤◌}
use mathlib.Core.Path.{◌≡◌, refl, sym, ap, ◌∙◌}
use mathlib.Core.Bool.{Bool, true, false, ◌&&◌, cond}
use mathlib.Core.List.{List, [], ◌∷◌}
use mathlib.Core.Option.{Option, none, some, map}
use lib.Dec.{leb, eqb}
use borrow.Author.Tests.{eq-eqb, ne_eqb}
use Rattle.model.specs.declared.Table.{Table}
use Rattle.model.specs.Keys.{bucket_of}
use Rattle.model.specs.Memory.{link_of, key_of, chain, met, in_bucket}
use Rattle.model.specs.Calls.{searched, first_with}
use Rattle.model.specs.declared.Error.{Error}
use Rattle.std.specs.Result.{IsErrAnd}
use Rattle.std.proofs.lemmas.Result.{err_from_is_err_and}
use Rattle.std.proofs.Common.{Bor}
use lib.ListN.{length, get_or}
use Rattle.memory.specs.declared.chain.Chain.{Chain}
use Rattle.memory.specs.Chains.{rest, AtEnd, Passed}
use Rattle.memory.specs.Length.{bucket_chain}
use Rattle.search.specs.Found.{Found, found_of}
use Rattle.search.specs.Tables.{searched_in}
use Rattle.search.proofs.Lookups.{looked_in}
use Rattle.std.specs.Prelude.{Some, None, Ok, Err}
use Rattle.std.specs.Prelude as std

-- the first entry of the chain with the key
pub first_entry : List ℕ → ℕ → List ℕ → std.Option ℕ
first_entry entries key [] = None
first_entry entries key (n ∷ ns) = cond (eqb (key_of entries n) key) (Some n) (first_entry entries key ns)

pub seen : List ℕ → ℕ → Option (List ℕ) → Found
seen entries key none = Err Error.Damaged
seen entries key (some ns) = Ok (first_entry entries key ns)

-- the search from here is the search from the head
pub record Seeking (entries : List ℕ) (key : ℕ) (c : Chain) (whole : Option (List ℕ)) : Type 0 where
  pub entries_same : c.entries.now ≡ entries
  pub same : seen entries key (rest c) ≡ seen entries key whole

module _ (entries : List ℕ) (key : ℕ) where
  -- an entry more in front, with another key, and with the key
  one_more : (n : ℕ) (o : Option (List ℕ)) → eqb (key_of entries n) key ≡ false
      → seen entries key o ≡ seen entries key (map (λ ns. n ∷ ns) o)
  unfolding seen first_entry
  one_more n none e = refl
  one_more n (some ns) e = rw e refl

  kept : (n : ℕ) (ns : List ℕ) → eqb (key_of entries n) key ≡ true → first_entry entries key (n ∷ ns) ≡ Some n
  unfolding first_entry
  kept n ns e = rw e refl

  -- an entry met, by whether its key is the same
  met_one : (table : Table) (before n : ℕ) (t : Bool) (o : Option (List ℕ)) → eqb (key_of entries (suc n)) key ≡ t
      → seen entries key o ≡ found_of (searched entries key table (suc n) o)
      → seen entries key (map (λ ns. suc n ∷ ns) o)
      ≡ found_of (searched entries key table before (map (λ ns. suc n ∷ ns) o))
  unfolding seen first_entry found_of searched first_with
  met_one table before n t none e h = refl
  met_one table before n true (some ns) e h = rw e refl
  met_one table before n false (some ns) e h = rw e h

  met_or_not : (table : Table) (before n : ℕ) (t : Bool) (o : Option (List ℕ))
      → seen entries key o ≡ found_of (searched entries key table (suc n) o)
      → seen entries key (met t (suc n) o) ≡ found_of (searched entries key table before (met t (suc n) o))
  unfolding met seen found_of searched
  met_or_not table before n true o h = met_one table before n (eqb (key_of entries (suc n)) key) o refl h
  met_or_not table before n false o h = refl

  -- what the whole search answers
  pub seen_searched : (test : ℕ → Bool) (capacity : ℕ) (table : Table) (budget head before : ℕ)
      → seen entries key (chain test entries capacity budget head)
      ≡ found_of (searched entries key table before (chain test entries capacity budget head))
  unfolding chain seen first_entry found_of searched first_with
  seen_searched test capacity table zero zero before = refl
  seen_searched test capacity table zero (suc head) before = refl
  seen_searched test capacity table (suc budget) zero before = refl
  seen_searched test capacity table (suc budget) (suc head) before =
      met_or_not table before head (leb (suc head) capacity && test (key_of entries (suc head)))
      (chain test entries capacity budget (link_of entries (suc head)))
      (seen_searched test capacity table budget (link_of entries (suc head)) (suc head))

pub seeking_start : (key : ℕ) (c : Chain) → Seeking c.entries.now key c (rest c)
seeking_start key c = record { entries_same = refl; same = refl }

-- an entry that the chain came to is one of the buffer's
module _ (entries : List ℕ) (key : ℕ) (c : Chain) (whole : Option (List ℕ))
    (h : Seeking entries key c whole) (n : ℕ) (d : Chain) (p : Passed c n d) where
  pub seeking_entry : (0 < n) × (n * 3 ≤ length entries)
  seeking_entry = (p.entry_some, rw h.entries_same at p.entry_fits)

  pub seeking_next : (k : ℕ) → k ≡ key_of entries n → (k ≡ key → ⊥) → Seeking entries key d whole
  seeking_next k ke f =
      record {
        entries_same = ap (λ (b : Bor (List ℕ)). b.now) p.entries_same ∙ h.entries_same;
        same = one_more entries key n (rest d) (rw ke at (ne_eqb k key f)) ∙ (rw p.ahead at h.same);
      }

-- the chain of the key's bucket
module _ (entries : List ℕ) (capacity used : ℕ) (buckets : List ℕ) (size key bucket : ℕ) (b : bucket ≡ bucket_of key size)
    (c : Chain) (h : Seeking entries key c (bucket_chain size entries capacity used buckets bucket)) where
  from_head : (r : Found) → seen entries key (rest c) ≡ r → (t : Table)
      → r ≡ found_of (searched_in entries capacity used buckets size key t)
  from_head r e t =
      sym e ∙ h.same
      ∙ seen_searched entries key (in_bucket size bucket) capacity t used (get_or buckets bucket 0) 0
      ∙ ap found_of (looked_in entries capacity used buckets size key bucket t _ b refl)

  pub seeking_out : (x : Error) (r : Found) → (x ≡ Error.Damaged) × (rest c ≡ none) → IsErrAnd r (λ e. e ≡ x) → (t : Table)
      → r ≡ found_of (searched_in entries capacity used buckets size key t)
  unfolding seen
  seeking_out x r d g t =
      let p = err_from_is_err_and r g in from_head r (ap (seen entries key) d.1 ∙ sym (rw (p.1, p.2, d.0))) t

  pub seeking_end : AtEnd c → (t : Table) → Ok None ≡ found_of (searched_in entries capacity used buckets size key t)
  unfolding seen first_entry
  seeking_end e t = from_head (Ok None) (ap (seen entries key) e.nothing) t

  -- behind the entry with the key the chain is sound, or goes wrong
  module _ (n : ℕ) (d : Chain) (p : Passed c n d) where
    pub seeking_behind : (x : Error) (r : Found) → (x ≡ Error.Damaged) × (rest d ≡ none) → IsErrAnd r (λ e. e ≡ x) → (t : Table)
        → r ≡ found_of (searched_in entries capacity used buckets size key t)
    seeking_behind x r e g t = seeking_out x r (e.0, p.ahead ∙ ap (map (λ ns. n ∷ ns)) e.1) g t

    pub seeking_found : (k : ℕ) → k ≡ key_of entries n → k ≡ key → (ns : List ℕ) × (rest d ≡ some ns) → (t : Table)
        → Ok (Some n) ≡ found_of (searched_in entries capacity used buckets size key t)
    unfolding seen
    seeking_found k ke e s t =
        from_head (Ok (Some n))
        (ap (seen entries key) (p.ahead ∙ ap (map (λ ns. n ∷ ns)) s.1) ∙ ap Ok (kept entries key n s.0 (rw ke at (eq-eqb k key e)))) t
