-- Whether a key is held, by the chains that are read: no entry need be named, so neither the table nor the order matters.
-- Assumes nothing.
use Prim.Native.Nat.{ℕ}
use mathlib.Core.Path.{◌≡◌, refl, ap, ◌∙◌}
use mathlib.Core.Bool.{Bool, true, false, cond, ◌||◌, or-true}
use mathlib.Core.List.{List, [], ◌∷◌}
use mathlib.Core.Option.{Option, none, some}
use native.Mathlib.Omega.{arith}
use lib.Dec.{eqb}
use borrow.Author.Tests.{eqb-true, eq-eqb}
use Rattle.model.specs.declared.Table.{Table}
use Rattle.model.specs.declared.Lookup.{Lookup}
use Rattle.model.specs.Keys.{bucket_of}
use Rattle.model.specs.Memory.{key_of, in_bucket}
use Rattle.model.specs.Calls.{first_with, searched, both}
use Rattle.memory.specs.Length.{bucket_chain}
use Rattle.search.specs.Found.{found_of}
use Rattle.search.specs.Tables.{searched_in}
use Rattle.after_step.specs.Presence.{presence}
use Rattle.after_step.specs.Told.{of_bucket, has, found_presence, either}
use Rattle.after_step.proofs.Stacking.{stacked}
use Rattle.model.specs.declared.Error.{Error}
use Rattle.std.specs.Prelude.{Result, Ok, Err}

pub presence_both : (l m : Lookup) → presence (both l m) ≡ either (presence l) (presence m)
unfolding both presence
presence_both Lookup.Damaged m = refl
presence_both Lookup.Absent m = refl
presence_both (Lookup.At t before n) Lookup.Damaged = refl
presence_both (Lookup.At t before n) Lookup.Absent = refl
presence_both (Lookup.At t before n) (Lookup.At t' before' n') = refl

pub presence_found : (l : Lookup) → found_presence (found_of l) ≡ presence l
unfolding found_of presence
presence_found Lookup.Damaged = refl
presence_found Lookup.Absent = refl
presence_found (Lookup.At t before n) = refl

-- on a chain, as it is read
unfoldable pub seen : List ℕ → ℕ → Option (List ℕ) → Result Bool Error
seen entries key none = (Err Error.Damaged)
seen entries key (some ns) = Ok (has entries key ns)

module _ (entries : List ℕ) (key : ℕ) where
  presence_first : (t : Table) (before : ℕ) (ns : List ℕ) → presence (first_with entries key t before ns) ≡ Ok (has entries key ns)
  unfolding presence first_with has
  presence_first t before [] = refl
  presence_first t before (n ∷ ns) = by (eqb (key_of entries n) key) (presence_first t n ns)
    where
      by : (u : Bool) → presence (first_with entries key t n ns) ≡ Ok (has entries key ns)
          → presence (cond u (Lookup.At t before n) (first_with entries key t n ns)) ≡ Ok (u || has entries key ns)
      by true h = refl
      by false h = h

  presence_searched : (t : Table) (before : ℕ) (o : Option (List ℕ)) → presence (searched entries key t before o) ≡ seen entries key o
  unfolding presence searched seen
  presence_searched t before none = refl
  presence_searched t before (some ns) = presence_first t before ns

  -- in a table
  pub presence_in : (capacity used : ℕ) (buckets : List ℕ) (size : ℕ) (t : Table)
      → presence (searched_in entries capacity used buckets size key t)
      ≡ seen entries key (bucket_chain size entries capacity used buckets (bucket_of key size))
  unfolding searched_in
  presence_in capacity used buckets size t = presence_searched t 0 _

  -- an entry with the key goes to the key's bucket, so the entries moved may all be asked
  pub has_stacked : (size : ℕ) (ns ms : List ℕ)
      → has entries key (stacked (of_bucket size (bucket_of key size) entries) ns ms) ≡ (has entries key ns || has entries key ms)
  unfolding stacked has in_bucket
  has_stacked size [] ms = refl
  has_stacked size (n ∷ ns) ms =
      has_stacked size ns (cond (of_bucket size (bucket_of key size) entries n) (n ∷ ms) ms)
      ∙ by (of_bucket size (bucket_of key size) entries n) (eqb (key_of entries n) key) refl refl
    where
      by : (t u : Bool) → of_bucket size (bucket_of key size) entries n ≡ t → eqb (key_of entries n) key ≡ u
          → (has entries key ns || has entries key (cond t (n ∷ ms) ms)) ≡ ((u || has entries key ns) || has entries key ms)
      by true true p q = rw q (or-true (has entries key ns))
      by true false p q = rw q
      by false false p q = refl
      by false true p q =
          let same = ap (λ (k : ℕ). bucket_of k size) (eqb-true (key_of entries n) key q) in
          let there = eq-eqb (bucket_of (key_of entries n) size) (bucket_of key size) same in
          let z : ◌≡◌ {A = ℕ} 0 1 = cc in
          absurd (omega arith)

-- where all keys are kept
module _ (e e' : List ℕ) (keys : (n : ℕ) → key_of e' n ≡ key_of e n) (key : ℕ) where
  has_kept : (ns : List ℕ) → has e' key ns ≡ has e key ns
  unfolding has
  has_kept [] = refl
  has_kept (n ∷ ns) = rw (keys n, has_kept ns)

  pub seen_kept : (o : Option (List ℕ)) → seen e' key o ≡ seen e key o
  unfolding seen
  seen_kept none = refl
  seen_kept (some ns) = ap Ok (has_kept ns)
