-- The tables and entries that a call on a sound state reads are those of the definitions: a bucket's chain is that of its place.
-- Assumes nothing.
use Rattle.std.proofs.Common.{◌≡◌, ℕ, Bool, true, false, cond, List, [], ◌∷◌, map, refl}
use Rattle.std.specs.Prelude.{Some}
use Rattle.model.specs.declared.State.{State}
use Rattle.model.specs.declared.Table.{Table}
use Rattle.model.specs.Calls.{oriented}
use Rattle.model.specs.Memory.{size_of, used_of, buckets_of, Place, head_at, budget_at, belongs, chain_at}
use Rattle.model.specs.Walk.{chains_at}
use Rattle.scan_group.specs.declared.lent.Entries.{Entries}
use Rattle.scan_group.specs.declared.lent.LiveTable.{LiveTable}
use Rattle.scan_group.specs.declared.lent.Lent.{Lent}
use Rattle.scan_group.specs.Chains.{chains, table_chain, table_chains}
use Rattle.scan_group.specs.Lent.{IsTable, Reads}

-- the current bucket buffer, and the other one
abbrev pub current_of : State → List ℕ → List ℕ → List ℕ
current_of s first second = cond s.second_is_current second first

abbrev pub other_of : State → List ℕ → List ℕ → List ℕ
other_of s first second = cond s.second_is_current first second

pub oriented_call : {A : Type 0} (s : State) (call : List ℕ → List ℕ → A) (first second : List ℕ)
    → call (current_of s first second) (other_of s first second) ≡ oriented s.second_is_current call first second
unfolding oriented
oriented_call s call first second = pick s.second_is_current
  where
    pick : (flag : Bool) → call (cond flag second first) (cond flag first second) ≡ oriented flag call first second
    pick true = refl
    pick false = refl

-- the entries, and one of the tables, whichever it is
pub record IsLent (s : State) (current other entries : List ℕ) (which : Table) (e : Entries) (t : LiveTable) : Type 0 where
  pub fields_are : e.fields.now ≡ entries
  pub capacity_is : e.capacity ≡ s.capacity
  pub table_is : IsTable (buckets_of current other which) (size_of s which) (used_of s which) t

module _ (s : State) (current other entries : List ℕ) (which : Table) (e : Entries) (t : LiveTable)
    (i : IsLent s current other entries which e t) where
  pub place_chain : (b : ℕ) → table_chain e t b ≡ chain_at s current other entries (Place.bucket which b)
  unfolding chain_at budget_at head_at belongs
  place_chain b = rw (i.fields_are, i.capacity_is, i.table_is.buckets_are, i.table_is.size_is, i.table_is.used_is)

  pub place_chains : (bs : List ℕ)
      → table_chains e t bs ≡ chains_at s current other entries (map (λ b. Place.bucket which b) bs)
  unfolding chains chains_at
  place_chains [] = refl
  place_chains (b ∷ bs) = rw (place_chain b, place_chains bs)

module _ (s : State) (first second entries : List ℕ) (l : Lent) (k : Reads s first second entries l) where
  pub old_lent : IsLent s (current_of s first second) (other_of s first second) entries Table.Old l.entries l.old
  unfolding size_of used_of buckets_of
  old_lent = record { fields_are = k.fields_are; capacity_is = k.capacity_is; table_is = k.old_is }

  pub new_lent : (t : LiveTable) → l.new ≡ Some t
      → IsLent s (current_of s first second) (other_of s first second) entries Table.New l.entries t
  unfolding size_of used_of buckets_of
  new_lent t n =
      record { fields_are = k.fields_are; capacity_is = k.capacity_is; table_is = (rw n at k.new_is).is_table }
