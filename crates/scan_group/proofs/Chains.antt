-- Chains read one after the other: what their parts say of the whole; how long a chain is, and that one that is sound is read
-- the same where more is allowed.
-- Assumes nothing.
use Prim.Native.Nat.{ℕ, ◌+◌, ◌*◌, ◌≤◌}
use mathlib.Core.Path.{◌≡◌, refl, sym, ap, ◌∙◌}
use mathlib.Core.Bool.{Bool}
use mathlib.Core.List.{List, [], ◌∷◌, ◌++◌, append-nil}
use mathlib.Core.Option.{Option, none, some}
use native.Mathlib.Omega.{arith}
use lib.ListN.{length, get_or, length-append}
use Rattle.model.specs.Memory.{chain, any_key, listed}
use Rattle.model.specs.Walk.{joined}
use Rattle.model.proofs.Linked.{room, read_sound, chain_wider}
use Rattle.scan_group.specs.declared.lent.Entries.{Entries}
use Rattle.scan_group.specs.declared.lent.LiveTable.{LiveTable}
use Rattle.scan_group.specs.declared.lent.LiveChain.{LiveChain}
use Rattle.scan_group.specs.Lent.{IsChain}
use Rattle.scan_group.specs.Chains.{chains, linked, all_linked, chain_from, table_chain}

-- a chain of a table, by its first entry
pub chain_is : (e : Entries) (t : LiveTable) (b : ℕ) (c : LiveChain) → IsChain t b c → chain_from e c b ≡ table_chain e t b
chain_is e t b c k = rw (k.0, k.1, k.2)

-- nothing behind
pub joined_end : (o : Option (List ℕ)) → joined o (some []) ≡ o
unfolding joined
joined_end none = refl
joined_end (some ns) = ap some (append-nil ns)

-- where the whole is sound, so is each part
pub record Parts (a b : Option (List ℕ)) : Type 0 where
  pub left : a ≡ some (listed a)
  pub right : b ≡ some (listed b)
  pub both : listed (joined a b) ≡ listed a ++ listed b
  pub long : length (listed (joined a b)) ≡ length (listed a) + length (listed b)

pub joined_parts : (a b : Option (List ℕ)) → joined a b ≡ some (listed (joined a b)) → Parts a b
unfolding joined listed
joined_parts none b e = let z : ◌≡◌ {A = ℕ} 0 1 = cc in absurd (omega arith)
joined_parts (some ns) none e = let z : ◌≡◌ {A = ℕ} 0 1 = cc in absurd (omega arith)
joined_parts (some ns) (some ms) e = record { left = refl; right = refl; both = refl; long = length-append ns ms }

-- a chain is no longer than its budget
pub chain_short : (test : ℕ → Bool) (entries : List ℕ) (capacity budget head : ℕ)
    → length (listed (chain test entries capacity budget head)) ≤ budget
unfolding listed
chain_short test entries capacity budget head = pick (chain test entries capacity budget head) refl
  where
    pick : (o : Option (List ℕ)) → chain test entries capacity budget head ≡ o → length (listed o) ≤ budget
    pick none e = omega arith
    pick (some ns) e = (read_sound test entries capacity budget head ns e).1

-- Where more is allowed, a chain that is sound is the same, whatever keys it may have.

module _ (entries : List ℕ) (capacity used : ℕ) (fits : capacity * 3 ≤ length entries) (few : used ≤ capacity) where
  pub linked_same : (test : ℕ → Bool) (head : ℕ)
      → chain test entries capacity used head ≡ some (listed (chain test entries capacity used head))
      → linked entries head ≡ chain test entries capacity used head
  unfolding linked room any_key
  linked_same test head e =
      chain_wider test any_key entries capacity (room entries) used (room entries) head _ (λ key p. refl) (omega arith) (omega arith) e
      ∙ sym e

  pub all_linked_same : (test : ℕ → ℕ → Bool) (buckets bs : List ℕ)
      → chains test entries capacity used buckets bs ≡ some (listed (chains test entries capacity used buckets bs))
      → all_linked entries buckets bs ≡ chains test entries capacity used buckets bs
  unfolding all_linked chains linked
  all_linked_same test buckets [] e = refl
  all_linked_same test buckets (b ∷ bs) e =
      let p =
      joined_parts (chain (test b) entries capacity used (get_or buckets b 0)) (chains test entries capacity used buckets bs) e in
      rw (linked_same (test b) (get_or buckets b 0) p.left, all_linked_same test buckets bs p.right)
