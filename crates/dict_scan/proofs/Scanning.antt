-- What a walk call answers and writes, from the two readings of its group: the count, the test of the room, the pairs written.
-- Assumes nothing.
use Prim.Native.Nat.{ℕ, ◌+◌, ◌*◌, ◌^◌, ◌≤◌, ◌<◌}
use mathlib.Core.Path.{◌≡◌}
use mathlib.Core.List.{List}
use native.Mathlib.Omega.{arith}
use lib.ListN.{length}
use Rattle.std.specs.Prelude.{Ok, Err, Result}
use Rattle.std.specs.Result.{IsErrAnd}
use Rattle.cursor.specs.Next.{next}
use Rattle.cursor.specs.Group.{one_table}
use Rattle.model.specs.declared.Error.{Error}
use Rattle.model.specs.declared.ScanError.{ScanError}
use Rattle.model.specs.Keys.{bucket_of}
use Rattle.model.specs.Memory.{in_bucket}
use Rattle.model.specs.Walk.{AfterScan, at_most, scanned}
use Rattle.model.proofs.AtMost.{at_most_sound}
use Rattle.memory.specs.Length.{length_of}
use Rattle.memory.proofs.Counted.{counted}
use Rattle.scan_group.specs.declared.lent.Entries.{Entries}
use Rattle.scan_group.specs.declared.lent.LiveTable.{LiveTable}
use Rattle.scan_group.specs.declared.lent.LiveChain.{LiveChain}
use Rattle.scan_group.specs.declared.lent.Group.{Group}
use Rattle.scan_group.specs.Lent.{IsChain}
use Rattle.scan_group.specs.Chains.{chain_from, table_chain, table_chains, larger_buckets, group_chains, group_linked}
use Rattle.scan_group.specs.Written.{written, Writable}
use Rattle.scan_group.proofs.Buckets.{sizes_of, one_answered, two_answered}
use Rattle.scan_group.proofs.Chains.{chain_is, joined_parts, linked_same, all_linked_same}
use Rattle.scan_group.proofs.HandingOut.{scanned_damaged, scanned_short, scanned_written, writable}
use Rattle.dict_scan.specs.Groups.{scanned_two}

-- One live table: the bucket is the cursor's.

pub one_handed_out : (e : Entries) (t : LiveTable) (list : List ℕ) (cursor b turned : ℕ) (c : LiveChain) (a : AfterScan)
    → (b ≡ bucket_of cursor t.size) × (b < t.size) → ((x : ℕ) → t.size ≡ 2 ^ x → turned ≡ next t.size cursor)
    → IsChain t b c → a ≡ scanned e.fields.now list turned (chain_from e c b)
    → a ≡ scanned e.fields.now list (one_table t.size cursor).answered (table_chain e t (bucket_of cursor t.size))
one_handed_out e t list cursor b turned c a i n k h =
    rw (chain_is e t b c k, i.0, one_answered t.size cursor turned t.legal n) at h

-- Two live tables.

module _ (g : Group) (list : List ℕ) (r : Result ℕ Error)
    (l : r ≡ length_of (at_most (g.small.used + g.large.used) (group_chains g))) where
  pub two_damaged : (a : Result (ℕ × ℕ) ScanError) (x : Error) → IsErrAnd a (λ refusal. refusal ≡ ScanError.Refused x)
      → r ≡ Err x → AfterScan.after a list ≡ scanned_two g list
  unfolding scanned_two
  two_damaged a x gives u = scanned_damaged g.entries.fields.now list _ _ r l a x gives u

  module _ (n : ℕ) (s : r ≡ Ok n) where
    pub two_short : length list < n * 2 → AfterScan.after (Err (ScanError.Short n)) list ≡ scanned_two g list
    unfolding scanned_two
    two_short h = scanned_short g.entries.fields.now list _ _ r l n s h

    module _ (few : g.small.used + g.large.used ≤ g.entries.capacity) (h : n * 2 ≤ length list) where
      -- the entries of the group are written as they were read
      same_group : group_linked g ≡ at_most (g.small.used + g.large.used) (group_chains g)
      unfolding group_chains
      same_group =
          let b = bucket_of g.cursor g.small.size in
          let (same, sound) = at_most_sound (g.small.used + g.large.used) (group_chains g) _ (counted r n _ s l).0 in
          let p = joined_parts (chain_from g.entries g.small b) (table_chains g.entries g.large (larger_buckets g)) sound in
          let fit = g.entries.entries_fit in
          rw (same, linked_same g.entries.fields.now g.entries.capacity g.small.used fit (omega arith) (in_bucket g.small.size b) g.small.head p.left, all_linked_same g.entries.fields.now g.entries.capacity g.large.used fit (omega arith) (in_bucket g.large.size) g.large.buckets.now (larger_buckets g) p.right)

      pub two_writable : Writable list (group_linked g)
      two_writable = writable g.entries.fields.now list 0 _ r l n s _ same_group h

      pub two_written : (turned : ℕ) (list' : List ℕ) → ((c : ℕ) → g.small.size ≡ 2 ^ c → turned ≡ next g.small.size g.cursor)
          → list' ≡ written g.entries.fields.now list (group_linked g)
          → AfterScan.after (Ok (turned, n)) list' ≡ scanned_two g list
      unfolding scanned_two
      two_written turned list' t w =
          rw (two_answered g.small.size g.large.size g.cursor turned (sizes_of g) t)
          (scanned_written g.entries.fields.now list _ _ r l n s list' _ same_group h w)
