-- What is answered and written, from the two readings of some chains: the count, the test of the room, the pairs written.
-- Assumes nothing.
use Prim.Native.Nat.{ℕ, ◌*◌, ◌≤◌, ◌<◌}
use mathlib.Core.Path.{◌≡◌, refl, sym, ap, ◌∙◌}
use mathlib.Core.Bool.{true, false}
use mathlib.Core.List.{List}
use mathlib.Core.Option.{Option, some}
use native.Mathlib.Omega.{arith}
use lib.ListN.{length}
use lib.Dec.{leb}
use borrow.Author.Tests.{le-leb, lt-leb}
use Rattle.std.specs.Prelude.{Ok, Err, Result}
use Rattle.std.specs.Result.{IsErrAnd}
use Rattle.std.proofs.lemmas.Result.{err_from_is_err_and}
use Rattle.model.specs.declared.Error.{Error}
use Rattle.model.specs.declared.ScanError.{ScanError}
use Rattle.model.specs.declared.State.{State}
use Rattle.model.specs.Calls.{reading}
use Rattle.model.specs.Memory.{chain, in_bucket, listed}
use Rattle.model.specs.Walk.{AfterScan, scanned}
use Rattle.memory.specs.Length.{length_of}
use Rattle.memory.specs.Lent.{sound_lent}
use Rattle.memory.proofs.Orientation.{reading_refused}
use Rattle.memory.proofs.Counted.{counted, uncounted}
use Rattle.scan_group.specs.declared.lent.Entries.{Entries}
use Rattle.scan_group.specs.declared.lent.LiveChain.{LiveChain}
use Rattle.scan_group.specs.Chains.{linked, chain_from}
use Rattle.scan_group.specs.Written.{written, Writable}
use Rattle.scan_group.proofs.Chains.{linked_same}

-- a state that is not sound is refused, and the list stays
pub list_kept : (s : State) (first second entries list : List ℕ) (a : Result (ℕ × ℕ) ScanError) (x : Error)
    (call : List ℕ → List ℕ → AfterScan) → IsErrAnd a (λ refusal. refusal ≡ ScanError.Refused x)
    → (x ≡ Error.BadState) × (sound_lent (length first) (length second) (length entries) s ≡ false)
    → AfterScan.after a list
    ≡ reading s first second entries (AfterScan.after (Err (ScanError.Refused Error.BadState)) list) call
list_kept s first second entries list a x call gives h =
    let p = err_from_is_err_and a gives in
    rw (p.1, p.2, h.0) (reading_refused s first second entries _ refl _ call h.1)

-- the three answers, once the chains were counted

module _ (entries list : List ℕ) (answered : ℕ) (o : Option (List ℕ)) (r : Result ℕ Error) (e : r ≡ length_of o) where
  pub scanned_damaged : (a : Result (ℕ × ℕ) ScanError) (x : Error) → IsErrAnd a (λ refusal. refusal ≡ ScanError.Refused x)
      → r ≡ Err x → AfterScan.after a list ≡ scanned entries list answered o
  unfolding scanned
  scanned_damaged a x gives u =
      let p = err_from_is_err_and a gives in
      let (none_read, damaged) = uncounted r x o u e in
      rw (p.1, p.2, damaged, none_read)

  module _ (n : ℕ) (s : r ≡ Ok n) where
    as_counted : scanned entries list answered (some (listed o)) ≡ scanned entries list answered o
    as_counted = ap (scanned entries list answered) (sym (counted r n o s e).0)

    pub scanned_short : length list < n * 2 → AfterScan.after (Err (ScanError.Short n)) list ≡ scanned entries list answered o
    unfolding scanned
    scanned_short l =
        let k = (counted r n o s e).1 in
        let none : leb (length (listed o) * 2) (length list) ≡ false = lt-leb (length (listed o) * 2) (length list) (omega arith) in
        ap (λ m. AfterScan.after (Err (ScanError.Short m)) list) (sym k) ∙ rw none at as_counted

    -- the chains that were written are those that were counted
    pub scanned_written : (list' : List ℕ) (p : Option (List ℕ)) → p ≡ o → n * 2 ≤ length list → list' ≡ written entries list p
        → AfterScan.after (Ok (answered, n)) list' ≡ scanned entries list answered o
    unfolding scanned
    scanned_written list' p same l w =
        let k = (counted r n o s e).1 in
        let room : leb (length (listed o) * 2) (length list) ≡ true = le-leb (length (listed o) * 2) (length list) (omega arith) in
        rw (w, same, ← k) (rw room at as_counted)

    pub writable : (p : Option (List ℕ)) → p ≡ o → n * 2 ≤ length list → Writable list p
    writable p same l =
        let (sound, k) = counted r n o s e in
        let here : Writable list o = record { sound = sound; fits = omega arith } in
        rw same here

-- One bucket's chain.

module _ (e : Entries) (c : LiveChain) (list : List ℕ) (b : ℕ) (r : Result ℕ Error)
    (l : r ≡ length_of (chain (in_bucket c.size b) e.fields.now e.capacity c.used c.head)) (next : ℕ) where
  pub one_damaged : (a : Result (ℕ × ℕ) ScanError) (x : Error) → IsErrAnd a (λ refusal. refusal ≡ ScanError.Refused x)
      → r ≡ Err x → AfterScan.after a list ≡ scanned e.fields.now list next (chain_from e c b)
  one_damaged a x gives u = scanned_damaged e.fields.now list next _ r l a x gives u

  module _ (n : ℕ) (s : r ≡ Ok n) where
    pub one_short : length list < n * 2
        → AfterScan.after (Err (ScanError.Short n)) list ≡ scanned e.fields.now list next (chain_from e c b)
    one_short h = scanned_short e.fields.now list next _ r l n s h

    module _ (g : c.used ≤ e.capacity) (h : n * 2 ≤ length list) where
      same_chain : linked e.fields.now c.head ≡ chain_from e c b
      same_chain =
          linked_same e.fields.now e.capacity c.used e.entries_fit g (in_bucket c.size b) c.head (counted r n _ s l).0

      pub one_writable : Writable list (linked e.fields.now c.head)
      one_writable = writable e.fields.now list next _ r l n s _ same_chain h

      pub one_written : (list' : List ℕ) → list' ≡ written e.fields.now list (linked e.fields.now c.head)
          → AfterScan.after (Ok (next, n)) list' ≡ scanned e.fields.now list next (chain_from e c b)
      one_written list' w = scanned_written e.fields.now list next _ r l n s list' _ same_chain h w
