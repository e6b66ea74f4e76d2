-- A walk call: what it hands out fits the list that it was lent, and is written behind its values.
-- Assumes nothing.
use Prim.Native.Nat.{ℕ, ◌*◌, ◌≤◌}
use mathlib.Core.Path.{◌≡◌, refl, sym, subst}
use mathlib.Core.Bool.{Bool, true, false, cond}
use mathlib.Core.Option.{Option, none, some}
use mathlib.Core.List.{List, [], ◌∷◌}
use native.Mathlib.Omega.{arith}
use lib.ListN.{length}
use lib.Dec.{leb, eqb}
use borrow.Author.Tests.{leb-true}
use Rattle.model.specs.declared.State.{State}
use Rattle.model.specs.Answers.{reply, scan_reply}
use Rattle.model.specs.Memory.{keys_held}
use Rattle.model.specs.Calls.{sound, oriented, checked, reading}
use Rattle.model.specs.Walk.{AfterScan, scanned}
use Rattle.model.specs.Walk as walk
use Rattle.model.specs.Sequences.{World, world, kept, kept_scan, carry, carried_state}
use Rattle.script.specs.Answers.{answer_line}
use Rattle.script.specs.Program.{Ran, answered, handed_out}
use Rattle.script_run.specs.declared.answer.Refusal.{Refusal}
use Rattle.script_run.specs.declared.answer.Values.{Values}
use Rattle.script_run.specs.Answers.{values_of, handed, refusal_number, scan_refusal, done_line, line_of, Fits}
use Rattle.script_run.specs.Runs.{Leaves}
use Rattle.script_run.proofs.Calls.{refused_leaves}
use Rattle.std.proofs.Common.{Result, Ok, Err}
use Rattle.std.specs.Prelude.{IsErrAnd}
use Rattle.model.specs.declared.ScanError.{ScanError}

-- two numbers for each key of a walk call that is answered 0
unfoldable handed_by : Result (ℕ × ℕ) ScanError → ℕ
handed_by (Ok (next, count)) = count * 2
handed_by (Err (ScanError.Short count)) = 0
handed_by (Err (ScanError.Refused e)) = 0

-- there are places for what is handed out
unfoldable Fit : ℕ → AfterScan → Type 0
Fit places (AfterScan.after answer lent) = handed_by answer ≤ places

either : (places : ℕ) (t : Bool) (a b : AfterScan) → (t ≡ true → Fit places a) → Fit places b → Fit places (cond t a b)
either places true a b f g = f refl
either places false a b f g = g

reading_fits : (places : ℕ) (s : State) (first second entries : List ℕ) (refusal : AfterScan)
    (call : List ℕ → List ℕ → AfterScan)
    → Fit places refusal → ((current other : List ℕ) → Fit places (call current other))
    → Fit places (reading s first second entries refusal call)
unfolding reading oriented checked
reading_fits places s first second entries refusal call r f = at s.second_is_current
  where
    at : (t : Bool) → Fit places (oriented t (checked s entries (λ current other. refusal) call) first second)
    at false = either places (sound s first second entries) _ _ (λ t. f first second) r
    at true = either places (sound s second first entries) _ _ (λ t. f second first) r

scanned_fits : (entries lent : List ℕ) (next : ℕ) (o : Option (List ℕ)) → Fit (length lent) (scanned entries lent next o)
unfolding Fit handed_by scanned
scanned_fits entries lent next none = omega arith
scanned_fits entries lent next (some ns) =
    either (length lent) (leb (length ns * 2) (length lent)) _ _ (λ t. leb-true (length ns * 2) (length lent) t) (omega arith)

module _ (s : State) (first second entries lent : List ℕ) (cursor : ℕ) where
  scan_fits : Fit (length lent) (walk.scan s first second entries lent cursor)
  unfolding Fit handed_by walk.scan
  scan_fits =
      reading_fits (length lent) s first second entries _ _ (omega arith)
      (λ current other.
      either (length lent) (eqb (keys_held s) 0) _ _ (λ t. omega arith) (scanned_fits entries lent _ _))

  abbrev w : World
  w = world s first second entries

  -- what a walk call that is answered so writes and leaves
  abbrev ran : AfterScan → Ran
  ran d = answered w (kept_scan w d) (handed_out (kept_scan w d)) (kept_scan w d).lent

  refused : (lent' : List ℕ) (e : ScanError) (r : Result Values Refusal) → IsErrAnd r (λ f. f ≡ scan_refusal e)
      → Leaves (ran (AfterScan.after (Err e) lent')) r w lent'
  unfolding kept_scan kept handed_out scan_reply scan_refusal reply answered answer_line carry carried_state world line_of refusal_number Fits
  refused lent' e (Ok v) h = elim h [ ]
  refused lent' (ScanError.Short count) (Err f) h = rw h (record { same = refl; fits = tt })
  refused lent' (ScanError.Refused e) (Err f) h = refused_leaves s first second entries lent' e (0 ∷ 0 ∷ []) s first second entries [] (Err f) h

  module _ {a : Result (ℕ × ℕ) ScanError} {lent' : List ℕ} (c : AfterScan.after a lent' ≡ walk.scan s first second entries lent cursor) where
    pub walk_done : length lent' ≡ length lent → {next count : ℕ} → a ≡ Ok (next, count)
        → Leaves (ran (walk.scan s first second entries lent cursor)) (Ok (Values.Walk next count)) w lent'
    unfolding kept_scan kept handed_out handed_by scan_reply reply answered carry carried_state world line_of done_line values_of handed Fit Fits
    walk_done k {next} {count} e =
        let f : Fit (length lent) (AfterScan.after a lent') = subst (Fit (length lent)) (sym c) scan_fits in
        let g : handed_by (Ok (next, count)) ≤ length lent = subst (λ (b : Result (ℕ × ℕ) ScanError). handed_by b ≤ length lent) e f in
        rw (← c, e) (record { same = refl; fits = omega arith })

    pub walk_refused : {e : ScanError} {r : Result Values Refusal} → a ≡ Err e → IsErrAnd r (λ f. f ≡ scan_refusal e)
        → Leaves (ran (walk.scan s first second entries lent cursor)) r w lent'
    walk_refused {e = e} {r = r} k h = rw (← c, k) (refused lent' e r h)
