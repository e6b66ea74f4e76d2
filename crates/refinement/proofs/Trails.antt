-- A walk without the calls between its visits: `trail` gives it of every walk of a sequence whose answers are as predicted, over
-- legal tables. Each visit has what the laws of the cursor speak of. The store plays no part here.
-- Assumes nothing.
use Prim.Native.Nat.{ℕ, zero, suc, ◌*◌, ◌^◌, ◌<◌}
use mathlib.Core.Path.{◌≡◌, refl, sym, ap, ◌∙◌}
use mathlib.Core.Logic.{◌≢◌, ◌⊎◌, inl, inr}
use mathlib.Core.Bool.{Bool, true, false, cond}
use mathlib.Core.List.{List, [], ◌∷◌}
use native.Mathlib.Omega.{arith}
use lib.ListN.{length, get_or}
use lib.Dec.{leb}
use Rattle.cursor.specs.Member.{In, Distinct}
use Rattle.cursor.proofs.Walks.{Live, smaller, Valid, group_of, Covers, Near, call_answers}
use Rattle.model.specs.Answers.{Reply, reply}
use Rattle.model.specs.Sequences.{Call, Event, Pair, keys_of}
use Rattle.model.proofs.Tests.{told, tested}
use Rattle.refinement.specs.Demand2.{next_cursor}
use Rattle.refinement.specs.Demand3.{Lengths, Ideal, in_group, group_pairs, hand_answer, predict, handed_out, AsPredicted, Answered, Visit, visit, Walk}
use Rattle.model.proofs.Lists.{in_map, of_map, in_keep, of_keep}
use Rattle.refinement.proofs.Counts.{in_filled}
use Rattle.refinement.proofs.LiveTables.{Legal}
use Rattle.refinement.proofs.LegalTables.{predict_legal}
use Rattle.refinement.proofs.GroupPlaces.{GroupLaws, group_laws, tells_in_group}

-- A visit that was given cursor due: its live tables; the cursor that it answered, which is its group's unless no key was held;
-- what it handed out, no key twice, only keys of its smaller bucket, and every key held that its group covers.
pub record Visited (v : Visit) (due answered : ℕ) : Type 0 where
  pub given : v.cursor ≡ due
  pub live : Live
  pub valid : Valid live
  pub size : 2 ^ smaller live ≡ v.size
  pub next : answered ≢ 0 → answered ≡ (group_of live due).answered
  pub next_held : (key : ℕ) → In key v.held → answered ≡ (group_of live due).answered
  pub once : Distinct v.handed
  pub only : (key : ℕ) → In key v.handed → Near live due key
  pub all : (key : ℕ) → In key v.held → Covers live due key → In key v.handed

-- from cursor due on
pub data Trail : ℕ → List Visit → Bool → Type 0 where
  over : {due : ℕ} → Trail due [] false
  onward : {due answered : ℕ} {visits : List Visit} {ended : Bool} (v : Visit) → Visited v due answered → answered ≢ 0
      → Trail answered visits ended → Trail due (v ∷ visits) ended
  last : {due : ℕ} (v : Visit) → Visited v due 0 → Trail due (v ∷ []) true

-- the answered cursor is the published one but where that with no keys held is 0
next_kept_lem : (keys n : ℕ) → (0 < keys) ⊎ (next_cursor keys n ≢ 0) → next_cursor keys n ≡ n
unfolding next_cursor
next_kept_lem zero n (inl h) = absurd (omega arith)
next_kept_lem zero n (inr h) = absurd (h refl)
next_kept_lem (suc keys) n h = refl

-- a reply chosen by a test is the first, if the number is 0 and the second's is not
chosen : (t : Bool) (r q : Reply Ideal) → (cond t r q).number ≡ 0 → (q.number ≡ 0 → ⊥) → cond t r q ≡ r
chosen true r q z f = refl
chosen false r q z f = absurd (f z)

module _ (l : Lengths) (i : Ideal) (e : Event) (legal : Legal i.tables) (a : AsPredicted l i e)
    (due : ℕ) (lent : List ℕ) (c : e.call ≡ Call.scan due lent) (z : e.number ≡ 0) where
  laws : GroupLaws i.tables
  laws = group_laws i.tables legal

  abbrev keys : ℕ
  keys = length i.plain.pairs

  abbrev answer : ℕ
  answer = get_or e.values 0 0

  answers : answer ≡ next_cursor keys (group_of laws.live due).answered
  unfolding predict hand_answer reply
  answers =
      let enough = leb (length (group_pairs i due) * 2) (length lent) in
      let said = chosen enough _ _ (rw c at (sym a.number ∙ z)) (λ e. omega arith) in
      let values = rw c at (a.values (λ f. let z : ◌≡◌ {A = ℕ} 0 1 = cc in omega arith)) in
      rw (call_answers laws.live due laws.valid, laws.smaller_size)
      (ap (λ (vs : List ℕ). get_or vs 0 0) values ∙ ap (λ (r : Reply Ideal). get_or r.values 0 0) said)

  kept : (0 < keys) ⊎ (answer ≢ 0) → answer ≡ (group_of laws.live due).answered
  kept h = answers ∙ next_kept_lem keys _ (rw answers at h)

  abbrev of_group : Pair → Bool
  of_group p = in_group i due p.key

  visited : Visited (visit due i e) due answer
  unfolding visit group_pairs keys_of
  visited =
      let handed = a.answered_walk due lent c z in
      record {
        given = refl;
        live = laws.live;
        valid = laws.valid;
        size = laws.smaller_size;
        next = λ on. kept (inr on);
        next_held =
            λ key held.
            let (p, there, same) = of_map (λ (p : Pair). p.key) key i.plain.pairs held in
            kept (inl (in_filled p i.plain.pairs there));
        once = handed.none_twice;
        only =
            λ key out.
            let (p, there, same) = of_map (λ (p : Pair). p.key) key (handed_out e) out in
            let (paired, test) = of_keep of_group p i.plain.pairs (handed.only p there) in
            rw same (laws.near due p.key i.unmoved (told (tells_in_group i due p.key) test));
        all =
            λ key held covers.
            let (p, there, same) = of_map (λ (p : Pair). p.key) key i.plain.pairs held in
            let test = tested (tells_in_group i due p.key) (laws.covers due p.key (rw same at covers) i.unmoved) in
            rw same (in_map (λ (p : Pair). p.key) p (handed_out e) (handed.all p (in_keep of_group p i.plain.pairs there test)));
      }

pub trail : {l : Lengths} {due : ℕ} {i : Ideal} {es : List Event} {visits : List Visit} {ended : Bool}
    → Legal i.tables → Answered l i es → Walk l due i es visits ended → Trail due visits ended
unfolding Answered
trail legal a (Walk.over {due}) = Trail.over
trail {l} legal a (Walk.other {due} {i} {e} w) = trail (predict_legal l i legal e.call) a.1 w
trail {l} legal a (Walk.onward {due} {i} {e} lent c n on w) =
    Trail.onward _ (visited l i e legal a.0 due lent c n) on (trail (predict_legal l i legal e.call) a.1 w)
trail {l} legal a (Walk.last {due} {i} {e} lent c n z) = Trail.last _ (rw z at (visited l i e legal a.0 due lent c n))
