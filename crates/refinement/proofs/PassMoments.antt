-- The passes of a sequence of calls whose answers are as predicted, over legal tables, while safe iterators hold up the
-- rehash. It gives `passes_hold`: no key is handed out more often than it comes to be held, and an ended pass has handed out
-- each key held throughout exactly once.
-- Assumes nothing.
use Prim.Native.Nat.{ℕ, suc, ◌+◌, ◌<◌, ◌≤◌}
use mathlib.Core.Path.{◌≡◌, refl, sym, ap, subst, ◌∙◌}
use mathlib.Core.Logic.{◌⊎◌, inl, inr, ⊎_elim}
use mathlib.Core.Bool.{Bool, true, false, ◌&&◌, not, cond}
use mathlib.Core.List.{List, [], ◌∷◌, ◌++◌}
use mathlib.Core.Option.{Option, none, some}
use native.Mathlib.Decide.{ℕ_discrete, dec_le}
use native.Mathlib.Nat.{mod-lt}
use native.Mathlib.Omega.{arith}
use lib.ListN.{get_or}
use lib.Dec.{leb}
use Rattle.cursor.specs.Member.{In, Distinct, any, keep}
use Rattle.model.specs.declared.Table.{Table}
use Rattle.model.specs.Keys.{bucket_of, hash}
use Rattle.model.specs.Limits.{legal_size, largest_exponent}
use Rattle.model.specs.Answers.{Reply, reply}
use Rattle.model.specs.Calls.{old_new}
use Rattle.model.specs.Walk.{Tables}
use Rattle.model.specs.Iterators.{end_place}
use Rattle.model.specs.Sequences.{ReadCall, Call, Event, Pair, keys_of}
use Rattle.model.proofs.Power.{legal_pos}
use Rattle.model.proofs.Tests.{Tells, told, tested, tested_not, true_not_false, tells_and, tells_le, tells_eq}
use Rattle.model.proofs.FirstPlace.{NonePass, Found, first_found}
use Rattle.refinement.specs.Demand2.{place_behind}
use Rattle.refinement.specs.Demand3.{Lengths, Ideal, among, table_of, size_in, place_number, place_of, is_at, first_held, bucket_pairs, place_pairs, hand_answer, predict, handed_out, AsPredicted, Answered, Visit, visit, HeldAtEach, keys_handed}
use Rattle.refinement.specs.ExactlyOnce.{times}
use Rattle.refinement.specs.SafeIterators.{onlooker, Pass, stays, PassHolds}
use Rattle.model.proofs.Lists.{in_map, of_map, in_keep, of_keep, tells_any}
use Rattle.refinement.proofs.PlainMaps.{tells_among}
use Rattle.refinement.proofs.IdealSteps.{either, one_at_most, any_hand}
use Rattle.refinement.proofs.LiveTables.{Legal}
use Rattle.refinement.proofs.LegalTables.{predict_legal}
use Rattle.refinement.proofs.Counts.{count, count_append, count_once, count_in, in_count}
use Rattle.refinement.proofs.PausedPlaces.{place_stays}

-- ---- one call

module _ (key : ℕ) where
  abbrev held : Ideal → Type 0
  held i = In key (keys_of i.plain.pairs)

  -- the place of a key lies before the end
  before_end : (i : Ideal) → Legal i.tables → place_of i key < end_place i.tables
  unfolding place_of place_number table_of size_in old_new end_place Legal legal_size bucket_of hash
  before_end i legal = by i.tables legal
    where
      in_table : (size : ℕ) → legal_size size ≡ true → bucket_of key size < size
      in_table size h = mod-lt key (legal_pos largest_exponent size h)

      by : (t : Tables) → Legal t
          → place_number t (table_of t i.unmoved key) (bucket_of key (size_in t (table_of t i.unmoved key))) < end_place t
      by (Tables.one size) h = in_table size h
      by (Tables.two old new) h =
          either
          (λ (t : Table). place_number (Tables.two old new) t (bucket_of key (size_in (Tables.two old new) t)) < old + new)
          (among key i.unmoved) Table.Old Table.New
          (omega (arith, in_table old h.0)) (omega (arith, in_table new h.1))

  module _ (i : Ideal) where
    abbrev ps : List Pair
    ps = i.plain.pairs

    abbrev at : ℕ
    at = place_of i key

    -- the search's test is passed at the key's place
    held_at : held i → any (is_at i at) ps ≡ true
    unfolding keys_of is_at
    held_at h =
        let (p, there, e) = of_map (λ (p : Pair). p.key) key ps h in
        tested (tells_any (λ p. place_of i p.key ≡ at) (is_at i at) (λ p. tells_eq (place_of i p.key) at) ps)
        (p, there, ap (place_of i) (sym e))

    -- the keys of the bucket at a place
    of_bucket_lem : (n : ℕ) → In key (keys_of (keep (is_at i n) ps)) → held i × (at ≡ n)
    unfolding keys_of is_at
    of_bucket_lem n h =
        let (p, there, e) = of_map (λ (p : Pair). p.key) key (keep (is_at i n) ps) h in
        let (q, t) = of_keep (is_at i n) p ps there in
        (rw e (in_map (λ (p : Pair). p.key) p ps q), ap (place_of i) e ∙ told (tells_eq (place_of i p.key) n) t)

    in_bucket_lem : held i → In key (keys_of (keep (is_at i at) ps))
    unfolding keys_of is_at
    in_bucket_lem h =
        let (p, there, e) = of_map (λ (p : Pair). p.key) key ps h in
        let t = tested (tells_eq (place_of i p.key) at) (ap (place_of i) (sym e)) in
        subst (λ (k : ℕ). In k (keys_of (keep (is_at i at) ps))) (sym e)
        (in_map (λ (p : Pair). p.key) p (keep (is_at i at) ps) (in_keep (is_at i at) p ps there t))

  -- One answered call from a place on, the next place, and the keys that it hands out.
  record Hands (i : Ideal) (due next : ℕ) (handed : List ℕ) : Type 0 where
    -- what it hands out is held, at a place from there on, and the next one is behind that
    only : In key handed → held i × (due ≤ place_of i key) × (next ≡ suc (place_of i key))
    -- a held key from there on is handed out, or it comes later
    all : held i → due ≤ place_of i key → In key handed ⊎ (next ≤ place_of i key)
    -- what comes later is from there on
    later : held i → next ≤ place_of i key → due ≤ place_of i key

  -- by what is the first bucket with a key
  by_found : (i : Ideal) → Legal i.tables → (due : ℕ) (o : Option ℕ)
      → Found (λ n. any (is_at i n) i.plain.pairs) due (end_place i.tables) o
      → Hands i due (place_behind i.tables o) (keys_of (bucket_pairs i o))
  unfolding Found NonePass place_behind bucket_pairs keys_of
  by_found i legal due none none_at =
      record {
        only = λ k. absurd k;
        all = λ h from. absurd (true_not_false (sym (held_at i h) ∙ none_at (place_of i key) from (before_end i legal)));
        later = λ h behind. absurd (omega (arith, before_end i legal));
      }
  by_found i legal due (some n) first =
      record {
        only = λ k. let (h, e) = of_bucket_lem i n k in (h, omega (arith, first.from_place), omega arith);
        all =
            λ h from.
            elim (ℕ_discrete (place_of i key) n) [
              | yes e ↦ inl (subst (λ (m : ℕ). In key (keys_of (keep (is_at i m) i.plain.pairs))) e (in_bucket_lem i h))
              | no d ↦
                  inr
                  (elim (dec_le (suc n) (place_of i key)) [
                    | yes l ↦ l
                    | no f ↦ absurd (true_not_false (sym (held_at i h) ∙ first.none_before (place_of i key) from (omega arith)))
                  ])
            ];
        later = λ h behind. omega (arith, first.from_place);
      }

  -- the same keys handed out
  same_keys : {i : Ideal} {due next : ℕ} {keys handed : List ℕ} → (In key keys → In key handed) → (In key handed → In key keys)
      → Hands i due next keys → Hands i due next handed
  same_keys there back h =
      record {
        only = λ k. h.only (back k);
        all = λ held from. ⊎_elim (λ k. inl (there k)) (λ l. inr l) (h.all held from);
        later = h.later;
      }

  -- what an answered call that hands out answers
  hand_next : (i : Ideal) (next count places : ℕ) → (hand_answer i next count places).number ≡ 0
      → get_or (hand_answer i next count places).values 0 0 ≡ next
  unfolding reply
  hand_next i next count places =
      any_hand i (λ (r : Reply Ideal). r.number ≡ 0 → get_or r.values 0 0 ≡ next) next count places (λ z. refl)
      (λ z. absurd (omega arith))

  module _ (l : Lengths) (i : Ideal) (e : Event) (due : ℕ) (lent : List ℕ) (legal : Legal i.tables)
      (call : e.call ≡ Call.iterate due lent) (zero : e.number ≡ 0) (a : AsPredicted l i e) where
    next_place : get_or e.values 0 0 ≡ place_behind i.tables (first_held i due)
    unfolding predict
    next_place =
        let none_look : e.call ≡ Call.read ReadCall.current_table → ⊥ =
        λ look. let z : ◌≡◌ {A = ℕ} 0 1 = cc in omega arith in
        let by_call : predict l i e.call ≡ predict l i (Call.iterate due lent) = ap (predict l i) call in
        let number : (predict l i (Call.iterate due lent)).number ≡ 0 =
        ap (λ (r : Reply Ideal). r.number) (sym by_call) ∙ sym a.number ∙ zero in
        ap (λ (vs : List ℕ). get_or vs 0 0) (a.values none_look ∙ ap (λ (r : Reply Ideal). r.values) by_call)
        ∙ hand_next i _ _ _ number

    -- an answered call that iterates
    iterated : Hands i due (get_or e.values 0 0) (keys_of (handed_out e))
    unfolding first_held place_pairs keys_of
    iterated =
        let p = a.answered_pass due lent call zero in
        let f : Pair → ℕ = λ p. p.key in
        subst (λ (n : ℕ). Hands i due n (keys_of (handed_out e))) (sym next_place)
        (same_keys
        (λ k. let (q, there, s) = of_map f key (place_pairs i due) k in rw s (in_map f q (handed_out e) (p.all q there)))
        (λ k. let (q, there, s) = of_map f key (handed_out e) k in rw s (in_map f q (place_pairs i due) (p.only q there)))
        (by_found i legal due (first_held i due) (first_found (λ n. any (is_at i n) i.plain.pairs) i.tables due)))

    -- which leaves the ideal
    iterate_state : (predict l i e.call).state ≡ i
    unfolding predict reply
    iterate_state =
        ap (λ (c : Call). (predict l i c).state) call ∙ any_hand i (λ (r : Reply Ideal). r.state ≡ i) _ _ _ refl refl

  -- ---- the count

  abbrev is_held : Ideal → Bool
  is_held i = among key (keys_of i.plain.pairs)

  abbrev one : Bool → ℕ
  one t = cond t 1 0

  -- 1 if the key is held, at a place from there on
  abbrev left : Ideal → ℕ → ℕ
  left i due = one (is_held i && leb due (place_of i key))

  fewer : {A B : Type 0} {s t : Bool} → (A → B) → Tells A s → Tells B t → one s ≤ one t
  fewer f (Tells.holds a) (Tells.holds b) = omega arith
  fewer f (Tells.holds a) (Tells.fails g) = absurd (g (f a))
  fewer f (Tells.fails g) t = omega arith

  tells_left : (i : Ideal) (due : ℕ) → Tells (held i × (due ≤ place_of i key)) (is_held i && leb due (place_of i key))
  tells_left i due = tells_and (tells_among key (keys_of i.plain.pairs)) (tells_le due (place_of i key))

  -- a call hands out at most what is left, and leaves the rest
  call_count : {i : Ideal} {due next : ℕ} {handed : List ℕ} → Hands i due next handed → Distinct handed
      → count key handed + left i next ≤ left i due
  call_count {i} {due} {next} {handed} h d =
      elim (dec_le 1 (count key handed)) [
        | yes more ↦
            let (k, from, e) = h.only (count_in key handed more) in
            omega (
              arith,
              count_once key handed d,
              ap one (tested (tells_left i due) (k, from)),
              ap one (tested_not (tells_left i next) (λ (k, l). omega arith)),
            )
        | no no_more ↦ omega (arith, fewer (λ (k, l). (k, h.later k l)) (tells_left i next) (tells_left i due))
      ]

  -- from one ideal to the next, where a key that stays held stays at its place
  turn : (i j : Ideal) (due : ℕ) → (held i → held j → place_of j key ≡ place_of i key)
      → one (is_held j && not (is_held j)) + left j due ≤ one (is_held j && not (is_held i)) + left i due
  turn i j due same = by (tells_among key (keys_of i.plain.pairs)) (tells_among key (keys_of j.plain.pairs))
    where
      by : {s t : Bool} → Tells (held i) s → Tells (held j) t
          → one (t && not t) + one (t && leb due (place_of j key)) ≤ one (t && not s) + one (s && leb due (place_of i key))
      by (Tells.holds a) (Tells.holds b) = omega (arith, ap (λ (n : ℕ). one (leb due n)) (same a b))
      by (Tells.fails f) (Tells.holds b) = omega (arith, one_at_most (leb due (place_of j key)) 1 0 (omega arith) (omega arith))
      by (Tells.holds a) (Tells.fails g) = omega arith
      by (Tells.fails f) (Tells.fails g) = omega arith

  -- ---- the moments of a pass

  times_first : (v : Visit) (vs : List Visit) → times key (v ∷ vs) ≡ count key v.handed + times key vs
  unfolding times keys_handed
  times_first v vs = count_append key v.handed (keys_handed vs)

  times_looking : (due : ℕ) (i : Ideal) (vs : List Visit) → times key (onlooker due i ∷ vs) ≡ times key vs
  unfolding times keys_handed onlooker
  times_looking due i vs = refl

  times_none : times key [] ≡ 0
  unfolding times keys_handed keep
  times_none = refl

  -- a pass has not begun, or its first moment sees the ideal
  record Opens (i : Ideal) (moments : List Visit) : Type 0 where
    first : Visit
    rest : List Visit
    here : moments ≡ first ∷ rest
    sees : first.held ≡ keys_of i.plain.pairs
    paused : 0 < i.iterators

  opens : {l : Lengths} {due : ℕ} {i : Ideal} {es : List Event} {moments : List Visit} {ended : Bool}
      → Pass l due i es moments ended → ((moments ≡ []) × (ended ≡ false)) ⊎ Opens i moments
  unfolding onlooker visit
  opens Pass.over = inl (refl, refl)
  opens (Pass.other p rest) = inr (record { first = _; rest = _; here = refl; sees = refl; paused = p })
  opens (Pass.onward lent p c z rest) = inr (record { first = _; rest = _; here = refl; sees = refl; paused = p })
  opens (Pass.last lent p c z e) = inr (record { first = _; rest = _; here = refl; sees = refl; paused = p })

  -- how often the key comes to be held, by whether it is at the first moment
  stays_first : (i : Ideal) (before : Bool) (moments : List Visit) (o : Opens i moments)
      → stays key before moments ≡ one (is_held i && not before) + stays key (is_held i) o.rest
  unfolding stays
  stays_first i before moments o = rw (o.here, o.sees)

  -- a key held at each moment is held at the first
  first_held_lem : (i : Ideal) (moments : List Visit) (o : Opens i moments) → HeldAtEach key moments → held i
  unfolding HeldAtEach
  first_held_lem i moments o each = subst (λ (ks : List ℕ). In key ks) o.sees (subst (HeldAtEach key) o.here each).0

  -- and never comes to be held again
  held_on : (moments : List Visit) → HeldAtEach key moments → stays key true moments ≡ 0
  unfolding HeldAtEach stays
  held_on [] each = refl
  held_on (v ∷ vs) (here, each) = rw (tested (tells_among key v.held) here) (omega (arith, held_on vs each))

  module _ (l : Lengths) where
    -- at most once for each time that it comes to be held, and once more if it is held, at a place from there on
    counted : {due : ℕ} {i : Ideal} {es : List Event} {moments : List Visit} {ended : Bool} → Legal i.tables
        → Answered l i es → Pass l due i es moments ended
        → times key moments ≤ stays key (is_held i) moments + left i due
    unfolding Answered stays onlooker visit
    counted legal a Pass.over = omega (arith, times_none)
    counted legal a (Pass.other {due} {i} {e} {moments} p rest) =
        ⊎_elim
        (λ (none_left, f). omega (arith, times_looking due i moments, ap (times key) none_left, times_none))
        (λ o.
        omega (
          arith,
          times_looking due i moments,
          counted (predict_legal l i legal e.call) a.1 rest,
          stays_first (predict l i e.call).state (is_held (predict l i e.call).state) moments o,
          stays_first (predict l i e.call).state (is_held i) moments o,
          turn i (predict l i e.call).state due
              (λ was is. place_stays key l i p e.call o.paused was is),
        ))
        (opens rest)
    counted legal a (Pass.onward {due} {i} {e} {moments} lent p c z rest) =
        let same = iterate_state l i e due lent legal c z a.0 in
        let later = counted (predict_legal l i legal e.call) a.1 rest in
        omega (
          arith,
          times_first (visit due i e) moments,
          rw same at later,
          call_count (iterated l i e due lent legal c z a.0) (a.0.answered_pass due lent c z).none_twice,
        )
    counted legal a (Pass.last {due} {i} {e} lent p c z end) =
        omega (
          arith,
          times_first (visit due i e) [],
          times_none,
          call_count (iterated l i e due lent legal c z a.0) (a.0.answered_pass due lent c z).none_twice,
        )

    -- a key held at each moment, at a place from there on, is handed out by the end
    covered : {due : ℕ} {i : Ideal} {es : List Event} {moments : List Visit} {ended : Bool} → Legal i.tables
        → Answered l i es → Pass l due i es moments ended → ended ≡ true → HeldAtEach key moments → due ≤ place_of i key
        → 0 < times key moments
    unfolding Answered HeldAtEach onlooker visit
    covered legal a Pass.over end each from = absurd (true_not_false (sym end))
    covered legal a (Pass.other {due} {i} {e} {moments} p rest) end (here, each) from =
        ⊎_elim (λ (no_more, f). absurd (true_not_false (sym end ∙ f)))
        (λ o.
        let j = (predict l i e.call).state in
        let still : held j = first_held_lem j moments o each in
        omega (
          arith,
          times_looking due i moments,
          covered (predict_legal l i legal e.call) a.1 rest end each
              (subst (λ (n : ℕ). due ≤ n) (sym (place_stays key l i p e.call o.paused here still)) from),
        ))
        (opens rest)
    covered legal a (Pass.onward {due} {i} {e} {moments} lent p c z rest) end (here, each) from =
        let same = iterate_state l i e due lent legal c z a.0 in
        ⊎_elim (λ k. omega (arith, times_first (visit due i e) moments, in_count key (keys_of (handed_out e)) k))
        (λ further.
        omega (
          arith,
          times_first (visit due i e) moments,
          covered (predict_legal l i legal e.call) a.1 rest end each (rw same further),
        ))
        ((iterated l i e due lent legal c z a.0).all here from)
    covered legal a (Pass.last {due} {i} {e} lent p c z last) end (here, each) from =
        ⊎_elim (λ k. omega (arith, times_first (visit due i e) [], in_count key (keys_of (handed_out e)) k))
        (λ further. absurd (omega (arith, before_end i legal)))
        ((iterated l i e due lent legal c z a.0).all here from)

    -- no more often than it is held or comes to be held
    few : {due : ℕ} {i : Ideal} {es : List Event} {moments : List Visit} {ended : Bool} → Legal i.tables
        → Answered l i es → Pass l due i es moments ended → times key moments ≤ stays key false moments
    few {due} {i} {moments = moments} legal a pass =
        ⊎_elim (λ (no_more, f). omega (arith, ap (times key) no_more, times_none))
        (λ o.
        omega (
          arith,
          counted legal a pass,
          stays_first i (is_held i) moments o,
          stays_first i false moments o,
          turn_first (is_held i) (leb due (place_of i key)),
        ))
        (opens pass)
      where
        turn_first : (s t : Bool) → one (s && not s) + one (s && t) ≤ one (s && true)
        turn_first true true = omega arith
        turn_first true false = omega arith
        turn_first false t = omega arith

    -- and so from any moment on
    few_from : {due : ℕ} {i : Ideal} {es : List Event} {moments : List Visit} {ended : Bool} → Legal i.tables
        → Answered l i es → Pass l due i es moments ended → (before rest : List Visit) → moments ≡ before ++ rest
        → times key rest ≤ stays key false rest
    unfolding Answered
    few_from legal a pass [] rest e = subst (λ (vs : List Visit). times key vs ≤ stays key false vs) e (few legal a pass)
    few_from legal a Pass.over (v ∷ vs) rest e = let z : ◌≡◌ {A = ℕ} 0 1 = cc in absurd (omega arith)
    few_from legal a (Pass.other {i} {e} {moments} p more) (v ∷ vs) rest same =
        let behind : moments ≡ vs ++ rest = cc in
        few_from (predict_legal l i legal e.call) a.1 more vs rest behind
    few_from legal a (Pass.onward {i} {e} {moments} lent p c z more) (v ∷ vs) rest same =
        let behind : moments ≡ vs ++ rest = cc in
        few_from {due = get_or e.values 0 0} (predict_legal l i legal e.call) a.1 more vs rest behind
    few_from legal a (Pass.last {due} {i} lent p c z last) (v ∷ vs) rest same =
        let behind : [] ≡ vs ++ rest = cc in
        few_from {i = i} {es = []} legal tt (Pass.over {due = due}) vs rest behind

-- ---- the passes of a sequence

pub passes_hold : (l : Lengths) (i : Ideal) (es : List Event) → Legal i.tables → Answered l i es
    → (moments : List Visit) (ended : Bool) → Pass l 0 i es moments ended → PassHolds moments ended
passes_hold l i es legal a moments ended pass =
    record {
      exactly_once =
          λ end key each.
          ⊎_elim (λ (no_more, f). absurd (true_not_false (sym end ∙ f)))
          (λ o.
          let here = tested (tells_among key (keys_of i.plain.pairs)) (first_held_lem key i moments o each) in
          omega (
            arith,
            covered key l legal a pass end each (omega arith),
            counted key l legal a pass,
            ap (λ (t : Bool). stays key t moments) here,
            held_on key moments each,
            one_at_most (among key (keys_of i.plain.pairs) && leb 0 (place_of i key)) 1 0 (omega arith) (omega arith),
          ))
          (opens key pass);
      no_doubles = λ before rest e key. few_from key l legal a pass before rest e;
    }
