-- How soon a rehash ends: so it is in every store that meets demand 3, and in ours.
-- Assumes nothing.
use Prim.Native.Nat.{ℕ, suc, ◌+◌, ◌<◌, ◌≤◌}
use mathlib.Core.Path.{◌≡◌, refl, sym, ap, subst, subst₃, ◌∙◌}
use mathlib.Core.Logic.{◌⊎◌, inl, inr}
use mathlib.Core.Bool.{Bool, true, false, not, cond}
use mathlib.Core.List.{List, [], ◌∷◌, ◌++◌}
use mathlib.Core.Option.{some}
use native.Mathlib.Decide.{ℕ_discrete, dec_lt}
use native.Mathlib.Omega.{arith}
use lib.Dec.{eqb}
use borrow.Author.Tests.{ne_eqb}
use Rattle.cursor.specs.Member.{In}
use Rattle.model.specs.declared.Table.{Table}
use Rattle.model.specs.Keys.{bucket_of}
use Rattle.model.specs.Limits.{largest_exponent, legal_size, empty_visits}
use Rattle.model.specs.Memory.{Place, Live, size_of, budget_at, belongs, chain, chain_at, listed, entries_at, key_of, value_of, head_at, buckets_of}
use Rattle.model.specs.Calls.{sound}
use Rattle.model.specs.Walk.{Tables, tables_by, tables_of}
use Rattle.model.specs.Sequences.{World, Call, Outcome, perform, carry, run, event, events}
use Rattle.model.proofs.Power.{legal_pos}
use Rattle.model.proofs.Soundness.{sound_facts}
use Rattle.model.proofs.Chains.{chain_end}
use Rattle.model.proofs.Linked.{read_sound, linked_first}
use Rattle.model.proofs.Shared.{in_its_bucket}
use Rattle.model.proofs.Tests.{true_not_false}
use Rattle.refinement.specs.Worlds.{current, other, UndamagedAt}
use Rattle.refinement.specs.Demand1.{head_of, EmptyFrom, FirstFilled}
use Rattle.refinement.specs.Demand3.{Lengths, Ideal, predict, replay, Answered, Matches, Demand3}
use Rattle.refinement.specs.RehashesEnd.{OngoingBy, Ongoing, UnderWay, answered_step, answered_steps, filled_buckets, most_steps, Advances, RehashEnds, RehashesEnd}
use Rattle.model.proofs.Sums.{sum_atmost, sum_few}
use Rattle.invariant.proofs.ToUndamaged.{entries_at_lem}
use Rattle.refinement.proofs.IdealSteps.{one_at_most}
use Rattle.refinement.proofs.Agreement.{HeldOld, Agrees, matches_agrees}
use Rattle.refinement.proofs.CalledBuckets.{called_for, buckets_called, in_table, called_by, some_steps, steps_by_filled, steps_fit}
use Rattle.refinement.proofs.IdealCalls.{During, left, Onward, Passes, passes, goes_step, goes_kept}
use Rattle.refinement.proofs.Demand3.{demand3}

-- the head of a chain is on it
chain_first : (test : ℕ → Bool) (entries : List ℕ) (capacity budget head : ℕ) (ns : List ℕ)
    → chain test entries capacity budget head ≡ some ns → (head ≡ 0 → ⊥) → In head ns
chain_first test entries capacity budget head ns e f =
    let (linked, short, passing) = read_sound test entries capacity budget head ns e in
    let (rest, is, behind) = linked_first entries capacity head ns (omega (arith, f)) linked in
    subst (λ (ms : List ℕ). In head ms) (sym is) (inl refl)

-- ---- a store beside the ideal

-- a step, in the store's words, by the unmoved keys
unfoldable Moves : ℕ → List ℕ → World → World → Type 0
Moves size keys w v =
    (EmptyFrom w (w.state.rehash_index + empty_visits)
    × (v.state.rehash_index ≡ w.state.rehash_index + empty_visits))
    ⊎ ((k : ℕ)
    × In k keys
    × FirstFilled w (bucket_of k size)
    × (v.state.rehash_index ≡ suc (bucket_of k size)))

record Beside (does : World → Call → Outcome) (l : Lengths) (w : World) (i : Ideal) : Type 0 where
  undamaged : UndamagedAt w
  matches : Matches l w i
  numbers : (c : Call) → (does w c).reply.number ≡ (predict l i c).number

-- whatever calls come
abbrev Along : (World → Call → Outcome) → Lengths → World → Ideal → Type 0
Along does l w i = (calls : List Call) → Beside does l (run does w calls) (replay l i calls)

module _ {does : World → Call → Outcome} (l : Lengths) (w : World) (i : Ideal) (beside : Beside does l w i) where
  abbrev size : ℕ
  size = w.state.old_size

  abbrev head : ℕ → ℕ
  head b = head_of w (Place.bucket Table.Old b)

  abbrev chain_of : ℕ → List ℕ
  chain_of b = entries_at w.state (current w) (other w) w.entries (Place.bucket Table.Old b)

  agrees : Agrees w i
  agrees = matches_agrees l w i beside.undamaged beside.matches

  -- the same tables
  moving_tables : w.state.rehashing ≡ true → i.tables ≡ Tables.two size w.state.new_size
  unfolding tables_of tables_by
  moving_tables e = sym beside.matches.tables ∙ ap (λ (f : Bool). tables_by f size w.state.new_size) e

  same_size : w.state.rehashing ≡ true → (n : ℕ) → During n i → n ≡ size
  same_size e n d = let same = sym d.tables ∙ moving_tables e in cc

  some_buckets : 0 < size
  unfolding UndamagedAt legal_size sound
  some_buckets =
      legal_pos largest_exponent size
      (sound_facts w.state (current w) (other w) w.entries beside.undamaged.state_sound).old_legal

  -- While a rehash is under way, the buckets of the old table that unmoved keys call for are filled, and no others.
  module _ (e : w.state.rehashing ≡ true) where
    -- a chain with an entry on it has a head
    some_head : (b n : ℕ) → In n (chain_of b) → head b ≡ 0 → ⊥
    unfolding entries_at listed chain_at head_of
    some_head b n there z =
        let none_there = chain_end (belongs w.state (Place.bucket Table.Old b)) w.entries w.state.capacity
        (budget_at w.state (Place.bucket Table.Old b)) (head b) z in
        subst (λ (ns : List ℕ). In n ns) (ap listed none_there) there

    its_bucket : (b n : ℕ) → In n (chain_of b) → bucket_of (key_of w.entries n) size ≡ b
    unfolding size_of
    its_bucket b n there = in_its_bucket w.state (current w) (other w) w.entries Table.Old b n there

    called_filled : (k : ℕ) → In k i.unmoved → head (bucket_of k size) ≡ 0 → ⊥
    unfolding Live size_of
    called_filled k h z =
        let at = agrees.unmoved_in k h in
        let n = at.held.entry in
        let there : In n (chain_of at.index) =
        subst (λ (ns : List ℕ). In n ns) (sym (entries_at_lem agrees.shape (Place.bucket Table.Old at.index) at.live)) at.held.there in
        let same : bucket_of k size ≡ at.index =
        ap (λ (m : ℕ). bucket_of m size) (sym at.held.its_key) ∙ its_bucket at.index n there in
        some_head at.index n there (subst (λ (b : ℕ). head b ≡ 0) same z)

    others_empty : (b : ℕ) → b < size → ((k : ℕ) → In k i.unmoved → bucket_of k size ≡ b → ⊥) → head b ≡ 0
    unfolding UndamagedAt Live size_of chain_at head_of
    others_empty b below none =
        elim (ℕ_discrete (head b) 0) [
          | yes z ↦ z
          | no f ↦
              let n = head b in
              let p = Place.bucket Table.Old b in
              let there : In n (chain_of b) =
              chain_first _ w.entries w.state.capacity _ n _ (beside.undamaged.chains_sound p below) f in
              let held : HeldOld w.state w.entries agrees.shape.at (key_of w.entries n) =
              record {
                value = value_of w.entries n;
                index = b;
                live = below;
                held =
                    record {
                      entry = n;
                      there = subst (λ (ns : List ℕ). In n ns) (entries_at_lem agrees.shape p below) there;
                      its_key = refl;
                      its_value = refl;
                    };
              } in
              absurd (none (key_of w.entries n) (agrees.in_unmoved e (key_of w.entries n) held) (its_bucket b n there))
        ]

    -- counted
    few_called : buckets_called size i.unmoved ≤ filled_buckets w
    unfolding buckets_called filled_buckets
    few_called =
        sum_atmost (called_for size i.unmoved) (λ b. cond (eqb (head b) 0) 0 1) size
        (λ b.
        called_by size (λ m. m ≤ cond (eqb (head b) 0) 0 1) i.unmoved b
        (λ k h is.
        let there : head b ≡ 0 → ⊥ = λ z. called_filled k h (subst (λ (n : ℕ). head n ≡ 0) (sym is) z) in
        subst (λ (t : Bool). 1 ≤ cond t 0 1) (sym (ne_eqb (head b) 0 there)) (omega arith))
        (λ f. omega arith))

    -- none before the next bucket
    during : During size i
    unfolding UndamagedAt head_of head_at buckets_of
    during =
        record {
          new = w.state.new_size;
          tables = moving_tables e;
          above =
              λ k h.
              elim (dec_lt (bucket_of k size) w.state.rehash_index) [
                | yes l ↦ absurd (called_filled k h (beside.undamaged.passed_empty (bucket_of k size) l))
                | no f ↦ omega (arith, f, beside.matches.index)
              ];
        }

    -- what a step of the ideal means in the store
    moves : (v : World) → Onward size i.unmoved w.state.rehash_index v.state.rehash_index → Moves size i.unmoved w v
    unfolding Onward Moves EmptyFrom
    moves v (inl (is, below, far)) =
        inl ((λ b from l. others_empty b (omega arith) (λ k h at. omega (arith, far k h))), is)
    moves v (inr (k, h, near, is, lowest)) =
        let from : w.state.rehash_index ≤ bucket_of k size = omega (arith, during.above k h, beside.matches.index) in
        let below = in_table size some_buckets k in
        inr (
          k,
          h,
          record {
            from_next = from;
            in_reach = near;
            in_table = below;
            filled = called_filled k h;
            empty_before = λ b from l. others_empty b (omega arith) (λ j g at. omega (arith, lowest j g));
          },
          is,
        )

  few_filled : filled_buckets w ≤ size
  unfolding filled_buckets
  few_filled =
      let fits = sum_few (λ b. cond (eqb (head b) 0) 0 1) 0 size (λ b. one_at_most (eqb (head b) 0) 0 1 (omega arith) (omega arith))
      (λ b l. absurd (omega arith)) in
      omega arith

-- ---- while it goes on

-- it does so by the state, and by the ideal
by_both : {does : World → Call → Outcome} {l : Lengths} {w : World} {i : Ideal} → Beside does l w i → (turned : Bool)
    → Ongoing turned w i → (w.state.rehashing ≡ true) × (i.turned ≡ turned)
unfolding Ongoing OngoingBy tables_of tables_by
by_both {w = w} {i = i} beside turned h = by w.state.rehashing refl
  where
    told : (t : Bool) → w.state.rehashing ≡ t → OngoingBy (tables_by t w.state.old_size w.state.new_size) turned w i
    told t e =
        subst (λ (ts : Tables). OngoingBy ts turned w i)
        (sym beside.matches.tables ∙ ap (λ (f : Bool). tables_by f w.state.old_size w.state.new_size) e) h

    by : (t : Bool) → w.state.rehashing ≡ t → (t ≡ true) × (i.turned ≡ turned)
    by true e = (refl, told true e)
    by false e = absurd (true_not_false (sym (told false e) ∙ e))

moving : {does : World → Call → Outcome} {l : Lengths} {w : World} {i : Ideal} → Beside does l w i → (turned : Bool)
    → Ongoing turned w i → w.state.rehashing ≡ true
moving beside turned h = (by_both beside turned h).0

now : (does : World → Call → Outcome) (l : Lengths) (turned : Bool) (w : World) (i : Ideal) (calls : List Call)
    → UnderWay does l turned w i calls → Ongoing turned w i
unfolding UnderWay
now does l turned w i [] u = u
now does l turned w i (c ∷ cs) u = u.0

not_itself : (b : Bool) → b ≡ not b → ⊥
not_itself true e = true_not_false e
not_itself false e = true_not_false (sym e)

-- what a call answered with that number does, counted if it is an answered step
record OneCall (size : ℕ) (i : Ideal) (c : Call) (number : ℕ) (j : Ideal) : Type 0 where
  during : During size j
  less : cond (answered_step i c number) 1 0 + left size j ≤ left size i
  only : (k : ℕ) → In k j.unmoved → In k i.unmoved
  onward : answered_step i c number ≡ true → Onward size i.unmoved i.index j.index

module _ (does : World → Call → Outcome) (l : Lengths) (turned : Bool) (size : ℕ) (pos : 0 < size) where
  goes : (w : World) (i : Ideal) → Along does l w i → During size i → (c : Call) → Ongoing turned w i
      → Ongoing turned (carry w (does w c)) (predict l i c).state
      → OneCall size i c (does w c).reply.number (predict l i c).state
  unfolding run replay answered_step
  goes w i along d c before after = by (passes l i size d.new d.tables _ _ c tables)
    where
      i' : Ideal
      i' = (predict l i c).state

      then : Beside does l (carry w (does w c)) i'
      then = along (c ∷ [])

      tables : i'.tables
          ≡ Tables.two (carry w (does w c)).state.old_size (carry w (does w c)).state.new_size
      tables = moving_tables l (carry w (does w c)) i' then (moving then turned after)

      by : Passes i c (predict l i c).number i' → OneCall size i c (does w c).reply.number i'
      by (Passes.stepped unpaused kept) =
          let (at_step, g) = goes_step size i d pos unpaused _ _ (sym kept.tables ∙ tables) in
          let (on, less) = goes_kept size _ at_step i' kept in
          record {
            during = on;
            less =
                omega (arith, g.less, one_at_most (answered_step i c (does w c).reply.number) 1 0 (omega arith) (omega arith));
            only = λ k h. g.only k (kept.only k h);
            onward = λ t. subst (λ (n : ℕ). Onward size i.unmoved i.index n) (sym kept.index) g.onward;
          }
      by (Passes.stayed f kept) =
          let (on, less) = goes_kept size i d i' kept in
          let none : answered_step i c (does w c).reply.number ≡ false =
          ap (answered_step i c) ((along []).numbers c) ∙ f in
          record {
            during = on;
            less = omega (arith, ap (λ (t : Bool). cond {A = ℕ} t 1 0) none);
            only = kept.only;
            onward = λ t. absurd (true_not_false (sym t ∙ none));
          }
      by (Passes.renewed other) =
          absurd
          (not_itself i.turned
          ((by_both (along []) turned before).1 ∙ sym (by_both then turned after).1 ∙ other))

  bounded : (calls : List Call) (w : World) (i : Ideal) → Along does l w i → During size i
      → UnderWay does l turned w i calls → answered_steps does l w i calls < left size i
  unfolding answered_steps UnderWay run replay
  bounded [] w i along d u = some_steps size i.unmoved i.index
  bounded (c ∷ cs) w i along d u =
      let g = goes w i along d c u.0 (now does l turned (carry w (does w c)) (predict l i c).state cs u.1) in
      omega (
        arith,
        g.less,
        bounded cs (carry w (does w c)) (predict l i c).state (λ ds. along (c ∷ ds)) g.during u.1,
      )

  -- the last call, by the keys that were to move before all
  last_moves : (calls : List Call) (w : World) (i : Ideal) → Along does l w i → During size i → (c : Call)
      → UnderWay does l turned w i (calls ++ c ∷ [])
      → answered_step (replay l i calls) c (does (run does w calls) c).reply.number ≡ true
      → Moves size i.unmoved (run does w calls) (run does w (calls ++ c ∷ []))
  unfolding UnderWay run replay Moves
  last_moves [] w i along d c u t =
      let at = along [] in
      let e = moving at turned u.0 in
      let same = same_size l w i at e size d in
      let onward = (goes w i along d c u.0 u.1).onward t in
      subst (λ (n : ℕ). Moves n i.unmoved w (carry w (does w c))) (sym same)
      (moves l w i at e (carry w (does w c))
      (subst₃ (λ (n now then : ℕ). Onward n i.unmoved now then) same (sym at.matches.index)
      (sym (along (c ∷ [])).matches.index) onward))
  last_moves (e ∷ cs) w i along d c u t =
      let g =
      goes w i along d e u.0 (now does l turned (carry w (does w e)) (predict l i e).state (cs ++ c ∷ []) u.1) in
      elim (last_moves cs (carry w (does w e)) (predict l i e).state (λ ds. along (e ∷ ds)) g.during c u.1 t) [
        | inl far ↦ inl far
        | inr (k, h, first, is) ↦ inr (k, g.only k h, first, is)
      ]

-- the number of the last call
last_number : (does : World → Call → Outcome) (l : Lengths) (calls : List Call) (w : World) (i : Ideal) (c : Call)
    → Answered l i (events does w (calls ++ c ∷ []))
    → (does (run does w calls) c).reply.number ≡ (predict l (replay l i calls) c).number
unfolding run replay events event Answered
last_number does l [] w i c a = a.0.number
last_number does l (e ∷ cs) w i c a = last_number does l cs (carry w (does w e)) (predict l i e).state c a.1

ends : (does : World → Call → Outcome) (l : Lengths) (w : World) (i : Ideal) → Along does l w i → (calls : List Call)
    → RehashEnds does l w i calls
unfolding Advances Moves run replay
ends does l w i along calls =
    record {
      within_size = λ u. omega (arith, most u, steps_fit _ _ some (few_filled l w i at));
      within_filled = most;
      each_step = advances;
    }
  where
    at : Beside does l w i
    at = along []

    some : 0 < w.state.old_size
    some = some_buckets l w i at

    under_way : (cs : List Call) → UnderWay does l i.turned w i cs → w.state.rehashing ≡ true
    under_way cs u = moving at i.turned (now does l i.turned w i cs u)

    most : UnderWay does l i.turned w i calls
        → answered_steps does l w i calls < most_steps w.state.old_size (filled_buckets w)
    most u =
        let e = under_way calls u in
        let d = during l w i at e in
        omega (
          arith,
          bounded does l i.turned w.state.old_size some calls w i along d u,
          steps_by_filled w.state.old_size i.unmoved (filled_buckets w) i.index d.above (few_called l w i at e)
              (few_filled l w i at),
        )

    advances : (c : Call) → UnderWay does l i.turned w i (calls ++ c ∷ [])
        → answered_step (replay l i calls) c (does (run does w calls) c).reply.number ≡ true
        → Advances w (run does w calls) (run does w (calls ++ c ∷ []))
    advances c u t =
        let e = under_way (calls ++ c ∷ []) u in
        elim (last_moves does l i.turned w.state.old_size some calls w i along (during l w i at e) c u t) [
          | inl far ↦ inl far
          | inr (k, h, filled, is) ↦ inr (bucket_of k w.state.old_size, filled, called_filled l w i at e k h, is)
        ]

pub demand3_ends : (does : World → Call → Outcome) → Demand3 does → RehashesEnd does
demand3_ends does d =
    record {
      rehashes =
          λ l w i undamaged matches.
          ends does l w i
          (λ cs.
          let s = d.onward l w i undamaged matches cs in
          record {
            undamaged = s.undamaged;
            matches = s.matches;
            numbers = λ c. last_number does l cs w i c (d.onward l w i undamaged matches (cs ++ c ∷ [])).answers;
          });
    }

pub rehashes_end : RehashesEnd perform
rehashes_end = demand3_ends perform demand3
