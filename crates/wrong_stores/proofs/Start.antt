-- What the refutations share: a store of ours to begin with, and the statements from there on; and everything that a store of
-- specs/ computes with, opened by one name.
-- Assumes nothing.
use Prim.Native.Nat.{ℕ, zero, suc, ◌<◌, ◌≤◌}
use mathlib.Core.Path.{◌≡◌, refl, sym, ◌∙◌, ap}
use mathlib.Core.Bool.{Bool, true, false}
use mathlib.Core.Logic.{◌⊎◌, inl, inr}
use mathlib.Core.List.{List, [], ◌∷◌, ◌++◌}
use lib.ListN.{replicate, get_or}
use native.Mathlib.Omega.{arith}
use lib.Dec.{eqb}
use borrow.Author.Tests.{eqb-false}
use Rattle.cursor.specs.Member.{In}
use Rattle.model.specs.declared.Table.{Table}
use Rattle.model.specs.Memory as memory
use Rattle.model.specs.Memory.{link_of, key_of, value_of, Place, Live, size_of, entries_at}
use Rattle.model.specs.Calls as calls
use Rattle.model.specs.Sequences as sequences
use Rattle.model.specs.Sequences.{World, KeyCall, ReadCall, StateCall, Call, Outcome, perform, carry, run, events}
use Rattle.model.proofs.Computing as model
use Rattle.refinement.specs.Worlds as worlds
use Rattle.refinement.specs.Worlds.{current, other, UndamagedAt, Held}
use Rattle.refinement.specs.Demand1 as demand1
use Rattle.refinement.specs.Demand1.{nth, Chain}
use Rattle.refinement.specs.Demand2 as demand2
use Rattle.refinement.specs.Demand3 as demand3
use Rattle.refinement.specs.Demand3.{Demand3, Matches, SequenceHolds, Ideal, lengths_of, begun, start_number, replay, Visit, Walk}
use Rattle.refinement.specs.ExactlyOnce as once
use Rattle.refinement.specs.ExactlyOnce.{ExactlyOnce, HandOuts}
use Rattle.refinement.specs.SafeIterators as safe
use Rattle.refinement.specs.SafeIterators.{SafeIterators, Pass, PassHolds}
use Rattle.refinement.specs.RehashesEnd as ends
use Rattle.refinement.specs.RehashesEnd.{RehashEnds, RehashesEnd}
use Rattle.refinement.proofs.Demand3 as ours
use Rattle.wrong_stores.specs.OneCall as one
use Rattle.wrong_stores.specs.OneCall.{by_call, by_read_call}

-- two bucket buffers of 16 numbers, and an entry buffer for three entries, all zeros
unfoldable pub zeros : World
zeros = sequences.world calls.no_state (replicate 16 0) (replicate 16 0) (replicate 9 0)

-- After a start of three entries and that size, by ours. Then growth is forbidden, so that in a history of few keys and few
-- buckets a rehash begins where it has a resize, and else not.

abbrev pub forbid : Call
forbid = Call.note (StateCall.allow_resize false)

unfoldable pub started : ℕ → World
started size = run perform (carry zeros (perform zeros (Call.init 3 size))) (forbid ∷ [])

unfoldable pub started_ideal : ℕ → Ideal
started_ideal size = replay (lengths_of zeros) (begun 3 size) (forbid ∷ [])

-- a lent list with room for every key
unfoldable pub room : List ℕ
room = replicate 6 0

-- The calls on a key, as a history has them.

abbrev pub find : ℕ → Call
find key = Call.on key KeyCall.find

abbrev pub update : ℕ → ℕ → Call
update key value = Call.on key (KeyCall.update value)

abbrev pub add : ℕ → ℕ → Call
add key value = Call.on key (KeyCall.add value)

abbrev pub delete : ℕ → Call
delete key = Call.on key KeyCall.delete

-- a safe iterator's begin and end

abbrev pub begin_safe : Call
begin_safe = Call.note StateCall.begin_safe

abbrev pub end_safe : Call
end_safe = Call.note StateCall.end_safe

-- 1 for a look, and for a call that is lent a list; else 0

unfoldable pub is_look : Call → ℕ
is_look =
    by_call (λ capacity size. 0) (λ key c. 0) (λ size. 0) 0 (λ cursor lent. 0) (λ place lent. 0)
    (by_read_call (λ growing. 0) 1 0 (λ fingerprint. 0)) (λ c. 0)

unfoldable pub is_lent : Call → ℕ
is_lent = by_call (λ capacity size. 0) (λ key c. 0) (λ size. 0) 0 (λ cursor lent. 1) (λ place lent. 1) (λ c. 0) (λ c. 0)

-- All that a refutation computes with, opened by one name, `computing`: what a history computes with, and these.

-- ours but for one call
unfoldable pub the_stores : Unit {0}
unfolding one.none one.by_call one.by_key_call one.by_read_call one.by_state_call one.but one.but_init one.but_on one.but_resize one.but_step one.but_scan one.but_iterate one.but_read one.but_note one.but_find one.but_update one.but_add one.but_delete one.but_suggested_size one.but_look one.but_begin one.but_end one.but_allow one.but_begin_safe one.but_end_safe one.by_number one.if_done one.if_refused one.if_damaged one.replying one.answering one.handing_back one.listing one.leaving
the_stores = tt

-- the demands, and what they say of a world
unfoldable pub the_statements : Unit {0}
unfolding worlds.current worlds.other worlds.UndamagedAt worlds.takes_step worlds.may_grow demand1.BadState demand1.nth demand1.head_of demand1.ChainAt demand1.SoundChain demand1.Damaged demand1.live_tables demand1.key_places demand1.OnChain demand1.KeyHeld demand1.Full demand1.FreeListDamaged demand1.EmptyFrom demand1.EndFirst demand1.StepDamaged demand1.places demand1.KeysOn demand1.TooMany demand1.GroupDamaged demand1.Short demand1.place_at demand1.BucketDamaged demand1.KeysFrom demand1.ShortFrom demand1.row demand1.key_rows demand1.alone_rows demand1.step_world demand1.on_rows demand1.read_rows demand1.note_rows demand1.rows demand1.Decides demand1.Leaves demand1.key_zeros demand1.read_zeros demand1.LeavesList demand1.LeavesAll demand2.group_entries demand2.next_cursor demand2.handing demand2.HandsOut demand2.first_filled demand2.place_behind demand2.bucket_entries demand2.IteratesOut demand3.lengths_of demand3.ideal demand3.begun demand3.among demand3.table_of demand3.size_in demand3.start_number demand3.start_answer demand3.key_answer demand3.resize_answer demand3.lowest demand3.after_step demand3.step_taken demand3.step_answer demand3.steps_first demand3.on_answer demand3.grows demand3.then_grows demand3.is_bucket demand3.in_group demand3.group_pairs demand3.place_number demand3.place_of demand3.is_at demand3.first_held demand3.bucket_pairs demand3.place_pairs demand3.hand_answer demand3.live_sizes demand3.keys_in demand3.ideal_print demand3.read_answer demand3.with_notes demand3.end_answer demand3.note_answer demand3.predict demand3.replay demand3.pairs_in demand3.handed_out demand3.visit demand3.Answered demand3.largest demand3.HeldAtEach demand3.keys_handed once.times once.NotShrinking once.shrinks once.least safe.onlooker safe.stays ends.OngoingBy ends.Ongoing ends.UnderWay ends.steps_in ends.answered_step ends.answered_steps ends.filled_buckets ends.most_steps ends.Advances
the_statements = tt

unfoldable pub computing : Unit {0}
unfolding zeros started started_ideal room is_look is_lent model.computing the_stores the_statements
computing = tt

-- What calls of ours make of that store, for a size that the start accepts, is undamaged, and has what its ideal has, since
-- demand 3 holds of ours. So each statement speaks of what another store makes of it.

abbrev pub reached : ℕ → List Call → World
reached size calls = run perform (started size) calls

abbrev pub reached_ideal : ℕ → List Call → Ideal
reached_ideal size calls = replay (lengths_of zeros) (started_ideal size) calls

pub reached_holds : (size : ℕ) → start_number (lengths_of zeros) 3 size ≡ 0 → (calls : List Call)
    → UndamagedAt (reached size calls) × Matches (lengths_of zeros) (reached size calls) (reached_ideal size calls)
unfolding started started_ideal demand3.replay sequences.run
reached_holds size fits calls =
    let answered = ((ours.demand3).starts zeros 3 size).number ∙ fits in
    let s = ours.from_a_start perform ours.demand3 zeros 3 size answered (forbid ∷ calls) in
    (s.undamaged, s.matches)

-- demand 3 at a history
pub at : {does : World → Call → Outcome} → Demand3 does → (size : ℕ) → start_number (lengths_of zeros) 3 size ≡ 0
    → (calls : List Call) → SequenceHolds does (lengths_of zeros) (started size) (started_ideal size) calls
unfolding demand3.replay sequences.run
at d size fits calls =
    let (undamaged, matches) = reached_holds size fits [] in
    d.onward (lengths_of zeros) (started size) (started_ideal size) undamaged matches calls

-- how often a walk of that history hands out a key
pub walk_at : {does : World → Call → Outcome} → ExactlyOnce does → (size : ℕ) → start_number (lengths_of zeros) 3 size ≡ 0
    → (calls : List Call) {visits : List Visit} {ended : Bool}
    → Walk (lengths_of zeros) 0 (started_ideal size) (events does (started size) calls) visits ended → HandOuts visits ended
unfolding demand3.replay sequences.run
walk_at d size fits calls {visits} {ended} w =
    let (undamaged, matches) = reached_holds size fits [] in
    d.walks (lengths_of zeros) (started size) (started_ideal size) undamaged matches calls visits ended w

-- what a pass hands out, with a safe iterator that begins after some calls
pub pass_at : {does : World → Call → Outcome} → SafeIterators does → (size : ℕ) → start_number (lengths_of zeros) 3 size ≡ 0
    → (before calls : List Call) {moments : List Visit} {ended : Bool}
    → Pass (lengths_of zeros) 0 (reached_ideal size (before ++ begin_safe ∷ []))
    (events does (reached size (before ++ begin_safe ∷ [])) calls) moments ended
    → PassHolds moments ended
pass_at d size fits before calls {moments} {ended} p =
    let (undamaged, matches) = reached_holds size fits (before ++ begin_safe ∷ []) in
    d.passes (lengths_of zeros) (reached size (before ++ begin_safe ∷ [])) (reached_ideal size (before ++ begin_safe ∷ [])) undamaged
    matches calls moments ended p

-- how soon a rehash ends that is under way after some calls
pub rehash_at : {does : World → Call → Outcome} → RehashesEnd does → (size : ℕ) → start_number (lengths_of zeros) 3 size ≡ 0
    → (before calls : List Call)
    → RehashEnds does (lengths_of zeros) (reached size before) (reached_ideal size before) calls
rehash_at d size fits before calls =
    let (undamaged, matches) = reached_holds size fits before in
    d.rehashes (lengths_of zeros) (reached size before) (reached_ideal size before) undamaged matches calls

-- a visit at a cursor, or a place, and a smaller live size, with the keys held and those handed out
abbrev pub visited : ℕ → ℕ → List ℕ → List ℕ → Visit
visited cursor size held handed = record { cursor = cursor; size = size; held = held; handed = handed }

-- Two things that are both this one: each is computed by itself.
pub alike : {A : Type 0} (this : A) {x y : A} → x ≡ this → y ≡ this → x ≡ y
alike this e f = e ∙ sym f

-- Two things that some number tells apart; two lists, by the number at a place.

pub apart : {A : Type 0} (number : A → ℕ) (x y : A) → eqb (number x) (number y) ≡ false → x ≡ y → ⊥
apart number x y e same = eqb-false _ _ e (ap number same)

pub differ : (i : ℕ) (xs ys : List ℕ) → eqb (get_or xs i 0) (get_or ys i 0) ≡ false → xs ≡ ys → ⊥
differ i xs ys e same = apart (λ (l : List ℕ). get_or l i 0) xs ys e same

pub neither : {A B : Type 0} → (A → ⊥) → (B → ⊥) → A ⊎ B → ⊥
neither f g (inl a) = f a
neither f g (inr b) = g b

-- Where a call's first two rows are those of 1 and 2, and the second one's condition holds, no other number will do.
pub must_be_damaged : {Bad Damaged Rest : Type 0} (n : ℕ) → eqb n 1 ≡ false → eqb n 2 ≡ false → Damaged
    → (Bad × (n ≡ 1)) ⊎ ((¬ Bad) × ((Damaged × (n ≡ 2)) ⊎ ((¬ Damaged) × Rest))) → ⊥
must_be_damaged n f g d =
    neither (λ h. eqb-false n 1 f h.1) (λ h. neither (λ i. eqb-false n 2 g i.1) (λ i. i.0 d) h.1)

-- And so of a step during a rehash that is not held up, whose fourth row is that of 2.
pub must_step_damaged : {Bad Resting HeldUp Damaged Rest : Type 0} (n : ℕ) → eqb n 1 ≡ false → ¬ Resting → ¬ HeldUp
    → eqb n 2 ≡ false → Damaged
    → (Bad × (n ≡ 1))
    ⊎ ((¬ Bad)
    × ((Resting × (n ≡ 8))
    ⊎ ((¬ Resting)
    × ((HeldUp × (n ≡ 18)) ⊎ ((¬ HeldUp) × ((Damaged × (n ≡ 2)) ⊎ ((¬ Damaged) × Rest)))))))
    → ⊥
must_step_damaged n f moving free g d =
    neither (λ h. eqb-false n 1 f h.1)
    (λ h.
    neither (λ i. moving i.0)
    (λ i. neither (λ j. free j.0) (λ j. neither (λ k. eqb-false n 2 g k.1) (λ k. k.0 d) j.1) i.1)
    h.1)

-- calls that are no look, and that are lent no list

pub no_look : {c : Call} → is_look c ≡ 0 → c ≡ Call.read ReadCall.current_table → ⊥
unfolding is_look by_call by_read_call
no_look is_not same = eqb-false 0 1 refl (sym is_not ∙ ap is_look same)

pub no_scan : {c : Call} {cursor : ℕ} {lent : List ℕ} → is_lent c ≡ 0 → c ≡ Call.scan cursor lent → ⊥
unfolding is_lent by_call
no_scan is_not same = eqb-false 0 1 refl (sym is_not ∙ ap is_lent same)

pub no_iterate : {c : Call} {place : ℕ} {lent : List ℕ} → is_lent c ≡ 0 → c ≡ Call.iterate place lent → ⊥
unfolding is_lent by_call
no_iterate is_not same = eqb-false 0 1 refl (sym is_not ∙ ap is_lent same)

-- the entries at a place
abbrev pub entries_in : World → Place → List ℕ
entries_in w p = entries_at w.state (current w) (other w) w.entries p

-- a chain of one entry
pub single : (test : ℕ → Bool) (entries : List ℕ) (capacity head : ℕ) → 0 < head → head ≤ capacity
    → test (key_of entries head) ≡ true → link_of entries head ≡ 0 → Chain test entries capacity head 1
unfolding demand1.nth
single test entries capacity head pos fits own end = record { entry = entry; key = key; end = end }
  where
    entry : (k : ℕ) → k < 1 → (0 < nth entries head k) × (nth entries head k ≤ capacity)
    entry zero l = (pos, fits)
    entry (suc k) l = absurd (omega arith)

    key : (k : ℕ) → k < 1 → test (key_of entries (nth entries head k)) ≡ true
    key zero l = own
    key (suc k) l = absurd (omega arith)

-- With one table of one bucket, an entry that is not in that bucket is in none, and one that is not free either on no chain.

pub in_no_bucket : (w : World) (n : ℕ) → w.state.old_size ≡ 1 → w.state.new_size ≡ 0
    → (In n (entries_in w (Place.bucket Table.Old 0)) → ⊥) → (t : Table) (b : ℕ)
    → b < size_of w.state t → In n (entries_in w (Place.bucket t b)) → ⊥
unfolding memory.size_of
in_no_bucket w n one no_new not_there Table.Old zero live h = not_there h
in_no_bucket w n one no_new not_there Table.Old (suc b) live h = omega arith
in_no_bucket w n one no_new not_there Table.New b live h = omega arith

pub on_no_chain : (w : World) (n : ℕ) → w.state.old_size ≡ 1 → w.state.new_size ≡ 0
    → (In n (entries_in w Place.free) → ⊥)
    → (In n (entries_in w (Place.bucket Table.Old 0)) → ⊥) → (p : Place)
    → Live w.state p → In n (entries_in w p) → ⊥
unfolding memory.Live
on_no_chain w n one no_new not_Free not_there Place.free live h = not_Free h
on_no_chain w n one no_new not_Free not_there (Place.bucket t b) live h = in_no_bucket w n one no_new not_there t b live h

abbrev pub held : {w : World} {key value : ℕ} (n : ℕ) (t : Table) (b : ℕ) → b < size_of w.state t
    → In n (entries_in w (Place.bucket t b)) → key_of w.entries n ≡ key → value_of w.entries n ≡ value → Held w key value
held n t b live there its_key its_value =
    record {
      entry = n;
      table = t;
      index = b;
      live = live;
      there = there;
      its_key = its_key;
      its_value = its_value;
    }
