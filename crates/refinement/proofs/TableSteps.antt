-- One call on a store that agrees with the ideal: the calls that only read, a start, a resize, and those that set a field of
-- the state.
-- Assumes nothing.
use Prim.Native.Nat.{ℕ, zero, suc, ◌+◌, ◌<◌, ◌≤◌}
use mathlib.Core.Path.{◌≡◌, refl, sym, ap, ap₂, subst, subst₂, ◌∙◌}
use mathlib.Core.Bool.{Bool, true, false, ◌&&◌, cond}
use mathlib.Core.List.{List, [], ◌∷◌}
use native.Mathlib.Omega.{arith}
use lib.ListN.{length, take, length-take}
use lib.Dec.{ltb, eqb}
use borrow.Author.Tests.{ltb-true}
use Rattle.model.specs.declared.State.{State}
use Rattle.model.specs.declared.Table.{Table}
use Rattle.model.specs.declared.Error.{Error}
use Rattle.model.specs.Answers.{Reply, reply, error_number, init_reply, state_reply, value_reply, done_reply, table_reply}
use Rattle.model.specs.Limits.{largest_exponent, legal_capacity, legal_size, most_safe_iterators}
use Rattle.model.specs.Memory.{Place, Live, size_of, used_of, keys_held}
use Rattle.model.specs.Calls.{After, oriented, reading, state_of, old_new, empty_state, retabled, noted, suggested, cleared, no_state, long_enough, acceptable, resizing, resized}
use Rattle.model.specs.Calls as calls
use Rattle.model.specs.Iterators.{fingerprint_of, one_more, one_fewer}
use Rattle.model.specs.Iterators as iterators
use Rattle.model.specs.Walk.{Tables, tables_by, tables_of}
use Rattle.model.specs.Sequences.{World, world, Outcome, ReadCall, StateCall, Call, kept, left, given, perform, carried_state, carry, keys_of, value_for}
use Rattle.model.proofs.Power.{legal_pos}
use Rattle.refinement.specs.Worlds.{current, other}
use Rattle.refinement.specs.Demand3.{Lengths, lengths_of, Ideal, begun, ideal, start_number, start_answer, resize_answer, ideal_print, read_answer, with_notes, end_answer, note_answer, predict}
use Rattle.invariant.proofs.Shape.{IsBucket, Shape, shape_sound, facts}
use Rattle.invariant.proofs.StoreAfter.{HeldIn, held_as_lem}
use Rattle.invariant.proofs.Init.{started_at, started_entries, started_shape, started_at_lem}
use Rattle.invariant.proofs.Resize.{resized_at, resized_shape, resized_at_lem}
use Rattle.invariant.proofs.Noted.{live_before, live_after, noted_shape, noted_at}
use Rattle.refinement.proofs.Orientation.{first_by, second_by, world_by, sound_at, reads_sound, left_reply, left_world}
use Rattle.refinement.proofs.Demand1Calls.{init_good, resized_good, note_good}
use Rattle.refinement.proofs.Refusals.{refused_keeps, read_keeps}
use Rattle.refinement.proofs.PlainMaps.{value_key, key_value}
use Rattle.refinement.proofs.Agreement.{HeldAt, HeldOld, AgreesOn, Agrees, Steps, leaves, retabled_agrees, kept_agrees}
use Rattle.refinement.proofs.Fingerprints.{print_agrees}
use Rattle.std.specs.Prelude.{Result, Ok, Err}
use Rattle.model.specs.declared.Unstarted.{Unstarted}

-- The calls that only read change nothing.

-- one bucket at least, where there are some
look_reply : (s : State) (heads : List ℕ) → 0 < length heads → table_reply s heads ≡ reply 0 heads s
unfolding table_reply
look_reply s [] l = absurd (omega (arith, l))
look_reply s (head ∷ heads) l = refl

module _ (w : World) (i : Ideal) (a : Agrees w i) where
  abbrev sound : sound_at w ≡ true
  sound = shape_sound a.shape

  reads : (c : ReadCall) (n : ℕ) (vs : List ℕ) → (perform w (Call.read c)).reply ≡ reply n vs w.state → Steps w (Call.read c) (reply n vs i)
  unfolding reply
  reads c n vs e =
      leaves w i a (Call.read c) n vs (read_keeps w c) (ap (λ (r : Reply State). r.number) e)
      (λ f. ap (λ (r : Reply State). r.values) e)

  suggested_steps : (growing : Bool)
      → Steps w (Call.read (ReadCall.suggested_size growing)) (read_answer i (ReadCall.suggested_size growing))
  unfolding read_answer perform given kept calls.suggested_size value_reply
  suggested_steps growing =
      reads (ReadCall.suggested_size growing) 0 (suggested growing (length i.plain.pairs) ∷ [])
      (ap (value_reply w.state)
      (reads_sound w (Err Error.BadState)
      (λ current other. Ok (suggested growing (keys_held w.state))) sound)
      ∙ ap (λ (n : ℕ). reply 0 (suggested growing n ∷ []) w.state) (sym a.count))

  -- an iterator's begin and end
  begin_steps : Steps w (Call.read ReadCall.begin_iterator) (read_answer i ReadCall.begin_iterator)
  unfolding read_answer perform given kept iterators.begin_iterator value_reply
  begin_steps =
      reads ReadCall.begin_iterator 0 (ideal_print i ∷ [])
      (ap (value_reply w.state)
      (reads_sound w (Err Error.BadState) (λ current other. Ok (fingerprint_of w.state)) sound)
      ∙ ap (λ (n : ℕ). reply 0 (n ∷ []) w.state) (print_agrees w i a))

  end_steps : (fingerprint : ℕ)
      → Steps w (Call.read (ReadCall.end_iterator fingerprint)) (read_answer i (ReadCall.end_iterator fingerprint))
  unfolding read_answer perform given kept iterators.end_iterator done_reply error_number
  end_steps fingerprint =
      reads (ReadCall.end_iterator fingerprint) (cond (eqb fingerprint (ideal_print i)) 0 15) []
      (ap (done_reply w.state)
      (reads_sound w (Err Error.BadState) (λ current other. answer (eqb fingerprint (fingerprint_of w.state))) sound)
      ∙ by (eqb fingerprint (fingerprint_of w.state))
      ∙ ap (λ (n : ℕ). reply (cond (eqb fingerprint n) 0 15) [] w.state) (print_agrees w i a))
    where
      answer : Bool → Result (Unit {0}) Error
      answer same = cond same (Ok tt) (Err Error.Changed)

      by : (same : Bool) → done_reply w.state (answer same) ≡ reply (cond same 0 15) [] w.state
      by true = refl
      by false = refl

  -- what a look answers
  looked : (perform w (Call.read ReadCall.current_table)).reply ≡ reply 0 (take w.state.old_size (current w)) w.state
  unfolding perform given kept calls.current_table legal_size
  looked =
      ap (table_reply w.state) (reads_sound w [] (λ current other. take w.state.old_size current) sound)
      ∙ look_reply w.state (take w.state.old_size (current w))
      (simp length-take (omega (arith, (facts a.shape).old_fits, legal_pos largest_exponent w.state.old_size (facts a.shape).old_legal)))

  pub look_values : (perform w (Call.read ReadCall.current_table)).reply.values ≡ take w.state.old_size (current w)
  unfolding reply
  look_values = ap (λ (r : Reply State). r.values) looked

  look_steps : Steps w (Call.read ReadCall.current_table) (read_answer i ReadCall.current_table)
  unfolding read_answer perform given kept reply
  look_steps =
      leaves w i a (Call.read ReadCall.current_table) 0 [] (read_keeps w ReadCall.current_table)
      (ap (λ (r : Reply State). r.number) looked) (λ f. absurd (f refl))

  pub read_steps : (l : Lengths) (c : ReadCall) → Steps w (Call.read c) (predict l i (Call.read c))
  unfolding predict
  read_steps l (ReadCall.suggested_size growing) = suggested_steps growing
  read_steps l ReadCall.current_table = look_steps
  read_steps l ReadCall.begin_iterator = begin_steps
  read_steps l (ReadCall.end_iterator fingerprint) = end_steps fingerprint

-- A start.

module _ (w : World) (capacity size : ℕ) where
  abbrev started : Outcome
  started = perform w (Call.init capacity size)

  abbrev limits : Bool
  limits = legal_capacity capacity && legal_size size

  abbrev long : Bool
  long = long_enough capacity size (length w.first) (length w.entries)

  -- what it leaves, by the same
  abbrev ready : After (Result State Unstarted)
  ready =
      After.after (Ok (empty_state size 1 capacity)) (cleared size w.first) w.second
      (started_entries capacity w.entries)

  abbrev started_by : Bool → Bool → Outcome
  started_by a b =
      left init_reply
      (cond a
      (cond b ready (After.after (Err (record { error = Error.BadState; state = no_state })) w.first w.second w.entries))
      (After.after (Err (record { error = Error.BadSize; state = no_state })) w.first w.second w.entries))

  -- its number goes by the limits and the lengths alone, and it has no values
  init_answers : (started.reply.number ≡ start_number (lengths_of w) capacity size) × (started.reply.values ≡ [])
  unfolding perform calls.init left init_reply reply error_number start_number lengths_of
  init_answers = by limits long
    where
      by : (a b : Bool)
          → ((started_by a b).reply.number ≡ cond a (cond b 0 1) 6) × ((started_by a b).reply.values ≡ [])
      by true true = (refl, refl)
      by true false = (refl, refl)
      by false b = (refl, refl)

  pub init_number : started.reply.number ≡ start_number (lengths_of w) capacity size
  init_number = init_answers.0

  pub init_values : started.reply.values ≡ []
  init_values = init_answers.1

  -- answered 0, the tests were passed
  passed : started.reply.number ≡ 0 → (limits ≡ true) × (long ≡ true)
  unfolding perform calls.init left init_reply reply error_number
  passed z = by limits long z
    where
      by : (a b : Bool) → (started_by a b).reply.number ≡ 0 → (a ≡ true) × (b ≡ true)
      by true true e = (refl, refl)
      by true false e = absurd (omega arith)
      by false b e = absurd (omega arith)

  -- the store then
  init_world : limits ≡ true → long ≡ true
      → carry w started
      ≡ world_by false (empty_state size 1 capacity) (cleared size w.first) w.second (started_entries capacity w.entries)
  unfolding perform calls.init left init_reply reply carry carried_state world_by first_by second_by
  init_world p q = by limits long p q
    where
      by : (a b : Bool) → a ≡ true → b ≡ true
          → carry w (started_by a b)
          ≡ world (empty_state size 1 capacity) (cleared size w.first) w.second (started_entries capacity w.entries)
      by true true p q = refl
      by true false p q = let z : ◌≡◌ {A = ℕ} 0 1 = cc in absurd (omega arith)
      by false b p q = let z : ◌≡◌ {A = ℕ} 0 1 = cc in absurd (omega arith)

  -- no bucket of a new store holds a key
  none_held : (entries : List ℕ) (p : Place) → IsBucket p → (key value : ℕ) → HeldIn entries (started_at capacity p) key value → ⊥
  unfolding started_at IsBucket
  none_held entries Place.free b key value h = b
  none_held entries (Place.bucket t n) b key value h = h.there

  -- a start answered 0 leaves a store that agrees with the ideal's beginning, whatever was before
  pub init_agrees : started.reply.number ≡ 0 → Agrees (carry w started) (begun capacity size)
  unfolding begun empty_state state_of old_new keys_held keys_of value_for tables_of tables_by ideal
  init_agrees z =
      let (p, q) = passed z in
      let h = started_shape capacity size w.first w.second w.entries p q in
      let e = started_entries capacity w.entries in
      subst (λ (v : World). Agrees v (begun capacity size)) (sym (init_world p q))
      (kept_agrees false (empty_state size 1 capacity) (cleared size w.first) w.second e (begun capacity size) refl
      (record {
        shape = h;
        capacity = refl;
        count = refl;
        distinct = tt;
        in_map =
            λ key value k.
            absurd
            (none_held e k.place k.bucket key value
            (held_as_lem (started_at_lem capacity size w.first w.second w.entries p q k.place) k.held));
        in_store = λ key value f. let z : ◌≡◌ {A = ℕ} 0 1 = cc in absurd (omega arith);
        tables = refl;
        turned = refl;
        index = refl;
        allowed = refl;
        iterators = refl;
        unmoved_in = λ key f. absurd f;
        in_unmoved = λ rehashing key k. let z : ◌≡◌ {A = ℕ} 0 1 = cc in absurd (omega arith);
        unmoved_once = tt;
      }))

-- a start, from any store that agrees
pub init_steps : (w : World) (i : Ideal) → Agrees w i → (l : Lengths) → lengths_of w ≡ l → (capacity size : ℕ)
    → Steps w (Call.init capacity size) (predict l i (Call.init capacity size))
unfolding predict start_answer reply
init_steps w i a l same capacity size = by (start_number l capacity size) refl
  where
    c : Call
    c = Call.init capacity size

    number : (perform w c).reply.number ≡ start_number l capacity size
    number = init_number w capacity size ∙ ap (λ (k : Lengths). start_number k capacity size) same

    by : (n : ℕ) → start_number l capacity size ≡ n → Steps w c (start_answer i capacity size n)
    by zero e =
        record {
          number = number ∙ e;
          values = λ f. init_values w capacity size;
          agrees = init_agrees w capacity size (number ∙ e);
        }
    by (suc n) e =
        leaves w i a c (suc n) [] (refused_keeps w c (init_good w capacity size) (λ z. omega (arith, number, e))) (number ∙ e)
        (λ f. init_values w capacity size)

-- A resize.

-- what it holds then, and what it held
module _ {s : State} {current other entries : List ℕ} (h : Shape s current other entries) (size : ℕ)
    (resting : s.rehashing ≡ false) (accepted : acceptable s.old_size (length other) size ≡ true) (key value : ℕ) where
  abbrev then : Shape (resizing s size) current (cleared size other) entries
  then = resized_shape h size resting accepted

  resized_before : HeldAt (resizing s size) entries then.at key value → HeldAt s entries h.at key value
  unfolding Live IsBucket resized_at resizing retabled state_of old_new size_of
  resized_before k =
      by k.place k.live k.bucket
      (held_as_lem (resized_at_lem h size resting accepted k.place) k.held)
    where
      by : (p : Place) → Live (resizing s size) p → IsBucket p → HeldIn entries (resized_at h.at p) key value
          → HeldAt s entries h.at key value
      by Place.free l b k = absurd b
      by (Place.bucket Table.Old n) l b k = record { place = Place.bucket Table.Old n; live = l; bucket = tt; held = k }
      by (Place.bucket Table.New n) l b k = absurd k.there

  -- what was held is in the old table
  resized_old : HeldAt s entries h.at key value → HeldOld (resizing s size) entries then.at key
  unfolding Live IsBucket resized_at resizing retabled state_of old_new size_of
  resized_old k = by k.place k.live k.bucket k.held
    where
      by : (p : Place) → Live s p → IsBucket p → HeldIn entries (h.at p) key value
          → HeldOld (resizing s size) entries then.at key
      by Place.free l b k = absurd b
      by (Place.bucket Table.Old n) l b k =
          record {
            value = value;
            index = n;
            live = l;
            held = held_as_lem (sym (resized_at_lem h size resting accepted (Place.bucket Table.Old n))) k;
          }
      by (Place.bucket Table.New n) l b k = absurd (omega (arith, ((facts h).resting resting).no_size))

  resized_after : HeldAt s entries h.at key value → HeldAt (resizing s size) entries then.at key value
  unfolding Live IsBucket resized_at resizing retabled state_of old_new size_of
  resized_after k = by k.place k.live k.bucket k.held
    where
      by : (p : Place) → Live s p → IsBucket p → HeldIn entries (h.at p) key value
          → HeldAt (resizing s size) entries then.at key value
      by Place.free l b k = absurd b
      by (Place.bucket Table.Old n) l b k =
          record {
            place = Place.bucket Table.Old n;
            live = l;
            bucket = tt;
            held = held_as_lem (sym (resized_at_lem h size resting accepted (Place.bucket Table.Old n))) k;
          }
      by (Place.bucket Table.New n) l b k = absurd (omega (arith, ((facts h).resting resting).no_size))

-- the store that a resize leaves agrees
resized_on : (s : State) (current other entries : List ℕ) (i : Ideal) → AgreesOn s current other entries i → (size : ℕ)
    → s.rehashing ≡ false → acceptable s.old_size (length other) size ≡ true
    → AgreesOn (resizing s size) current (cleared size other) entries
    (ideal i.plain (Tables.two s.old_size size) s.second_is_current (keys_of i.plain.pairs) 0 i.allowed
    i.iterators)
unfolding resizing retabled state_of old_new size_of keys_held tables_of tables_by Live IsBucket
resized_on s current other entries i a size resting accepted =
    retabled_agrees a (resized_shape a.shape size resting accepted) refl
    (omega (arith, ((facts a.shape).resting resting).no_keys)) refl refl
    (resized_before a.shape size resting accepted) (resized_after a.shape size resting accepted)
    (keys_of i.plain.pairs)
    (λ key j.
    let (value, e) = key_value key i.plain.pairs j in
    resized_old a.shape size resting accepted key value (a.in_store key value e))
    (λ rehashing key k.
    value_key key k.value i.plain.pairs
    (a.in_map key k.value
    (resized_before a.shape size resting accepted key k.value
    (record { place = Place.bucket Table.Old k.index; live = k.live; bucket = tt; held = k.held }))))
    a.distinct

-- the length of the other bucket buffer
other_length : (w : World) (l : Lengths) → lengths_of w ≡ l
    → cond w.state.second_is_current l.first l.second ≡ length (other w)
unfolding lengths_of other oriented
other_length w l same =
    ap (λ (l : Lengths). cond w.state.second_is_current l.first l.second) (sym same)
    ∙ by w.state.second_is_current
  where
    by : (t : Bool) → cond t (length w.first) (length w.second)
        ≡ length (oriented t (λ first second. second) w.first w.second)
    by true = refl
    by false = refl

-- a resize, answered or refused
pub resize_steps : (w : World) (i : Ideal) → Agrees w i → (l : Lengths) → lengths_of w ≡ l → (size : ℕ)
    → Steps w (Call.resize size) (predict l i (Call.resize size))
unfolding predict resize_answer reply perform given calls.resize resized resizing retabled state_of state_reply error_number tables_of tables_by ideal
resize_steps w i a l same size =
    subst (λ (t : Tables). Steps w c (resize_answer l i size t)) a.tables (by s.rehashing refl)
  where
    s : State
    s = w.state

    c : Call
    c = Call.resize size

    sound_state_lem : sound_at w ≡ true
    sound_state_lem = shape_sound a.shape

    bad : Result State Error
    bad = Err Error.BadState

    call : List ℕ → List ℕ → After (Result State Error)
    call current other = resized s current other w.entries size s.rehashing

    accept : Bool
    accept = acceptable s.old_size (length (other w)) size

    begins : After (Result State Error)
    begins = After.after (Ok (resizing s size)) (current w) (cleared size (other w)) w.entries

    accepting : (f : Bool) → s.rehashing ≡ false → accept ≡ f
        → call (current w) (other w)
        ≡ cond f begins (After.after (Err Error.BadSize) (current w) (other w) w.entries)
    accepting f r e =
        ap (resized s (current w) (other w) w.entries size) r
        ∙ ap
        (λ (t : Bool).
        cond t begins (After.after (Err Error.BadSize) (current w) (other w) w.entries))
        e

    refused : (n : Error) (k : ℕ) → error_number n ≡ suc k
        → call (current w) (other w) ≡ After.after (Err n) (current w) (other w) w.entries
        → Steps w c (reply (suc k) [] i)
    refused n k is e =
        let replied = left_reply w (state_reply s) bad call sound_state_lem (Err n) (current w) (other w) w.entries e in
        let number = ap (λ (r : Reply State). r.number) replied ∙ is in
        leaves w i a c (suc k) [] (refused_keeps w c (resized_good w size) (λ z. omega (arith, number))) number
        (λ f. ap (λ (r : Reply State). r.values) replied)

    then : Bool → Ideal
    then t = ideal i.plain (Tables.two s.old_size size) t (keys_of i.plain.pairs) 0 i.allowed i.iterators

    answered : s.rehashing ≡ false → accept ≡ true → Steps w c (reply 0 [] (then i.turned))
    answered e f =
        let is = accepting true e f in
        let answer = Ok (resizing s size) in
        let replied = left_reply w (state_reply s) bad call sound_state_lem answer (current w) (cleared size (other w)) w.entries is in
        record {
          number = ap (λ (r : Reply State). r.number) replied;
          values = λ f. ap (λ (r : Reply State). r.values) replied;
          agrees =
              subst₂ (λ (v : World) (t : Bool). Agrees v (then t))
              (sym
              (left_world w (state_reply s) bad call sound_state_lem answer (current w) (cleared size (other w)) w.entries is
              (resizing s size) refl refl))
              a.turned
              (kept_agrees s.second_is_current (resizing s size) (current w) (cleared size (other w)) w.entries
              (then s.second_is_current) refl (resized_on s (current w) (other w) w.entries i a size e f));
        }

    -- the ideal's test is the state's
    tested : acceptable s.old_size (cond i.turned l.first l.second) size ≡ accept
    tested =
        ap (λ (n : ℕ). acceptable s.old_size n size)
        (ap (λ (t : Bool). cond t l.first l.second) (sym a.turned) ∙ other_length w l same)

    by_test : s.rehashing ≡ false → (f : Bool) → accept ≡ f
        → Steps w c (cond f (reply 0 [] (then i.turned)) (reply 6 [] i))
    by_test e true g = answered e g
    by_test e false g = refused Error.BadSize 5 refl (accepting false e g)

    by : (t : Bool) → s.rehashing ≡ t → Steps w c (resize_answer l i size (tables_by t s.old_size s.new_size))
    by true e = refused Error.Rehashing 6 refl (ap (resized s (current w) (other w) w.entries size) e)
    by false e = by_test e _ (sym tested)

-- The permission, and a safe iterator's begin and end.

module _ (w : World) (i : Ideal) (a : Agrees w i) where
  abbrev s : State
  s = w.state

  -- what they leave agrees
  module _ (allowed : Bool) (iterators : ℕ) (fits : iterators ≤ most_safe_iterators) where
    abbrev set : State
    set = noted s allowed iterators

    abbrev shape_then : Shape set (current w) (other w) w.entries
    shape_then = noted_shape s allowed iterators a.shape fits

    at_then : (p : Place) → shape_then.at p ≡ a.shape.at p
    at_then = noted_at s allowed iterators a.shape fits

    held_before : (key value : ℕ) → HeldAt set w.entries shape_then.at key value
        → HeldAt s w.entries a.shape.at key value
    held_before key value h =
        record {
          place = h.place;
          live = live_before s allowed iterators h.place h.live;
          bucket = h.bucket;
          held = held_as_lem (at_then h.place) h.held;
        }

    held_after : (key value : ℕ) → HeldAt s w.entries a.shape.at key value
        → HeldAt set w.entries shape_then.at key value
    held_after key value h =
        record {
          place = h.place;
          live = live_after s allowed iterators h.place h.live;
          bucket = h.bucket;
          held = held_as_lem (sym (at_then h.place)) h.held;
        }

    noted_on : AgreesOn set (current w) (other w) w.entries (with_notes i allowed iterators)
    unfolding noted state_of with_notes ideal keys_held tables_of tables_by size_of used_of
    noted_on =
        record {
          shape = shape_then;
          capacity = a.capacity;
          count = a.count;
          distinct = a.distinct;
          in_map = λ key value h. a.in_map key value (held_before key value h);
          in_store = λ key value e. held_after key value (a.in_store key value e);
          tables = a.tables;
          turned = a.turned;
          index = a.index;
          allowed = refl;
          iterators = refl;
          unmoved_in =
              λ key j.
              let h = a.unmoved_in key j in
              record {
                value = h.value;
                index = h.index;
                live = h.live;
                held = held_as_lem (sym (at_then (Place.bucket Table.Old h.index))) h.held;
              };
          in_unmoved =
              λ rehashing key h.
              a.in_unmoved rehashing key
              (record {
                value = h.value;
                index = h.index;
                live = h.live;
                held = held_as_lem (at_then (Place.bucket Table.Old h.index)) h.held;
              });
          unmoved_once = a.unmoved_once;
        }

    made : (c : StateCall) → perform w (Call.note c) ≡ kept w (reply 0 [] set) []
        → Steps w (Call.note c) (reply 0 [] (with_notes i allowed iterators))
    unfolding reply kept carry carried_state world current other oriented noted state_of
    made c e =
        record {
          number = ap (λ (o : Outcome). o.reply.number) e;
          values = λ f. ap (λ (o : Outcome). o.reply.values) e;
          agrees = subst (λ (o : Outcome). Agrees (carry w o) (with_notes i allowed iterators)) (sym e) noted_on;
        }

  abbrev call : Result State Error → Outcome
  call r = kept w (state_reply s r) []

  -- such a call, by what it comes to on a sound state
  sounds : (r : Result State Error) → reading s w.first w.second w.entries (Err Error.BadState) (λ c o. r) ≡ r
  sounds r = reads_sound w (Err Error.BadState) (λ c o. r) (shape_sound a.shape)

  not_made : (c : StateCall) (error : Error) (n : ℕ) → error_number error ≡ suc n
      → perform w (Call.note c) ≡ call (Err error) → Steps w (Call.note c) (reply (suc n) [] i)
  unfolding kept state_reply reply
  not_made c error n is e =
      let number = ap (λ (o : Outcome). o.reply.number) e ∙ is in
      leaves w i a (Call.note c) (suc n) [] (refused_keeps w (Call.note c) (note_good w c) (λ z. omega (arith, number))) number
      (λ f. ap (λ (o : Outcome). o.reply.values) e)

  allow_steps : (allowed : Bool) → Steps w (Call.note (StateCall.allow_resize allowed)) (note_answer i (StateCall.allow_resize allowed))
  unfolding note_answer perform given calls.allow_resize state_reply
  allow_steps allowed =
      subst (λ (n : ℕ). Steps w (Call.note (StateCall.allow_resize allowed)) (reply 0 [] (with_notes i allowed n))) a.iterators
      (made allowed s.safe_iterators (facts a.shape).iterators_fit (StateCall.allow_resize allowed)
      (ap call (sounds (Ok (noted s allowed s.safe_iterators)))))

  begin_safe_steps : Steps w (Call.note StateCall.begin_safe) (note_answer i StateCall.begin_safe)
  unfolding note_answer perform given iterators.begin_safe one_more state_reply error_number
  begin_safe_steps =
      subst₂
      (λ (b : Bool) (n : ℕ).
      Steps w c (cond (ltb n most_safe_iterators) (reply 0 [] (with_notes i b (suc n))) (reply 17 [] i)))
      a.allowed a.iterators (by (ltb s.safe_iterators most_safe_iterators) refl)
    where
      c : Call
      c = Call.note StateCall.begin_safe

      answer : Bool → ℕ → Result State Error
      answer t n = cond t (Ok (noted s s.resize_allowed n)) (Err Error.TooManyIterators)

      is : (t : Bool) → ltb s.safe_iterators most_safe_iterators ≡ t → perform w c ≡ call (answer t (suc s.safe_iterators))
      is t e =
          let more : s.safe_iterators + 1 ≡ suc s.safe_iterators = omega arith in
          ap call (sounds (one_more s) ∙ ap₂ answer e more)

      by : (t : Bool) → ltb s.safe_iterators most_safe_iterators ≡ t
          → Steps w c (cond t (reply 0 [] (with_notes i s.resize_allowed (suc s.safe_iterators))) (reply 17 [] i))
      by true e =
          made s.resize_allowed (suc s.safe_iterators) (ltb-true s.safe_iterators most_safe_iterators e)
          StateCall.begin_safe (is true e)
      by false e = not_made StateCall.begin_safe Error.TooManyIterators 16 refl (is false e)

  end_safe_steps : Steps w (Call.note StateCall.end_safe) (note_answer i StateCall.end_safe)
  unfolding note_answer end_answer perform given iterators.end_safe one_fewer state_reply error_number
  end_safe_steps = by i.iterators a.iterators
    where
      c : Call
      c = Call.note StateCall.end_safe

      is : (n : ℕ) → s.safe_iterators ≡ n → perform w c ≡ call (one_fewer s n)
      is n e = ap call (sounds (one_fewer s s.safe_iterators) ∙ ap (one_fewer s) e)

      by : (n : ℕ) → s.safe_iterators ≡ n → Steps w c (end_answer i n)
      by zero e = not_made StateCall.end_safe Error.NoSafeIterator 15 refl (is zero e)
      by (suc n) e =
          subst (λ (b : Bool). Steps w c (reply 0 [] (with_notes i b n))) a.allowed
          (made s.resize_allowed n (omega (arith, (facts a.shape).iterators_fit)) StateCall.end_safe (is (suc n) e))

  pub note_steps : (l : Lengths) (c : StateCall) → Steps w (Call.note c) (predict l i (Call.note c))
  unfolding predict
  note_steps l (StateCall.allow_resize allowed) = allow_steps allowed
  note_steps l StateCall.begin_safe = begin_safe_steps
  note_steps l StateCall.end_safe = end_safe_steps
