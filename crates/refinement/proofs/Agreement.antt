-- What the induction over a sequence keeps, on a state and its buffers: the store has a shape, its live buckets hold the
-- ideal's pairs, its live tables, current buffer, next bucket, permission and safe iterators are the ideal's, and during a
-- rehash the keys in the old table are those that the ideal says.
-- Assumes nothing.
use Prim.Native.Nat.{ℕ, ◌<◌}
use mathlib.Core.Path.{◌≡◌, refl, sym, ap, subst, ◌∙◌}
use mathlib.Core.Bool.{Bool, true, false, not, cond}
use mathlib.Core.List.{List, map}
use mathlib.Core.Option.{some}
use native.Mathlib.Omega.{arith}
use lib.ListN.{length}
use Rattle.cursor.specs.Member.{In, Distinct, keep}
use Rattle.model.specs.declared.State.{State}
use Rattle.model.specs.declared.Table.{Table}
use Rattle.model.specs.Answers.{Reply, reply}
use Rattle.model.specs.Memory.{Place, Live, size_of, keys_held, key_of, value_of, entries_at}
use Rattle.model.specs.Calls.{After}
use Rattle.model.specs.Walk.{Tables, tables_by, tables_of}
use Rattle.model.specs.Sequences.{World, world, ReadCall, Call, Outcome, perform, carry, PlainMap, keys_of, value_for}
use Rattle.model.proofs.Tests.{told, tested, tested_not}
use Rattle.refinement.specs.Worlds.{current, other, UndamagedAt, Held, Holds}
use Rattle.refinement.specs.Demand3.{Lengths, lengths_of, Ideal, ideal, among, table_of, Matches}
use Rattle.model.proofs.Lists.{in_map, of_map, in_keep, of_keep, distinct_keep}
use Rattle.model.proofs.Sums.{gathered, in_gathered, of_gathered}
use Rattle.invariant.proofs.Shape.{IsBucket, Shape}
use Rattle.invariant.proofs.Places.{LiveTable, table_live}
use Rattle.invariant.proofs.States.{live_kept}
use Rattle.invariant.proofs.FromUndamaged.{undamaged_shape}
use Rattle.invariant.proofs.ToUndamaged.{entries_at_lem, shape_undamaged}
use Rattle.invariant.proofs.StoreAfter.{HeldIn, StoreAfter}
use Rattle.refinement.proofs.Orientation.{world_by, as_kept, as_turned}
use Rattle.refinement.proofs.PlainMaps.{value_key, key_value, tells_among}

-- a live bucket that holds the key with the value
pub record HeldAt (s : State) (entries : List ℕ) (at : Place → List ℕ) (key value : ℕ) : Type 0 where
  pub place : Place
  pub live : Live s place
  pub bucket : IsBucket place
  pub held : HeldIn entries (at place) key value

-- a live bucket of the old table that holds the key
pub record HeldOld (s : State) (entries : List ℕ) (at : Place → List ℕ) (key : ℕ) : Type 0 where
  pub value : ℕ
  pub index : ℕ
  pub live : index < s.old_size
  pub held : HeldIn entries (at (Place.bucket Table.Old index)) key value

pub record AgreesOn (s : State) (current other entries : List ℕ) (i : Ideal) : Type 0 where
  pub shape : Shape s current other entries
  pub capacity : i.plain.capacity ≡ s.capacity
  pub count : length i.plain.pairs ≡ keys_held s
  pub distinct : Distinct (keys_of i.plain.pairs)
  pub in_map : (key value : ℕ) → HeldAt s entries shape.at key value → value_for key i.plain.pairs ≡ some value
  pub in_store : (key value : ℕ) → value_for key i.plain.pairs ≡ some value → HeldAt s entries shape.at key value
  pub tables : tables_of s ≡ i.tables
  pub turned : s.second_is_current ≡ i.turned
  pub index : s.rehash_index ≡ i.index
  pub allowed : s.resize_allowed ≡ i.allowed
  pub iterators : s.safe_iterators ≡ i.iterators
  pub unmoved_in : (key : ℕ) → In key i.unmoved → HeldOld s entries shape.at key
  pub in_unmoved : s.rehashing ≡ true → (key : ℕ) → HeldOld s entries shape.at key → In key i.unmoved
  pub unmoved_once : Distinct i.unmoved

-- a world agrees on its buffers
abbrev pub Agrees : World → Ideal → Type 0
Agrees w i = AgreesOn w.state (current w) (other w) w.entries i

-- The step of the induction: the call answers so, and the store agrees with the ideal after it. A look's values are said of
-- the memory.
pub record Steps (w : World) (c : Call) (r : Reply Ideal) : Type 0 where
  pub number : (perform w c).reply.number ≡ r.number
  pub values : (c ≡ Call.read ReadCall.current_table → ⊥) → (perform w c).reply.values ≡ r.values
  pub agrees : Agrees (carry w (perform w c)) r.state

-- a call on a key, by what it comes to
pub record Comes (w : World) (o : Outcome) (r : Reply Ideal) : Type 0 where
  pub number : o.reply.number ≡ r.number
  pub values : o.reply.values ≡ r.values
  pub agrees : Agrees (carry w o) r.state

-- for a call that leaves the world
pub leaves : (w : World) (i : Ideal) → Agrees w i → (c : Call) (n : ℕ) (vs : List ℕ) → carry w (perform w c) ≡ w
    → (perform w c).reply.number ≡ n → ((c ≡ Call.read ReadCall.current_table → ⊥) → (perform w c).reply.values ≡ vs)
    → Steps w c (reply n vs i)
unfolding reply
leaves w i a c n vs stays number values =
    record { number = number; values = values; agrees = subst (λ (v : World). Agrees v i) (sym stays) a }

-- What is held, on the chains as they are read and on those of the shape.
module _ (w : World) (shape : Shape w.state (current w) (other w) w.entries) (key value : ℕ) where
  held_at : Held w key value → HeldAt w.state w.entries shape.at key value
  unfolding Live IsBucket
  held_at h =
      let p = Place.bucket h.table h.index in
      record {
        place = p;
        live = h.live;
        bucket = tt;
        held =
            record {
              entry = h.entry;
              there = subst (λ (ns : List ℕ). In h.entry ns) (entries_at_lem shape p h.live) h.there;
              its_key = h.its_key;
              its_value = h.its_value;
            };
      }

  at_held : HeldAt w.state w.entries shape.at key value → Held w key value
  unfolding Live IsBucket
  at_held h = by h.place h.live h.bucket h.held
    where
      by : (p : Place) → Live w.state p → IsBucket p → HeldIn w.entries (shape.at p) key value → Held w key value
      by Place.free l b k = absurd b
      by (Place.bucket t n) l b k =
          record {
            entry = k.entry;
            table = t;
            index = n;
            live = l;
            there = subst (λ (ns : List ℕ). In k.entry ns) (sym (entries_at_lem shape (Place.bucket t n) l)) k.there;
            its_key = k.its_key;
            its_value = k.its_value;
          }

-- A key is in the table that the ideal says.
module _ {s : State} {current other entries : List ℕ} {i : Ideal} (a : AgreesOn s current other entries i) (key value : ℕ) where
  not_unmoved : (b : ℕ) → b < s.new_size → HeldIn entries (a.shape.at (Place.bucket Table.New b)) key value
      → In key i.unmoved → ⊥
  unfolding Live IsBucket size_of
  not_unmoved b l h f =
      let k = a.unmoved_in key f in
      let p = Place.bucket Table.New b in
      let q = Place.bucket Table.Old k.index in
      let same : h.entry ≡ k.held.entry =
      a.shape.keys_distinct h.entry k.held.entry p q l k.live tt tt h.there k.held.there
      (h.its_key ∙ sym k.held.its_key) in
      let here : a.shape.owner h.entry ≡ p = a.shape.owns h.entry p l h.there in
      let there : a.shape.owner k.held.entry ≡ q = a.shape.owns k.held.entry q k.live k.held.there in
      let z : ◌≡◌ {A = ℕ} 0 1 = cc in
      omega arith

  in_table : (t : Table) (n : ℕ) → n < size_of s t → HeldIn entries (a.shape.at (Place.bucket t n)) key value
      → t ≡ table_of i.tables i.unmoved key
  unfolding size_of tables_of tables_by table_of LiveTable
  in_table t n l h =
      by s.rehashing refl t l h ∙ ap (λ (ts : _). table_of ts i.unmoved key) a.tables
    where
      by : (f : Bool) → s.rehashing ≡ f → (t : Table) → n < size_of s t
          → HeldIn entries (a.shape.at (Place.bucket t n)) key value
          → t ≡ table_of (tables_by f s.old_size s.new_size) i.unmoved key
      by false e Table.Old l h = refl
      by false e Table.New l h =
          let f = table_live a.shape Table.New n l refl in let z : ◌≡◌ {A = ℕ} 0 1 = cc in absurd (omega arith)
      by true e Table.Old l h =
          sym
          (ap (λ (b : Bool). cond b Table.Old Table.New)
          (tested (tells_among key i.unmoved)
          (a.in_unmoved e key (record { value = value; index = n; live = l; held = h }))))
      by true e Table.New l h =
          sym
          (ap (λ (b : Bool). cond b Table.Old Table.New)
          (tested_not (tells_among key i.unmoved) (not_unmoved n l h)))

module _ (w : World) (i : Ideal) (a : Agrees w i) where
  -- a store that agrees is undamaged, and holds the ideal's pairs
  pub agrees_undamaged : UndamagedAt w
  unfolding UndamagedAt
  agrees_undamaged = shape_undamaged a.shape

  agrees_holds : Holds w i.plain
  agrees_holds =
      record {
        capacity = a.capacity;
        count = a.count;
        distinct = a.distinct;
        in_map = λ key value h. a.in_map key value (held_at w a.shape key value h);
        in_store = λ key value e. at_held w a.shape key value (a.in_store key value e);
      }

  -- and has what the ideal has
  pub agrees_matches : (l : Lengths) → lengths_of w ≡ l → Matches l w i
  unfolding held_at Live IsBucket size_of
  agrees_matches l same =
      record {
        contents = agrees_holds;
        tables = a.tables;
        turned = a.turned;
        index = a.index;
        allowed = a.allowed;
        iterators = a.iterators;
        each_table =
            λ key value h.
            in_table a key value h.table h.index h.live (held_at w a.shape key value h).held;
        unmoved =
            record {
              held =
                  λ key j.
                  let h = a.unmoved_in key j in
                  value_key key h.value i.plain.pairs
                  (a.in_map key h.value
                  (record { place = Place.bucket Table.Old h.index; live = h.live; bucket = tt; held = h.held }));
              once = a.unmoved_once;
            };
        lengths = same;
      }

-- the keys in the old table
old_keys : (w : World) → Shape w.state (current w) (other w) w.entries → List ℕ
old_keys w shape =
    map (key_of w.entries) (gathered (λ b. shape.at (Place.bucket Table.Old b)) w.state.old_size)

-- a store that holds a map's pairs agrees with some ideal of that map
pub holds_agrees : (w : World) (shape : Shape w.state (current w) (other w) w.entries) (m : PlainMap) → Holds w m
    → (i : Ideal) × (i.plain ≡ m) × Agrees w i
unfolding old_keys ideal IsBucket Live size_of
holds_agrees w shape m h = (
  ideal m (tables_of w.state) w.state.second_is_current (keep in_old (keys_of m.pairs)) w.state.rehash_index
      w.state.resize_allowed w.state.safe_iterators,
  refl,
  record {
    shape = shape;
    capacity = h.capacity;
    count = h.count;
    distinct = h.distinct;
    in_map = in_its_map;
    in_store = λ key value e. held_at w shape key value (h.in_store key value e);
    tables = refl;
    turned = refl;
    index = refl;
    allowed = refl;
    iterators = refl;
    unmoved_in =
        λ key j.
        let (n, k, e) =
        of_map (key_of w.entries) key (gathered chain w.state.old_size)
        (told (tells_among key (old_keys w shape)) (of_keep in_old key (keys_of m.pairs) j).1) in
        let (b, l, there) = of_gathered chain w.state.old_size n k in
        record {
          value = value_of w.entries n;
          index = b;
          live = l;
          held = record { entry = n; there = there; its_key = sym e; its_value = refl };
        };
    in_unmoved =
        λ rehashing key k.
        in_keep in_old key (keys_of m.pairs)
        (value_key key k.value m.pairs
        (in_its_map key k.value
        (record { place = Place.bucket Table.Old k.index; live = k.live; bucket = tt; held = k.held })))
        (tested (tells_among key (old_keys w shape))
        (subst (λ (j : ℕ). In j (map (key_of w.entries) (gathered chain w.state.old_size))) k.held.its_key
        (in_map (key_of w.entries) k.held.entry (gathered chain w.state.old_size)
        (in_gathered chain w.state.old_size k.index k.held.entry k.live k.held.there))));
    unmoved_once = distinct_keep in_old (keys_of m.pairs) h.distinct;
  },
)
  where
    chain : ℕ → List ℕ
    chain b = shape.at (Place.bucket Table.Old b)

    in_old : ℕ → Bool
    in_old k = among k (old_keys w shape)

    in_its_map : (key value : ℕ) → HeldAt w.state w.entries shape.at key value → value_for key m.pairs ≡ some value
    in_its_map key value k = h.in_map key value (at_held w shape key value k)

-- What an ideal has to say of a store after a call, whose live buckets hold what is said of each place.
pub record Says (s : State) (keys index : ℕ) (places : Place → ℕ → ℕ → Type 0) (i : Ideal) : Type 0 where
  pub capacity : i.plain.capacity ≡ s.capacity
  pub count : length i.plain.pairs ≡ keys
  pub distinct : Distinct (keys_of i.plain.pairs)
  pub tables : tables_of s ≡ i.tables
  pub turned : s.second_is_current ≡ i.turned
  pub next : index ≡ i.index
  pub allowed : s.resize_allowed ≡ i.allowed
  pub iterators : s.safe_iterators ≡ i.iterators
  pub in_map : (t : Place) → Live s t → IsBucket t → (k v : ℕ) → places t k v → value_for k i.plain.pairs ≡ some v
  pub in_store : (k v : ℕ) → value_for k i.plain.pairs ≡ some v → (t : Place) × Live s t × IsBucket t × places t k v
  pub in_unmoved : s.rehashing ≡ true → (b k v : ℕ) → b < s.old_size → places (Place.bucket Table.Old b) k v
      → In k i.unmoved
  pub unmoved_in : (k : ℕ) → In k i.unmoved → (b v : ℕ) × (b < s.old_size) × places (Place.bucket Table.Old b) k v
  pub unmoved_once : Distinct i.unmoved

-- The store after a call that changes it agrees.
module _ {A : Type 0} {s : State} {answer : State → A} {outcome : After A} {keys index : ℕ} {places : Place → ℕ → ℕ → Type 0}
    (l : StoreAfter s answer outcome keys index places) where
  live_then : (p : Place) → Live s p → Live l.state p
  live_then p = live_kept s l.state l.same.sizes p

  live_before : (p : Place) → Live l.state p → Live s p
  live_before p = live_kept l.state s (λ t. sym (l.same.sizes t)) p

  same_tables : tables_of l.state ≡ tables_of s
  unfolding tables_of size_of
  same_tables =
      ap (λ (t : Bool). tables_by t l.state.old_size l.state.new_size) l.same.rehashing
      ∙ ap (λ (n : ℕ). tables_by s.rehashing n l.state.new_size) (l.same.sizes Table.Old)
      ∙ ap (λ (n : ℕ). tables_by s.rehashing s.old_size n) (l.same.sizes Table.New)

  pub after_agrees : (i : Ideal) → Says s keys index places i → AgreesOn l.state l.current l.other l.entries i
  unfolding Live IsBucket size_of
  after_agrees i says =
      record {
        shape = l.shape;
        capacity = says.capacity ∙ sym l.same.capacity;
        count = says.count ∙ sym l.keys_held_lem;
        distinct = says.distinct;
        in_map =
            λ k v h.
            let live = live_before h.place h.live in
            says.in_map h.place live h.bucket k v (l.held_only h.place live h.bucket k v h.held);
        in_store =
            λ k v e.
            let (t, live, b, p) = says.in_store k v e in
            record { place = t; live = live_then t live; bucket = b; held = l.held_all t live b k v p };
        tables = same_tables ∙ says.tables;
        turned = l.same.current ∙ says.turned;
        index = l.index_is ∙ says.next;
        allowed = l.same.allowed ∙ says.allowed;
        iterators = l.same.iterators ∙ says.iterators;
        unmoved_in =
            λ k j.
            let (b, v, live, p) = says.unmoved_in k j in
            let place = Place.bucket Table.Old b in
            record { value = v; index = b; live = live_then place live; held = l.held_all place live tt k v p };
        in_unmoved =
            λ rehashing k h.
            let place = Place.bucket Table.Old h.index in
            let live = live_before place h.live in
            says.in_unmoved (sym l.same.rehashing ∙ rehashing) h.index k h.value live
            (l.held_only place live tt k h.value h.held);
        unmoved_once = says.unmoved_once;
      }

-- So does one with other tables, where every entry is held as before.
pub retabled_agrees : {s s' : State} {current other current' other' entries : List ℕ} {i : Ideal}
    (a : AgreesOn s current other entries i) (h : Shape s' current' other' entries) → s'.capacity ≡ s.capacity
    → keys_held s' ≡ keys_held s → s'.resize_allowed ≡ s.resize_allowed → s'.safe_iterators ≡ s.safe_iterators
    → ((key value : ℕ) → HeldAt s' entries h.at key value → HeldAt s entries a.shape.at key value)
    → ((key value : ℕ) → HeldAt s entries a.shape.at key value → HeldAt s' entries h.at key value)
    → (unmoved : List ℕ) → ((key : ℕ) → In key unmoved → HeldOld s' entries h.at key)
    → (s'.rehashing ≡ true → (key : ℕ) → HeldOld s' entries h.at key → In key unmoved) → Distinct unmoved
    → AgreesOn s' current' other' entries
    (ideal i.plain (tables_of s') s'.second_is_current unmoved s'.rehash_index i.allowed i.iterators)
unfolding ideal
retabled_agrees a h capacity count allowed iterators before after unmoved unmoved_in in_unmoved once =
    record {
      shape = h;
      capacity = a.capacity ∙ sym capacity;
      count = a.count ∙ sym count;
      distinct = a.distinct;
      in_map = λ key value k. a.in_map key value (before key value k);
      in_store = λ key value e. after key value (a.in_store key value e);
      tables = refl;
      turned = refl;
      index = refl;
      allowed = allowed ∙ a.allowed;
      iterators = iterators ∙ a.iterators;
      unmoved_in = unmoved_in;
      in_unmoved = in_unmoved;
      unmoved_once = once;
    }

-- An undamaged store that has what an ideal has agrees with it.
pub matches_agrees : (l : Lengths) (w : World) (i : Ideal) → UndamagedAt w → Matches l w i → Agrees w i
unfolding UndamagedAt IsBucket Live size_of tables_of tables_by table_of at_held
matches_agrees l w i u m =
    record {
      shape = shape;
      capacity = m.contents.capacity;
      count = m.contents.count;
      distinct = m.contents.distinct;
      in_map = λ key value h. m.contents.in_map key value (at_held w shape key value h);
      in_store = λ key value e. held_at w shape key value (m.contents.in_store key value e);
      tables = m.tables;
      turned = m.turned;
      index = m.index;
      allowed = m.allowed;
      iterators = m.iterators;
      unmoved_in = in_the_old;
      in_unmoved = unmoved_then;
      unmoved_once = m.unmoved.once;
    }
  where
    shape : Shape w.state (current w) (other w) w.entries
    shape = undamaged_shape u

    old_told : (ts : Tables) (key : ℕ) → In key i.unmoved → table_of ts i.unmoved key ≡ Table.Old
    old_told (Tables.one size) key h = refl
    old_told (Tables.two old new) key h =
        ap (λ (t : Bool). cond t Table.Old Table.New) (tested (tells_among key i.unmoved) h)

    in_the_old : (key : ℕ) → In key i.unmoved → HeldOld w.state w.entries shape.at key
    in_the_old key h =
        let (value, e) = key_value key i.plain.pairs (m.unmoved.held key h) in
        let k = m.contents.in_store key value e in
        let old : k.table ≡ Table.Old = m.each_table key value k ∙ old_told i.tables key h in
        let live : k.index < w.state.old_size = subst (λ (t : Table). k.index < size_of w.state t) old k.live in
        record {
          value = value;
          index = k.index;
          live = live;
          held =
              record {
                entry = k.entry;
                there =
                    subst (λ (ns : List ℕ). In k.entry ns) (entries_at_lem shape (Place.bucket Table.Old k.index) live)
                    (subst (λ (t : Table). In k.entry (entries_at w.state (current w) (other w) w.entries (Place.bucket t k.index))) old k.there);
                its_key = k.its_key;
                its_value = k.its_value;
              };
        }

    chosen : (t : Bool) → Table.Old ≡ cond t Table.Old Table.New → t ≡ true
    chosen true e = refl
    chosen false e = let z : ◌≡◌ {A = ℕ} 0 1 = cc in absurd (omega arith)

    unmoved_then : w.state.rehashing ≡ true → (key : ℕ) → HeldOld w.state w.entries shape.at key → In key i.unmoved
    unmoved_then moving key h =
        let two : Tables.two w.state.old_size w.state.new_size ≡ i.tables =
        sym (ap (λ (t : Bool). tables_by t w.state.old_size w.state.new_size) moving) ∙ m.tables in
        let k : Held w key h.value =
        at_held w shape key h.value (record { place = Place.bucket Table.Old h.index; live = h.live; bucket = tt; held = h.held }) in
        told (tells_among key i.unmoved)
        (chosen (among key i.unmoved)
        (m.each_table key h.value k ∙ ap (λ (ts : Tables). table_of ts i.unmoved key) (sym two)))

-- From the buffers to the world after a call.
module _ (flag : Bool) (t : State) (c o e : List ℕ) (i : Ideal) where
  -- where the flag is as it was
  pub kept_agrees : t.second_is_current ≡ flag → AgreesOn t c o e i → Agrees (world_by flag t c o e) i
  unfolding world_by world
  kept_agrees h a = as_kept flag t c o e (λ x y. AgreesOn t x y e i) h a

  -- and where it has changed
  pub turned_agrees : t.second_is_current ≡ not flag → AgreesOn t o c e i → Agrees (world_by flag t c o e) i
  unfolding world_by world
  turned_agrees h a = as_turned flag t c o e (λ x y. AgreesOn t x y e i) h a
