-- Two worlds that differ in nothing but the order of their chains are the same to `undamaged` and `matches`.
-- Assumes nothing.
use Prim.Native.Nat.{ℕ}
use mathlib.Core.Path.{◌≡◌, sym, ◌∙◌, ap}
use mathlib.Core.List.{List}
use mathlib.Core.Option.{some}
use lib.ListN.{length, get_or}
use Rattle.cursor.specs.Member.{In}
use Rattle.model.specs.Memory.{key_of, value_of, size_of, Place, Live, chain_at}
use Rattle.model.specs.Sequences.{World, world}
use Rattle.model.proofs.Sums.{sum_same}
use Rattle.refinement.specs.Worlds.{current, other, UndamagedAt, Held}
use Rattle.refinement.specs.Demand3.{Lengths, lengths_of, Ideal, Matches}
use Rattle.wrong_stores.proofs.Start.{entries_in, held}

-- the same entries at a place, whose chain is sound
pub record SameAt (w v : World) (p : Place) : Type 0 where
  pub there : (n : ℕ) → In n (entries_in w p) → In n (entries_in v p)
  pub back : (n : ℕ) → In n (entries_in v p) → In n (entries_in w p)
  pub sound : chain_at v.state (current v) (other v) v.entries p ≡ some (entries_in v p)
  pub as_many : length (entries_in w p) ≡ length (entries_in v p)

-- so at each place; with the same keys and values, and buffers as long
pub record Reordered (w v : World) : Type 0 where
  pub places : (p : Place) → Live w.state p → SameAt w v p
  pub empty : (b : ℕ) → get_or (current w) b 0 ≡ 0 → get_or (current v) b 0 ≡ 0
  pub key : (n : ℕ) → key_of v.entries n ≡ key_of w.entries n
  pub value : (n : ℕ) → value_of v.entries n ≡ value_of w.entries n
  pub current_length : length (current v) ≡ length (current w)
  pub other_length : length (other v) ≡ length (other w)
  pub lengths : lengths_of v ≡ lengths_of w

module _ (w : World) (first second entries : List ℕ) (r : Reordered w (world w.state first second entries)) where
  pub reordered_undamaged : UndamagedAt w → UndamagedAt (world w.state first second entries)
  unfolding world UndamagedAt Live lengths_of
  reordered_undamaged u =
      record {
        state_sound =
            rw (r.current_length, r.other_length, ap (λ (l : Lengths). l.entries) r.lengths) u.state_sound;
        chains_sound = λ p live. (r.places p live).sound;
        on_a_chain =
            λ n low high.
            let h = u.on_a_chain n low high in
            (h.0, h.1, (r.places h.0 h.1).there n h.2);
        on_one_chain = λ n p q live live' h h'. u.on_one_chain n p q live live' ((r.places p live).back n h) ((r.places q live').back n h');
        keys_distinct =
            λ n m t t' a b live live' h h' same.
            u.keys_distinct n m t t' a b live live' ((r.places (Place.bucket t a) live).back n h)
            ((r.places (Place.bucket t' b) live').back m h') (sym (r.key n) ∙ same ∙ r.key m);
        passed_empty = λ b before. r.empty b (u.passed_empty b before);
        counts =
            λ t. u.counts t ∙ sum_same _ _ (size_of w.state t) (λ b live. (r.places (Place.bucket t b) live).as_many);
      }

  abbrev held_back : {key value : ℕ} → Held (world w.state first second entries) key value → Held w key value
  unfolding world Live
  held_back h =
      held h.entry h.table h.index h.live
      ((r.places (Place.bucket h.table h.index) h.live).back h.entry h.there) (sym (r.key h.entry) ∙ h.its_key)
      (sym (r.value h.entry) ∙ h.its_value)

  held_there : {key value : ℕ} → Held w key value → Held (world w.state first second entries) key value
  unfolding world Live
  held_there h =
      held h.entry h.table h.index h.live
      ((r.places (Place.bucket h.table h.index) h.live).there h.entry h.there) (r.key h.entry ∙ h.its_key)
      (r.value h.entry ∙ h.its_value)

  pub reordered_matches : {l : Lengths} {i : Ideal} → Matches l w i → Matches l (world w.state first second entries) i
  unfolding world held_back
  reordered_matches m =
      record {
        contents =
            record {
              capacity = m.contents.capacity;
              count = m.contents.count;
              distinct = m.contents.distinct;
              in_map = λ key value h. m.contents.in_map key value (held_back h);
              in_store = λ key value h. held_there (m.contents.in_store key value h);
            };
        tables = m.tables;
        turned = m.turned;
        index = m.index;
        allowed = m.allowed;
        iterators = m.iterators;
        each_table = λ key value h. m.each_table key value (held_back h);
        unmoved = m.unmoved;
        lengths = r.lengths ∙ m.lengths;
      }
