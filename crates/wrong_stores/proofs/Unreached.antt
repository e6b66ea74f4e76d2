-- The store of specs/Unreached is excluded by demand 3, `onward`.
-- Assumes nothing.
use Prim.Native.Nat.{ℕ}
use mathlib.Core.Path.{◌≡◌, refl, sym, ap, subst, ◌∙◌}
use mathlib.Core.Bool.{true, false}
use mathlib.Core.Logic.{◌⊎◌, inl, inr}
use mathlib.Core.List.{[], ◌∷◌}
use mathlib.Core.Option.{some}
use lib.ListN.{length}
use lib.Dec.{lit<}
use native.Mathlib.Omega.{arith}
use Rattle.cursor.specs.Member.{In}
use Rattle.model.specs.declared.Table.{Table}
use Rattle.model.specs.Memory.{Place, Live, size_of, used_of, chain_at, sum}
use Rattle.model.specs.Calls.{state_of, old_new}
use Rattle.model.specs.Sequences.{World, world, run}
use Rattle.refinement.specs.Worlds.{UndamagedAt}
use Rattle.refinement.specs.Demand3.{lengths_of, Demand3}
use Rattle.refinement.proofs.Contents.{undamaged_ideal}
use Rattle.wrong_stores.specs.Unreached.{emptied, emptied_if, loses}
use Rattle.wrong_stores.proofs.Start.{computing, forbid, find, entries_in}

unfoldable losing : Unit {0}
unfolding computing emptied emptied_if loses
losing = tt

-- Key 7 is held, in the only bucket, which is in the second buffer; the first one has no numbers.
unfoldable pub full : World
full = world (state_of true (old_new 1 0) (old_new 1 0) false 0 0 1 true 0) [] (1 ∷ []) (0 ∷ 7 ∷ 70 ∷ [])

-- The key is found, the permission is answered 0, and then the key is not found: the state is refused.
pub key_lost : ((loses full (find 7)).reply.values ≡ 70 ∷ [])
    × ((loses full forbid).reply.number ≡ 0)
    × ((loses (run loses full (forbid ∷ [])) (find 7)).reply.number ≡ 1)
unfolding losing full
key_lost = (refl, refl, refl)

-- That store is undamaged. Its chains are the free list, with none on it, and the bucket, with entry 1.

abbrev bucket : Place
bucket = Place.bucket Table.Old 0

live_places : (p : Place) → Live full.state p → (p ≡ Place.free) ⊎ (p ≡ bucket)
unfolding computing full
live_places Place.free l = inl refl
live_places (Place.bucket Table.Old b) l = let first : b ≡ 0 = omega arith in inr (ap (Place.bucket Table.Old) first)
live_places (Place.bucket Table.New b) l = absurd (omega arith)

none_free : (n : ℕ) → In n (entries_in full Place.free) → ⊥
unfolding computing full
none_free n i = i

one_there : (n : ℕ) → In n (entries_in full bucket) → n ≡ 1
unfolding computing full
one_there n (inl e) = e
one_there n (inr i) = absurd i

its_place : (n : ℕ) (p : Place) → Live full.state p → In n (entries_in full p) → p ≡ bucket
its_place n p l i = by (live_places p l)
  where
    by : (p ≡ Place.free) ⊎ (p ≡ bucket) → p ≡ bucket
    by (inl e) = absurd (none_free n (subst (λ (q : Place). In n (entries_in full q)) e i))
    by (inr e) = e

its_number : (n : ℕ) (p : Place) → Live full.state p → In n (entries_in full p) → n ≡ 1
its_number n p l i = one_there n (subst (λ (q : Place). In n (entries_in full q)) (its_place n p l i) i)

pub full_undamaged : UndamagedAt full
unfolding computing full
full_undamaged =
    record {
      state_sound = refl;
      chains_sound = λ p l. sound p (live_places p l);
      on_a_chain = λ n low high. let one : n ≡ 1 = omega arith in (bucket, lit< tt, inl one);
      on_one_chain = λ n p q l k i j. its_place n p l i ∙ sym (its_place n q k j);
      keys_distinct =
          λ n m t u a b l k i j e. its_number n (Place.bucket t a) l i ∙ sym (its_number m (Place.bucket u b) k j);
      passed_empty = λ b l. absurd (omega arith);
      counts = counts;
    }
  where
    sound : (p : Place) → (p ≡ Place.free) ⊎ (p ≡ bucket)
        → chain_at full.state (1 ∷ []) [] (0 ∷ 7 ∷ 70 ∷ []) p ≡ some (entries_in full p)
    sound p (inl e) = rw e refl
    sound p (inr e) = rw e refl

    counts : (t : Table) → used_of full.state t ≡ sum (λ b. length (entries_in full (Place.bucket t b))) (size_of full.state t)
    counts Table.Old = refl
    counts Table.New = refl

-- `onward`, `matches`: the state of zeros has no capacity
pub loses_excluded : Demand3 loses → ⊥
unfolding losing full
loses_excluded d =
    let (i, m) = undamaged_ideal full full_undamaged in
    let before : i.plain.capacity ≡ 1 = m.contents.capacity in
    let after : i.plain.capacity ≡ 0 =
    (d.onward (lengths_of full) full i full_undamaged m (forbid ∷ [])).matches.contents.capacity in
    omega arith
