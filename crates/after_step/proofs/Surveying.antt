-- One pass over a chain, one entry a turn, and what its numbers say.
-- Assumes nothing.
use Prim.Native.Nat.{ℕ, suc, ◌+◌, ◌-◌, ◌≤◌}
use mathlib.Core.Path.{◌≡◌, refl, sym, ap, ◌∙◌}
use mathlib.Core.Bool.{Bool, true, false, ◌||◌, or_assoc, or-false}
use mathlib.Core.List.{List, [], ◌∷◌}
use mathlib.Core.Option.{Option, none, some, map}
use native.Mathlib.Omega.{arith}
use lib.ListN.{length}
use lib.Dec.{ltb, eqb}
use mir.Syntax.{w32}
use mir.Val.{Fits, bool_byte}
use Rattle.model.specs.Keys.{bucket_of}
use Rattle.model.specs.Memory.{link_of, key_of, chain, in_bucket, last_or}
use Rattle.model.proofs.Chains.{chain_end, chain_bad, chain_stray, chain_good, budget_left}
use Rattle.after_step.specs.declared.presence.Survey.{Survey}
use Rattle.model.specs.declared.Error.{Error}
use Rattle.std.specs.Prelude.{Result, Ok, Err}
use Rattle.after_step.specs.Told.{of_bucket, how_many, has, among, surveyed}

-- ---- the loop

-- what a survey says, with that many entries met before the chain, the last of them, how many of the bucket asked for, whether
-- one has the key, and whether one is the entry asked for
pub onward : List ℕ → (size c key n count last joining : ℕ) → Bool → Bool → Option (List ℕ) → Result Survey Error
onward entries size c key n count last joining held meets none = Err Error.Damaged
onward entries size c key n count last joining held meets (some ns) =
    Ok
    (record {
      count = count + length ns;
      last = last_or last ns;
      joining = joining + how_many (of_bucket size c entries) ns;
      held = held || has entries key ns;
      meets = meets || among n ns;
    })

module _ (entries : List ℕ) (size c key n : ℕ) where
  onward_start : (count : ℕ) (o : Option (List ℕ)) → count ≡ 0
      → onward entries size c key n count 0 0 false false o ≡ surveyed entries size c key n o
  unfolding onward surveyed
  onward_start count none e = refl
  onward_start count (some ns) e =
      let a : count + length ns ≡ length ns = omega arith in
      let b : 0 + how_many (of_bucket size c entries) ns ≡ how_many (of_bucket size c entries) ns = omega arith in
      cc

  onward_one : (count count' last joining m : ℕ) (held meets : Bool) (o : Option (List ℕ)) → count' ≡ suc count
      → onward entries size c key n count' m (joining + bool_byte (of_bucket size c entries m)) (held || eqb (key_of entries m) key)
      (meets || eqb m n) o
      ≡ onward entries size c key n count last joining held meets (map (λ ns. m ∷ ns) o)
  unfolding onward how_many has among last_or
  onward_one count count' last joining m held meets none e = refl
  onward_one count count' last joining m held meets (some ns) e =
      let a : count' + length ns ≡ count + suc (length ns) = omega arith in
      let b : joining + bool_byte (of_bucket size c entries m) + how_many (of_bucket size c entries) ns
      ≡ joining + (bool_byte (of_bucket size c entries m) + how_many (of_bucket size c entries) ns) = omega arith in
      let d = or_assoc held (eqb (key_of entries m) key) (has entries key ns) in
      let f = or_assoc meets (eqb m n) (among n ns) in
      cc

at_most_one : (t : Bool) → bool_byte t ≤ 1
at_most_one true = omega arith
at_most_one false = omega arith

-- the entries met and the chain from here are the chain from the head
pub record Surveying (test : ℕ → Bool) (entries : List ℕ) (capacity budget head size c key n at left last joining : ℕ)
    (held meets : Bool) : Type 0 where
  pub within : left ≤ budget
  pub few : joining + left ≤ budget
  pub same : onward entries size c key n (budget - left) last joining held meets (chain test entries capacity left at)
      ≡ surveyed entries size c key n (chain test entries capacity budget head)

module _ (test : ℕ → Bool) (entries : List ℕ) (capacity budget head size c key n : ℕ) where
  pub surveying_start : Surveying test entries capacity budget head size c key n head budget 0 0 false false
  surveying_start =
      record { within = omega arith; few = omega arith; same = onward_start entries size c key n _ _ (omega arith) }

  module _ (at left last joining : ℕ) (held meets : Bool)
      (h : Surveying test entries capacity budget head size c key n at left last joining held meets) where
    pub surveying_out : (at ≡ 0 → ⊥) → (eqb left 0 || ltb capacity at) ≡ true
        → Err Error.Damaged ≡ surveyed entries size c key n (chain test entries capacity budget head)
    unfolding onward
    surveying_out f t = rw (chain_bad test entries capacity left at f t) at h.same

    pub surveying_stray : (k : ℕ) → (at ≡ 0 → ⊥) → (eqb left 0 || ltb capacity at) ≡ false → k ≡ key_of entries at
        → test k ≡ false → Err Error.Damaged ≡ surveyed entries size c key n (chain test entries capacity budget head)
    unfolding onward
    surveying_stray k f t ke p = rw (chain_stray test entries capacity left at f t (rw ke at p)) at h.same

    pub surveying_fits : (eqb left 0 || ltb capacity at) ≡ false → Fits w32 budget → (more : ℕ) (t : Bool) → more ≡ bool_byte t
        → Fits w32 (joining + more)
    surveying_fits t f more u e = omega (arith, budget_left capacity left at t, h.few, at_most_one u)

    pub surveying_next : (k i next more : ℕ) → (at ≡ 0 → ⊥) → (eqb left 0 || ltb capacity at) ≡ false → k ≡ key_of entries at
        → test k ≡ true → i ≡ bucket_of k size → next ≡ link_of entries at → more ≡ bool_byte (eqb i c)
        → Surveying test entries capacity budget head size c key n next (left - 1) at (joining + more) (held || eqb k key)
        (meets || eqb at n)
    unfolding in_bucket
    surveying_next k i next more f t ke p ie ne me =
        let l = budget_left capacity left at t in
        let w = h.within in
        let w' = h.few in
        record {
          within = omega arith;
          few = omega (arith, me, at_most_one (eqb i c));
          same =
              rw (me, ie, ke, ne)
              (onward_one entries size c key n (budget - left) (budget - (left - 1)) last joining at held meets
              (chain test entries capacity (left - 1) (link_of entries at)) (omega arith)
              ∙ ap (onward entries size c key n (budget - left) last joining held meets) (sym (chain_good test entries capacity left at f t (rw ke at p)))
              ∙ h.same);
        }

    pub surveying_end : at ≡ 0
        → Ok (record { count = budget - left; last = last; joining = joining; held = held; meets = meets })
        ≡ surveyed entries size c key n (chain test entries capacity budget head)
    unfolding onward last_or how_many has among
    surveying_end e =
        let a : budget - left ≡ budget - left + 0 = omega arith in
        let b : joining ≡ joining + 0 = omega arith in
        let d = or-false held in
        let f = or-false meets in
        let end = rw (chain_end test entries capacity left at e) at h.same in
        cc

-- ---- what a survey says of the chain

pub how_many_fits : (test : ℕ → Bool) (ns : List ℕ) → how_many test ns ≤ length ns
unfolding how_many
how_many_fits test [] = omega arith
how_many_fits test (n ∷ ns) = omega (arith, at_most_one (test n), how_many_fits test ns)

module _ (entries : List ℕ) (size c key n : ℕ) where
  -- an error: it is not sound, and that is damage
  pub surveyed_none : (x : Error) (o : Option (List ℕ)) → Err x ≡ surveyed entries size c key n o → (o ≡ none) × (x ≡ Error.Damaged)
  unfolding surveyed
  surveyed_none x none e = (refl, cc)
  surveyed_none x (some ns) e = let z : ◌≡◌ {A = ℕ} 0 1 = cc in absurd (omega arith)

  pub surveyed_some : (v : Survey) (o : Option (List ℕ)) → Ok v ≡ surveyed entries size c key n o
      → (ns : List ℕ) × (o ≡ some ns) × (v.count ≡ length ns) × (v.last ≡ last_or 0 ns) × (v.joining ≡ how_many (of_bucket size c entries) ns)
      × (v.held ≡ has entries key ns) × (v.meets ≡ among n ns)
  unfolding surveyed
  surveyed_some v none e = let z : ◌≡◌ {A = ℕ} 0 1 = cc in absurd (omega arith)
  surveyed_some v (some ns) e =
      let same : v ≡ record {
        count = length ns;
        last = last_or 0 ns;
        joining = how_many (of_bucket size c entries) ns;
        held = has entries key ns;
        meets = among n ns;
      } = cc in
      (ns, refl, ap (λ (u : Survey). u.count) same, ap (λ (u : Survey). u.last) same, ap (λ (u : Survey). u.joining) same, ap (λ (u : Survey). u.held) same, ap (λ (u : Survey). u.meets) same)
