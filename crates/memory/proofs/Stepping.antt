-- One step along a chain.
-- Assumes nothing.
use Rattle.std.proofs.Common.{◌≡◌, ℕ, ◌-◌, true, false, ◌||◌, eqb, ltb, refl, arith}
use mathlib.Core.Option.{none}
use Rattle.model.specs.declared.Error.{Error}
use Rattle.model.specs.Keys.{bucket_of}
use Rattle.model.specs.Memory.{link_of, key_of, in_bucket}
use Rattle.model.proofs.Chains.{chain_end, chain_bad, chain_stray, chain_good, budget_left, in_range, bucket_same, bucket_other}
use Rattle.memory.specs.declared.chain.Chain.{Chain}
use Rattle.memory.specs.Chains.{rest, AtEnd, Passed}

module _ (c : Chain) where
  pub at_end : c.at ≡ 0 → AtEnd c
  at_end e = record { nothing = chain_end (in_bucket c.size c.bucket) c.entries.now c.capacity c.budget c.at e }

  module _ (f : c.at ≡ 0 → ⊥) where
    pub goes_out : (eqb c.budget 0 || ltb c.capacity c.at) ≡ true → (Error.Damaged ≡ Error.Damaged) × (rest c ≡ none)
    goes_out t = (refl, chain_bad (in_bucket c.size c.bucket) c.entries.now c.capacity c.budget c.at f t)

    module _ (t : (eqb c.budget 0 || ltb c.capacity c.at) ≡ false) (k i : ℕ) (e : k ≡ key_of c.entries.now c.at)
        (h : i ≡ bucket_of k c.size) where
      pub strays : (i ≡ c.bucket → ⊥) → (Error.Damaged ≡ Error.Damaged) × (rest c ≡ none)
      strays g =
          (refl, chain_stray (in_bucket c.size c.bucket) c.entries.now c.capacity c.budget c.at f t (rw e at (bucket_other c.size c.bucket k i h g)))

      pub goes_on : (d : Chain) → i ≡ c.bucket → d.entries ≡ c.entries → d.capacity ≡ c.capacity → d.size ≡ c.size
          → d.bucket ≡ c.bucket → d.at ≡ link_of c.entries.now c.at → d.budget ≡ c.budget - 1 → Passed c c.at d
      goes_on d g en ca si bu ne le =
          let some = budget_left c.capacity c.budget c.at t in
          let within = in_range c.capacity c.budget c.at t in
          let fits = c.entries_fit in
          record {
            entry_some = omega arith;
            entry_fits = omega arith;
            ahead =
                rw (en, ca, si, bu, ne, le)
                (chain_good (in_bucket c.size c.bucket) c.entries.now c.capacity c.budget c.at f t
                (rw e at (bucket_same c.size c.bucket k i h g)));
            fewer = omega arith;
            entries_same = en;
          }
