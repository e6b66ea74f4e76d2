-- What is left to read of a chain, and what one step along it comes to.
use Rattle.std.specs.Prelude.{ℕ, suc, ◌*◌, ◌<◌, ◌≤◌, ◌≡◌, List, [], ◌∷◌, length}
use Rattle.std.proofs.Math.Option.{Option, some, map}
use Rattle.model.specs.Memory.{chain, in_bucket}
use Rattle.memory.specs.declared.chain.Chain.{Chain}

abbrev pub rest : Chain → Option (List ℕ)
rest c = chain (in_bucket c.size c.bucket) c.entries.now c.capacity c.budget c.at

pub record AtEnd (c : Chain) : Type 0 where
  pub nothing : rest c ≡ some []

-- entry n is the next one, and the chain from behind it is left
pub record Passed (c : Chain) (n : ℕ) (d : Chain) : Type 0 where
  pub entry_some : 0 < n
  pub entry_fits : n * 3 ≤ length c.entries.now
  pub ahead : rest c ≡ map (λ ns. n ∷ ns) (rest d)
  pub fewer : suc d.budget ≡ c.budget
  pub entries_same : d.entries ≡ c.entries
