-- `dict_suggest_look::suggest::suggest_for` meets its contract: the capacity bounds the keys, so the sum and its double fit.
use native.Mathlib.Omega.{arith}
use Rattle.model.specs.Limits.{largest_capacity}
use Rattle.model.specs.Memory.{keys_held}
use Rattle.model.specs.Calls.{suggested}
use Rattle.dict_suggest_look.proofs.suggest.suggest_for.Goals as goal

pub overflow_mul-keys : goal.overflow_mul-keys
unfolding largest_capacity
overflow_mul-keys c = omega arith

pub returns-then-growing : goal.returns-then-growing
unfolding suggested keys_held
returns-then-growing c = cc

pub returns-else-growing : goal.returns-else-growing
unfolding suggested keys_held
returns-else-growing c = cc
