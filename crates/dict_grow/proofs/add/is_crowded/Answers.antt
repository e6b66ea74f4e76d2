-- `dict_grow::add::is_crowded` meets its contract: the code's test is the definition's, and a legal size leaves room for it.
use borrow.Author.Rules.{rules}
use Rattle.model.specs.Limits.{force_ratio}
use Rattle.model.specs.Memory.{keys_held}
use Rattle.model.specs.Calls.{crowded}
use Rattle.dict_grow.proofs.Growing.{forced_fits}
use Rattle.dict_grow.proofs.add.is_crowded.Goals as goal

pub overflow_mul-result : goal.overflow_mul-result
unfolding force_ratio
overflow_mul-result c = search forced_fits

pub returns : goal.returns
unfolding crowded keys_held force_ratio
returns c = search rules
