-- `dict_grow::add::grow` meets its contract: the resize comes where the wanted size is above the present one.
use Rattle.dict_grow.proofs.Growing.{larger, not_larger}
use Rattle.dict_grow.proofs.add.grow.Goals as goal

pub returns-then-s-size : goal.returns-then-s-size
returns-then-s-size c = search larger

pub returns-else-s-size : goal.returns-else-s-size
returns-else-s-size c = search not_larger
