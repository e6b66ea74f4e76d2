-- `dict_grow::add::grow_to` meets its contract: the add is answered, whatever the resize answers.
use Rattle.dict_grow.proofs.Growing.{resized_or}
use Rattle.dict_grow.proofs.add.grow_to.Goals as goal

pub returns : goal.returns
returns c = search resized_or
