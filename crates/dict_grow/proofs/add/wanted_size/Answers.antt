-- `dict_grow::add::wanted_size` meets its contract: the code's test is the definition's, of one table that is crowded.
use Rattle.dict_grow.proofs.Growing.{wanted}
use Rattle.dict_grow.proofs.add.wanted_size.Goals as goal

pub returns-then-crowded : goal.returns-then-crowded
returns-then-crowded c = search wanted

pub returns-else-crowded : goal.returns-else-crowded
returns-else-crowded c = search wanted
