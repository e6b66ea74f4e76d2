-- `dict_grow::add::add` meets its contract: a refused add changes nothing, and growth goes by what an answered one leaves.
use Rattle.std.proofs.lemmas.Result.{err_from_is_err_and}
use Rattle.dict_grow.proofs.Growing.{growable, add_refused, add_grown}
use Rattle.dict_grow.proofs.add.add.Goals as goal

pub returns-in_err-added : goal.returns-in_err-added
returns-in_err-added c = let p = err_from_is_err_and c.from_residual.result c.from_residual.ensures.1 in rw (p.1, p.2) (search (add_refused, c.in_err-added.ensures))

pub grow-requires : goal.grow-requires
grow-requires c = search (growable, c.in_ok-added.ensures)

pub returns : goal.returns
returns c = search (add_grown, c.in_ok-added.ensures)
