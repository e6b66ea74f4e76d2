-- `dict_add::add::add_in` meets its contract: the key is looked for in the only table, and the entry goes into it.
use Rattle.after_step.proofs.Deciding.{exit_is}
use Rattle.dict_add.proofs.Adding.{in_damaged, in_refused, in_taken}
use Rattle.dict_add.proofs.add.add_in.Goals as goal

pub returns-in_err-held : goal.returns-in_err-held
returns-in_err-held c = rw (exit_is _ _ c.from_residual.ensures.1) (search (in_damaged, c.in_err-held.ensures))

pub returns-in_err-free : goal.returns-in_err-free
returns-in_err-free c =
    rw (exit_is _ _ c.from_residual-in_err-free.ensures.1)
    (search (in_refused, c.in_ok-held.ensures, c.in_err-free.ensures.answer, c.in_err-free.ensures.refused))

pub returns : goal.returns
returns c = search (in_taken, c.in_ok-held.ensures, c.in_ok-free.ensures.answer, c.in_ok-free.ensures.pushed)
