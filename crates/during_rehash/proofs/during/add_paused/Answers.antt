-- `during_rehash::during::add_paused` meets its contract: the key is looked for in both tables, and the entry goes into the new one.
use Rattle.after_step.proofs.Deciding.{exit_is}
use Rattle.during_rehash.proofs.Paused.{paused_damaged, paused_refused, paused_taken}
use Rattle.during_rehash.proofs.during.add_paused.Goals as goal

pub returns-in_err-held : goal.returns-in_err-held
returns-in_err-held c = rw (exit_is _ _ c.from_residual.ensures.1) (search (paused_damaged, c.in_err-held.ensures))

pub returns-in_err-free : goal.returns-in_err-free
returns-in_err-free c =
    rw (exit_is _ _ c.from_residual-in_err-free.ensures.1)
    (search (paused_refused, c.in_ok-held.ensures, c.in_err-free.ensures.answer, c.in_err-free.ensures.refused))

pub returns : goal.returns
returns c = search (paused_taken, c.in_ok-held.ensures, c.in_ok-free.ensures.answer, c.in_ok-free.ensures.pushed)
