-- `search::found::entry_in_both` meets its contract: both chains must be sound, and the old table's entry comes first.
use Rattle.search.proofs.Entries.{old_damaged, new_damaged, both_read}
use Rattle.search.proofs.found.entry_in_both.Goals as goal

pub returns-in_err-in_old : goal.returns-in_err-in_old
returns-in_err-in_old c = old_damaged _ _ _ _ _ _ _ _ _ _ _ c.in_err-in_old.ensures c.from_residual.ensures.1

pub returns-in_err-in_new : goal.returns-in_err-in_new
returns-in_err-in_new c =
    new_damaged _ _ _ _ _ _ _ _ _ _ c.in_ok-in_old.ensures _ _ c.in_err-in_new.ensures c.from_residual-in_err-in_new.ensures.1

pub returns : goal.returns
returns c = both_read _ _ _ _ _ _ _ _ _ _ c.in_ok-in_old.ensures _ _ c.in_ok-in_new.ensures c.or.ensures
