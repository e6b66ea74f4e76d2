-- `scan` meets its contract: a state that is not sound is refused, and with no keys held nothing is read.
use Rattle.model.specs.Walk as walk
use Rattle.scan_group.proofs.HandingOut.{list_kept}
use Rattle.dict_scan.proofs.Lent.{held_fits, scan_nothing, group_fits, one_scanned, two_scanned}
use Rattle.dict_scan.proofs.scan.scan.Goals as goal

pub returns-in_err-require_sound : goal.returns-in_err-require_sound
unfolding walk.scan
returns-in_err-require_sound c =
    list_kept _ _ _ _ _ _ _ _ c.from_residual.ensures.1 c.in_err-require_sound.ensures

pub overflow_add-s : goal.overflow_add-s
overflow_add-s c = search (held_fits, c.in_ok-require_sound.ensures)

pub returns-then-s-eq0 : goal.returns-then-s-eq0
returns-then-s-eq0 c = search (scan_nothing, c.in_ok-require_sound.ensures)

pub returns-in-None : goal.returns-in-None
returns-in-None c = search (one_scanned, c.in_ok-require_sound.ensures)

pub scan_two-requires : goal.scan_two-requires
scan_two-requires c = search (group_fits, c.in_ok-require_sound.ensures)

pub returns-in-Some : goal.returns-in-Some
returns-in-Some c = search (two_scanned, c.in_ok-require_sound.ensures)
