-- `iterate` meets its contract: a state that is not sound is refused, and else the first filled bucket is handed out.
use native.Mathlib.Omega.{arith}
use Rattle.model.specs.Iterators.{iterate}
use Rattle.scan_group.proofs.HandingOut.{list_kept}
use Rattle.iterator.proofs.Handing.{from_old, end_of_one, places_fit, from_new, end_of_both}
use Rattle.iterator.proofs.iterate.iterate.Goals as goal

pub returns-in_err-require_sound : goal.returns-in_err-require_sound
unfolding iterate
returns-in_err-require_sound c =
    list_kept _ _ _ _ _ _ _ _ c.from_residual.ensures.1 c.in_err-require_sound.ensures

pub returns-in-Some : goal.returns-in-Some
returns-in-Some c = search (from_old, c.in_ok-require_sound.ensures, c.in-Some.ensures)

pub returns-in_default-new : goal.returns-in_default-new
returns-in_default-new c = search (end_of_one, c.in_ok-require_sound.ensures, c.in_default.ensures)

pub overflow_add-old : goal.overflow_add-old
overflow_add-old c = omega (arith, places_fit c.orient-lent.result.old c.in-Some-new.new, c.in-Some-first_filled.ensures.1)

pub overflow_add-old-in-Some-first_filled : goal.overflow_add-old-in-Some-first_filled
overflow_add-old-in-Some-first_filled c =
    omega (arith, places_fit c.orient-lent.result.old c.in-Some-new.new, c.in-Some-first_filled.ensures.1)

pub overflow_add-result : goal.overflow_add-result
overflow_add-result c = places_fit c.orient-lent.result.old c.in-Some-new.new

pub returns-in-Some-first_filled : goal.returns-in-Some-first_filled
returns-in-Some-first_filled c =
    search (from_new, c.in_ok-require_sound.ensures, c.in_default.ensures, c.in-Some-first_filled.ensures)

pub returns-in-None : goal.returns-in-None
returns-in-None c = search (end_of_both, c.in_ok-require_sound.ensures, c.in_default.ensures, c.in-None.ensures)
