-- `dict_add::add::add_after_step` meets its contract: a state that is not sound is refused.
use Rattle.after_step.proofs.Deciding.{exit_is}
use Rattle.dict_add.proofs.Adding.{add_unsound}
use Rattle.dict_add.proofs.add.add_after_step.Goals as goal

pub returns-in_err-require_sound : goal.returns-in_err-require_sound
returns-in_err-require_sound c =
    let h = c.in_err-require_sound.ensures in rw (exit_is _ _ c.from_residual.ensures.1, h.0) (add_unsound _ _ _ _ _ _ h.1)
