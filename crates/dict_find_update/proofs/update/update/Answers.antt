-- `dict_find_update::update::update` meets its contract: each way out is a case of the definition.
use Rattle.model.specs.Calls.{update}
use Rattle.memory.proofs.Orientation.{writing_bad_state, sound_oriented}
use Rattle.dict_find_update.proofs.Updating.{update_damaged, update_absent, update_held}
use Rattle.dict_find_update.proofs.update.update.Goals as goal

pub returns-in_err-require_sound : goal.returns-in_err-require_sound
unfolding update
returns-in_err-require_sound c = writing_bad_state _ _ _ _ _ _ c.from_residual.ensures.1 c.in_err-require_sound.ensures _

pub find_entry-requires : goal.find_entry-requires
find_entry-requires c =
    sound_oriented _ _ _ _ _ c.oriented.ensures.current c.oriented.ensures.other _ c.in_ok-require_sound.ensures

pub returns-in_err-found : goal.returns-in_err-found
returns-in_err-found c =
    update_damaged _ _ _ _ _ _ _ _ c.oriented.ensures.current c.oriented.ensures.other c.in_ok-require_sound.ensures _ _
    c.in_err-found.ensures.outcome c.from_residual-in_err-found.ensures.1

pub returns-in_err-entry : goal.returns-in_err-entry
returns-in_err-entry c =
    update_absent _ _ _ _ _ _ _ _ c.oriented.ensures.current c.oriented.ensures.other c.in_ok-require_sound.ensures _
    c.in_ok-found.ensures.outcome _ _ c.in_err-entry.ensures.value c.from_residual-in_err-entry.ensures.1

pub returns : goal.returns
returns c =
    update_held _ _ _ _ _ _ _ _ c.oriented.ensures.current c.oriented.ensures.other c.in_ok-require_sound.ensures _
    c.in_ok-found.ensures.outcome _ _ c.in_ok-entry.ensures.value c.set_value.ensures
