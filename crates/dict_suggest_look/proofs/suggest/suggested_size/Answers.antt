-- `dict_suggest_look::suggest::suggested_size` meets its contract: a state that is not sound is refused, and the size follows from the keys.
use Rattle.std.proofs.Common.{refl, ap, Ok}
use Rattle.model.specs.Calls.{suggested_size}
use Rattle.memory.proofs.Orientation.{reading_bad_state, sound_oriented, reading_oriented}
use Rattle.dict_suggest_look.proofs.Sound.{counted}
use Rattle.dict_suggest_look.proofs.suggest.suggested_size.Goals as goal

pub returns-in_err-require_sound : goal.returns-in_err-require_sound
unfolding suggested_size
returns-in_err-require_sound c = reading_bad_state _ _ _ _ _ _ c.from_residual.ensures.1 c.in_err-require_sound.ensures _

pub suggest_for-requires : goal.suggest_for-requires
suggest_for-requires c =
    counted _ _ _ _ (sound_oriented _ c.args.first.now c.args.second.now _ _ refl refl c.args.entries.now c.in_ok-require_sound.ensures)

pub returns : goal.returns
unfolding suggested_size
returns c =
    reading_oriented _ c.args.first.now c.args.second.now _ _ refl refl c.args.entries.now c.in_ok-require_sound.ensures _ _ _
    (ap Ok c.suggest_for.ensures)
