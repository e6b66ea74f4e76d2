-- `dict_grow::allow::allow_resize` meets its contract: a sound state is answered with one field changed.
use Rattle.std.proofs.Common.{refl}
use Rattle.model.specs.Memory.{size_of, used_of}
use Rattle.model.specs.Calls.{state_of, noted, allow_resize}
use Rattle.memory.proofs.Orientation.{reading_bad_state, reading_oriented}
use Rattle.dict_grow.proofs.allow.allow_resize.Goals as goal

pub returns-in_err-require_sound : goal.returns-in_err-require_sound
unfolding allow_resize
returns-in_err-require_sound c = reading_bad_state _ _ _ _ _ _ c.from_residual.ensures.1 c.in_err-require_sound.ensures _

pub returns : goal.returns
unfolding allow_resize noted state_of size_of used_of
returns c =
    reading_oriented _ c.args.first.now c.args.second.now _ _ refl refl c.args.entries.now c.in_ok-require_sound.ensures _ _ _ refl
