-- `dict_suggest_look::current_table::current_table` meets its contract: in a sound state the table lies in its buffer.
use Rattle.std.proofs.Common.{sym, ◌∙◌, refl}
use Rattle.model.specs.Calls.{current_table}
use Rattle.memory.proofs.Orientation.{sound_oriented, reading_oriented, reading_refused}
use Rattle.dict_suggest_look.proofs.Sound.{table_within}
use Rattle.dict_suggest_look.proofs.current_table.current_table.Goals as goal

pub returns-then-not-is_sound_lent : goal.returns-then-not-is_sound_lent
unfolding current_table
returns-then-not-is_sound_lent c =
    reading_refused _ _ _ _ _ c.is_sound_lent.ensures _ _ c.if-not-is_sound_lent.true

pub slice_bounds-result-end-2 : goal.slice_bounds-result-end-2
slice_bounds-result-end-2 c =
    table_within _ _ _ _
    (sound_oriented _ _ _ _ _ c.oriented.ensures.current c.oriented.ensures.other _
    (sym c.is_sound_lent.ensures ∙ c.if-not-is_sound_lent.false))

pub returns : goal.returns
unfolding current_table
returns c =
    reading_oriented _ _ _ _ _ c.oriented.ensures.current c.oriented.ensures.other _
    (sym c.is_sound_lent.ensures ∙ c.if-not-is_sound_lent.false) _ _ _ refl
