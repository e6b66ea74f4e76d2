-- Wrong stores by a call that reads.
use Rattle.std.specs.Prelude.{cond, [], ◌∷◌, take, eqb}
use Rattle.model.specs.Memory.{keys_held}
use Rattle.model.specs.Sequences.{World, Call, Outcome}
use Rattle.refinement.specs.Worlds.{other}
use Rattle.wrong_stores.specs.OneCall.{but_suggested_size, but_look, if_done, answering}

-- suggests 7
unfoldable pub suggests_seven : World → Call → Outcome
suggests_seven = but_suggested_size (λ growing w o. if_done (answering (7 ∷ []) o) o)

-- suggests 1 for no keys
unfoldable pub suggests_one : World → Call → Outcome
suggests_one =
    but_suggested_size (λ growing w o. if_done (cond (eqb (keys_held w.state) 0) (answering (1 ∷ []) o) o) o)

-- looks at the other buffer
unfoldable pub looks_away : World → Call → Outcome
looks_away = but_look (λ w o. if_done (answering (take w.state.old_size (other w)) o) o)
