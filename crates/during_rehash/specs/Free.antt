-- What an add asks before it takes the first free entry.
use Rattle.std.specs.Prelude.{ℕ, Bool, cond, List, eqb, Result, Ok, Err}
use Rattle.model.specs.declared.State.{State}
use Rattle.model.specs.declared.Error.{Error}
use Rattle.model.specs.Memory.{link_of, keys_held}
use Rattle.model.specs.Calls.{takeable}

-- the free list's next head, or why the entry may not be taken, in the order of the answers: by whether the key is held, and by
-- the entries when the entry is taken
unfoldable pub next_free : State → Bool → List ℕ → Result ℕ Error
next_free s held entries =
    cond held (Err Error.Present)
    (cond (eqb (keys_held s) s.capacity) (Err Error.Full)
    (cond (takeable s entries) (Ok (link_of entries s.free_head)) (Err Error.Damaged)))
