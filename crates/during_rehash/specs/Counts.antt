-- The state that an add leaves.
use Rattle.std.specs.Prelude.{ℕ, ◌+◌}
use Rattle.model.specs.declared.State.{State}
use Rattle.model.specs.declared.Table.{Table}
use Rattle.model.specs.Memory.{used_of}
use Rattle.model.specs.Calls.{recounted, with_count}

-- one key more in a table, and another free head
unfoldable pub one_more : State → Table → ℕ → State
one_more s t free = recounted s free (with_count s t (used_of s t + 1))
