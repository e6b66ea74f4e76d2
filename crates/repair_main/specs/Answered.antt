-- What both calls answer on the same store, in the numbers of their replies, and the buffers behind them.
use Rattle.std.specs.Prelude.{ℕ, List, get_or, Result}
use Rattle.model.specs.declared.State.{State}
use Rattle.model.specs.Answers.{verify_reply, state_reply}
use Rattle.model.specs.Calls.{After}
use Rattle.model.specs.Verify.{verify}
use Rattle.model.specs.Repair.{repair}
use Rattle.repair_main.specs.declared.calls.Answers.{Answers}
use Rattle.model.specs.declared.Error.{Error}
use mathlib.Core.Bool.{Bool}

unfoldable pub in_numbers : State → Result Bool Error → Result State Error → Answers
in_numbers s v r =
    record {
      verify = (verify_reply s v).number;
      undamaged = get_or (verify_reply s v).values 0 0;
      repair = (state_reply s r).number;
      state = (state_reply s r).state;
    }

unfoldable pub behind : State → Result Bool Error → After (Result State Error) → After Answers
behind s v (After.after r first second entries) = After.after (in_numbers s v r) first second entries

unfoldable pub answered : State → List ℕ → List ℕ → List ℕ → After Answers
answered s first second entries = behind s (verify s first second entries) (repair s first second entries)
