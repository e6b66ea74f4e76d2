-- `dict_rehash::rehash::look_ahead` meets its contract: the search among the buckets that are looked at decides.
use Prim.Native.Nat.{◌+◌}
use native.Mathlib.Omega.{arith}
use borrow.Author.Rules.{rules}
use Rattle.model.specs.Limits.{empty_visits}
use Rattle.dict_rehash.proofs.LookingAhead.{first_filled, all_passed, end_reached}
use Rattle.dict_rehash.proofs.rehash.look_ahead.Goals as goal

pub returns-in-Some : goal.returns-in-Some
unfolding empty_visits
returns-in-Some c =
    first_filled _ _ _ _ (c.args.from + c.min.result) (omega arith) (omega arith) _ (search rules) (search rules) (search rules)

pub returns-in-None : goal.returns-in-None
unfolding empty_visits
returns-in-None c = search (arith, all_passed)

pub returns-in-None-2 : goal.returns-in-None-2
unfolding empty_visits
returns-in-None-2 c = search (arith, end_reached)
