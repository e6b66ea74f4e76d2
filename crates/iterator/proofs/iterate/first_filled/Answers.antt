-- The goals of `first_filled` that the search leaves.
use borrow.Author.Rules.{rules}
use Rattle.iterator.proofs.Searching.{searching_found, searching_next, searching_end}
use Rattle.iterator.proofs.iterate.first_filled.Goals as goal

pub returns-then-head-ne0 : goal.returns-then-head-ne0
returns-then-head-ne0 c = (search searching_found, search rules)

pub loop-b-preserved : goal.loop-b-preserved
loop-b-preserved c = search searching_next

pub returns : goal.returns
returns c = search searching_end
