-- `repair::repair::rebuild` meets its contract: two tables are pruned, and then the others freed.
use borrow.Author.Rules.{rules}
use Rattle.repair_passes.proofs.Staged.{new_room, rebuilt_by}
use Rattle.repair.proofs.repair.rebuild.Goals as goal

pub prune_table-requires-2 : goal.prune_table-requires-2
prune_table-requires-2 c = record { marked = search rules; buckets_fit = search new_room }

pub returns : goal.returns
returns c = search rebuilt_by
