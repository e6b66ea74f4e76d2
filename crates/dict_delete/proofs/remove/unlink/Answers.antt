-- `dict_delete::remove::unlink` meets its contract: the entry leaves its chain, at the head of its bucket or behind another.
use Rattle.dict_delete.proofs.Removing.{head_bucket, head_entries, behind_buckets, behind_entry}
use Rattle.dict_delete.proofs.remove.unlink.Goals as goal

pub returns-then-before-eq0 : goal.returns-then-before-eq0
returns-then-before-eq0 c = record { buckets_after = search head_bucket; entries_after = search head_entries }

pub returns-else-before-eq0 : goal.returns-else-before-eq0
returns-else-before-eq0 c = record { buckets_after = search behind_buckets; entries_after = search behind_entry }
