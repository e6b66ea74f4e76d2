-- `after_step::presence::old_then` meets its contract: no chain is read, or that of the key's bucket.
use Rattle.after_step.proofs.Deciding.{old_unread, old_read}
use Rattle.after_step.proofs.presence.old_then.Goals as goal

pub returns-then-left-bucket_index : goal.returns-then-left-bucket_index
returns-then-left-bucket_index c = search old_unread

pub returns-else-left-bucket_index : goal.returns-else-left-bucket_index
returns-else-left-bucket_index c = search old_read
