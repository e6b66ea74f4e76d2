-- The goals of `free_others` that the search leaves.
use Rattle.repair.proofs.Freeing.{freeing_freed, freeing_kept, freeing_head, freeing_entries}
use Rattle.repair.proofs.free.free_others.Goals.{then-mark_of-eq0, else-mark_of-eq0}
use Rattle.repair.proofs.free.free_others.Goals as goal

pub loop-n-preserved : goal.loop-n-preserved
loop-n-preserved c =
    elim c.if-mark_of-eq0.branch [ then-mark_of-eq0 w ↦ search freeing_freed | else-mark_of-eq0 w ↦ search freeing_kept ]

pub returns : goal.returns
returns c = record { value = search freeing_head; entries_after = search freeing_entries }
