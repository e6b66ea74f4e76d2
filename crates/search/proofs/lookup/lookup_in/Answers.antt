-- `search::lookup::lookup_in` meets its contract: each way out, by what the step along the chain came to.
use Rattle.search.proofs.Searching.{searching_start, searching_out, searching_end, searching_first, searching_other, searching_kept}
use Rattle.search.proofs.lookup.lookup_in.Goals as goal

pub loop-next-init : goal.loop-next-init
loop-next-init c = searching_start _ _ _

pub returns-in_default : goal.returns-in_default
returns-in_default c =
    searching_out _ _ _ _ _ _ _ c.bucket_index-bucket.ensures.0 _ _ _ _ c.loop-next.invariant c.in_default.ensures.1

pub returns-in_default-next : goal.returns-in_default-next
returns-in_default-next c =
    searching_end _ _ _ _ _ _ _ c.bucket_index-bucket.ensures.0 _ _ _ _ c.loop-next.invariant
    (rw c.in_default-next.is at c.in-Ok.ensures)

pub loop-next-preserved-then-key_of-key : goal.loop-next-preserved-then-key_of-key
loop-next-preserved-then-key_of-key c =
    searching_first _ _ _ _ _ _ _ c.loop-next.invariant _ _ (rw c.in-Some.is at c.in-Ok.ensures) _ c.key_of.ensures c.in-Absent.is
    c.if-key_of-key.true

pub loop-next-preserved-else-key_of-key : goal.loop-next-preserved-else-key_of-key
loop-next-preserved-else-key_of-key c =
    searching_other _ _ _ _ _ _ _ c.loop-next.invariant _ _ (rw c.in-Some.is at c.in-Ok.ensures) _ c.key_of.ensures c.in-Absent.is
    c.if-key_of-key.false

pub loop-next-preserved : goal.loop-next-preserved
loop-next-preserved c =
    searching_kept _ _ _ _ _ _ _ c.loop-next.invariant _ _ (rw c.in-Some.is at c.in-Ok.ensures) c.in_default-found.not-Absent
