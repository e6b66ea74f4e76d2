-- `search::found::entry_in` meets its contract: each way out, by what the step along the chain came to.
use Rattle.search.proofs.Seeking.{seeking_out, seeking_next, seeking_end, seeking_behind, seeking_found}
use Rattle.search.proofs.found.entry_in.Goals as goal

pub returns-in_err-n : goal.returns-in_err-n
returns-in_err-n c =
    seeking_out _ _ _ _ _ _ _ c.bucket_index-bucket.ensures.0 _ c.loop-n.invariant _ _ c.in_err-n.ensures
    c.from_residual.ensures.1

pub returns-in_err-read_to_end : goal.returns-in_err-read_to_end
returns-in_err-read_to_end c =
    seeking_behind _ _ _ _ _ _ _ c.bucket_index-bucket.ensures.0 _ c.loop-n.invariant _ _ (rw c.in-Some.is at c.in_ok-n.ensures) _ _
    c.in_err-read_to_end.ensures c.from_residual-in_err-read_to_end.ensures.1

pub returns-then-key_of-key : goal.returns-then-key_of-key
returns-then-key_of-key c =
    seeking_found _ _ _ _ _ _ _ c.bucket_index-bucket.ensures.0 _ c.loop-n.invariant _ _ (rw c.in-Some.is at c.in_ok-n.ensures) _
    c.key_of.ensures c.if-key_of-key.true c.in_ok-read_to_end.ensures

pub loop-n-preserved : goal.loop-n-preserved
loop-n-preserved c =
    seeking_next _ _ _ _ c.loop-n.invariant _ _ (rw c.in-Some.is at c.in_ok-n.ensures) _ c.key_of.ensures c.if-key_of-key.false

pub returns : goal.returns
returns c =
    seeking_end _ _ _ _ _ _ _ c.bucket_index-bucket.ensures.0 _ c.loop-n.invariant (rw c.in_default.is at c.in_ok-n.ensures)
