-- `dict_rehash::rehash::move_bucket` meets its contract: a bucket's chain is refused where it is not sound, and else moved.
use Rattle.dict_rehash.proofs.Stepping.{old_counted, bucket_unsound, refused_room}
use Rattle.dict_rehash.proofs.rehash.move_bucket.Goals as goal

pub move_counted-requires-clause-old_chain : goal.move_counted-requires-clause-old_chain
move_counted-requires-clause-old_chain c = search (old_counted, c.in_ok-count.ensures)

pub returns-in_err-count : goal.returns-in_err-count
returns-in_err-count c = record {
  outcome = search (bucket_unsound, c.in_err-count.ensures, c.from_residual.ensures.1);
  step_room = refused_room c.args.s _ _ c.from_residual.ensures.1;
}
