-- `dict_tables::clear::clear` meets its contract: what was filled stands before the rest.
use lib.Seq.{length-take-le}
use Rattle.model.specs.Calls.{cleared}
use Rattle.dict_tables.proofs.clear.clear.Goals as goal

pub returns : goal.returns
unfolding cleared
returns c = rw (c.fill.ensures.after (λ y h. h), length-take-le c.args.size c.args.buckets.now c.requires)
