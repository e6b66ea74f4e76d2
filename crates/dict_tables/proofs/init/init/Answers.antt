-- `dict_tables::init::init` meets its contract: each way out is a case of the definition, by the code's two tests.
use Rattle.model.specs.Limits.{largest_capacity, legal_capacity}
use Rattle.dict_tables.proofs.Fitting.{fits_first, fits_last}
use Rattle.dict_tables.proofs.NewStore.{refused_limits, refused_buffers, made_ready}
use Rattle.dict_tables.proofs.init.init.Goals as goal

pub clear-requires : goal.clear-requires
clear-requires c = search fits_first

pub link_free-requires : goal.link_free-requires
link_free-requires c = search fits_last

pub returns : goal.returns
unfolding legal_capacity largest_capacity
returns c = search made_ready

pub returns-then-not-long_enough : goal.returns-then-not-long_enough
unfolding legal_capacity largest_capacity
returns-then-not-long_enough c = search refused_buffers

pub returns-then-not-within_limits : goal.returns-then-not-within_limits
unfolding legal_capacity largest_capacity
returns-then-not-within_limits c = search refused_limits
