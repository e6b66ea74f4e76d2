-- `dict_tables::resize::begin` meets its contract: each way out is a case of the definition, by the code's tests.
use Rattle.model.specs.Calls.{resizing, retabled, state_of, old_new}
use Rattle.dict_tables.proofs.Fitting.{fits_last}
use Rattle.dict_tables.proofs.Resizing.{begin_rehashing, begin_bad_size, begin_begun}
use Rattle.dict_tables.proofs.resize.begin.Goals as goal

pub clear-requires : goal.clear-requires
clear-requires c = search fits_last

pub returns-then-s : goal.returns-then-s
returns-then-s c = search begin_rehashing

pub returns-then-not-acceptable : goal.returns-then-not-acceptable
returns-then-not-acceptable c = search begin_bad_size

pub returns : goal.returns
unfolding resizing retabled state_of old_new
returns c = search begin_begun
