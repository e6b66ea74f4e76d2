-- `lent_bytes::check::Lengths::state` meets its contract.
use Rattle.lent_bytes.proofs.Checks.{whole_state, flags_missing, flags_present, not_asked}
use Rattle.lent_bytes.proofs.check.Lengths.state.Goals as goal

pub read_state-requires : goal.read_state-requires
read_state-requires c = search whole_state

pub returns-then-fit-clause-none : goal.returns-then-fit-clause-none
returns-then-fit-clause-none c = search flags_missing

pub returns-then-fit-clause-some : goal.returns-then-fit-clause-some
returns-then-fit-clause-some c = search flags_present

pub returns-else-fit-clause-none : goal.returns-else-fit-clause-none
returns-else-fit-clause-none c = search not_asked
