-- `lent_bytes::state::read_state` meets its contract.
use Rattle.lent_bytes.proofs.Undoing.{fitting}
use Rattle.lent_bytes.proofs.state.read_state.Goals as goal

pub returns-clause-some : goal.returns-clause-some
returns-clause-some c = search (fitting, c.in_ok-second_is_current.was, c.in_ok-rehashing.was, c.in_ok-resize_allowed.was)
