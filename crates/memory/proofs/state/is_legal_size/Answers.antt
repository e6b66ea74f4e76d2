-- `memory::state::is_legal_size` meets its contract: the library's test is the definition's, for any largest exponent.
use Rattle.model.specs.Limits.{legal_size, largest_exponent}
use Rattle.memory.proofs.OneBit.{power_test}
use Rattle.memory.proofs.state.is_legal_size.Goals as goal

pub returns : goal.returns
unfolding legal_size largest_exponent
returns c = rw c.is_power_of_two.ensures (power_test 16 c.args.n)
