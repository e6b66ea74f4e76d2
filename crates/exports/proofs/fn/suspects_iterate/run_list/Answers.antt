-- The closure of `exports::suspects_iterate` meets its contract.
use borrow.Author.Rules.{rules}
use Rattle.model.specs.Sequences.{given, perform, world}
use Rattle.export_calls.proofs.Telling.{scan_tells}
use Rattle.exports.proofs.fn.suspects_iterate.run_list.Goals as goal

pub returns : goal.returns
unfolding perform given world
returns c = record { answers = search scan_tells; keeps = search rules }
