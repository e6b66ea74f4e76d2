-- `export_runs::write::on_numbers` meets its contract.
use borrow.Author.Rules.{rules}
use Rattle.export_runs.proofs.Running.{room_fits, as_many}
use Rattle.export_runs.proofs.write.on_numbers.Goals as goal

pub numbers_of-f-requires : goal.numbers_of-f-requires
numbers_of-f-requires g c = search (rules, room_fits)

pub numbers_of-g-requires : goal.numbers_of-g-requires
numbers_of-g-requires g c = search (rules, room_fits)

pub numbers_of-e-requires : goal.numbers_of-e-requires
numbers_of-e-requires g c = search (rules, room_fits)

pub write_numbers-requires : goal.write_numbers-requires
write_numbers-requires g c = search as_many

pub write_numbers-requires-2 : goal.write_numbers-requires-2
write_numbers-requires-2 g c = search as_many

pub write_numbers-requires-3 : goal.write_numbers-requires-3
write_numbers-requires-3 g c = search as_many
