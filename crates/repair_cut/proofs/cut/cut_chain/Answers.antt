-- `repair_cut::cut::cut_chain` meets its contract: the chain ends behind the last entry met.
use Rattle.repair_cut.proofs.Cutting.{last_some, last_inside, none_first, none_cut, some_first, some_cut}
use Rattle.repair_cut.proofs.cut.cut_chain.Goals as goal

pub returns-in_default-clause-value : goal.returns-in_default-clause-value
returns-in_default-clause-value c = search none_first

pub returns-in_default-clause-entries_after : goal.returns-in_default-clause-entries_after
returns-in_default-clause-entries_after c = search none_cut

pub set_link-requires : goal.set_link-requires
set_link-requires c = (search last_some, search last_inside)

pub returns-clause-value : goal.returns-clause-value
returns-clause-value c = search some_first

pub returns-clause-entries_after : goal.returns-clause-entries_after
returns-clause-entries_after c = search some_cut
