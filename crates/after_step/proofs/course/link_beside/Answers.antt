-- `after_step::course::link_beside` meets its contract: the entry keeps its link, unless it is on the chain that moves.
use Rattle.dict_rehash.proofs.Stepping.{target_legal, target_fits}
use Rattle.after_step.proofs.Courses.{goes_counted, link_met, link_kept}
use Rattle.after_step.proofs.course.link_beside.Goals as goal

pub link_moved-requires-clause-legal : goal.link_moved-requires-clause-legal
link_moved-requires-clause-legal c = (search target_legal, search target_fits)

pub link_moved-requires-clause-chain_of : goal.link_moved-requires-clause-chain_of
link_moved-requires-clause-chain_of c = search goes_counted

pub returns-then-chain : goal.returns-then-chain
returns-then-chain c = search link_met

pub returns-else-chain : goal.returns-else-chain
returns-else-chain c = search link_kept
