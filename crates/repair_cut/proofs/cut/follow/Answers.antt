-- The goals of `follow` that the search leaves.
use Rattle.repair_cut.proofs.Cutting.{following_lent, following_next, met_some, met_entry, met_mark, stop_last, stop_marks, end_last, end_marks}
use Rattle.repair_cut.proofs.cut.follow.Goals as goal

pub is_met-requires : goal.is_met-requires
is_met-requires c = search following_lent

pub set_mark-requires : goal.set_mark-requires
set_mark-requires c = (search met_some, search (met_mark, following_lent))

pub link_of-at-requires : goal.link_of-at-requires
link_of-at-requires c = (search met_some, search met_entry)

pub loop-preserved : goal.loop-preserved
loop-preserved c = search following_next

pub returns-then-not-is_met : goal.returns-then-not-is_met
returns-then-not-is_met c = record { value = search stop_last; marks_after = search stop_marks }

pub returns : goal.returns
returns c = record { value = search end_last; marks_after = search end_marks }
