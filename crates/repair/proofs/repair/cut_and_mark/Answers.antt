-- `repair::repair::cut_and_mark` meets its contract: two tables are cut, and then the marks decided.
use Rattle.repair_passes.proofs.Staged.{second_tabled, cut_sound, cut_marks, cut_and_marked_by}
use Rattle.repair.proofs.repair.cut_and_mark.Goals as goal

pub cut_table-requires-2 : goal.cut_table-requires-2
cut_table-requires-2 c = search second_tabled

pub decide-requires : goal.decide-requires
decide-requires c = record {
  sound = cut_sound _ _ _ _ _ c.requires.sound c.requires.marks_fit _ _ _ c.cut_table.ensures _ _ _ c.cut_table-2.ensures;
  marks_fit = cut_marks _ _ _ _ _ c.requires.sound c.requires.marks_fit _ _ _ c.cut_table.ensures _ _ _ c.cut_table-2.ensures;
}

pub returns : goal.returns
returns c =
    cut_and_marked_by _ _ _ _ _ _ _ _ _ _ _ _ c.cut_table.ensures c.cut_table-2.ensures c.decide.ensures
