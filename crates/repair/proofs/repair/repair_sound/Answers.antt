-- `repair::repair::repair_sound` meets its contract: the three stages are what the definition says.
use borrow.Author.Rules.{rules}
use Rattle.model.specs.Limits.{largest_capacity}
use Rattle.repair_passes.proofs.Staged.{enough_marks, marked_sound, marked_long, old_countable, new_countable, index_countable, repaired_by_lem}
use Rattle.repair.proofs.repair.repair_sound.Goals as goal

pub cut_and_mark-requires : goal.cut_and_mark-requires
unfolding largest_capacity
cut_and_mark-requires c = record { sound = search rules; marks_fit = search enough_marks }

pub rebuild-free-requires : goal.rebuild-free-requires
unfolding largest_capacity
rebuild-free-requires c = record {
  sound = marked_sound _ _ _ _ _ c.requires c.requires.capacity_limit _ _ _ _ c.cut_and_mark.ensures;
  marks_fit = marked_long _ _ _ _ _ c.requires c.requires.capacity_limit _ _ _ _ c.cut_and_mark.ensures;
}

pub recount-requires : goal.recount-requires
unfolding largest_capacity
recount-requires c = record {
  current_countable = old_countable _ _ _ _ c.requires largest_capacity c.requires.capacity_limit _ _ _ _ c.cut_and_mark.ensures _ _ _ _ c.rebuild-free.ensures;
  other_countable = new_countable _ _ _ _ c.requires largest_capacity c.requires.capacity_limit _ _ _ _ c.cut_and_mark.ensures _ _ _ _ c.rebuild-free.ensures;
  index_in_range = index_countable _ _ _ _ c.requires largest_capacity c.requires.capacity_limit _ _ _ _ c.cut_and_mark.ensures _ _ _ _ c.rebuild-free.ensures;
}

pub returns : goal.returns
unfolding largest_capacity
returns c =
    repaired_by_lem _ _ _ _ c.requires largest_capacity c.requires.capacity_limit _ _ _ _ c.cut_and_mark.ensures _ _ _ _ c.rebuild-free.ensures
    _ c.recount.ensures
