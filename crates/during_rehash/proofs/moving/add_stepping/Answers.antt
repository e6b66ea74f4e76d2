-- `during_rehash::moving::add_stepping` meets its contract: refused before the step, or the entry goes by what the step leaves.
use Rattle.after_step.proofs.Deciding.{exit_is}
use Rattle.during_rehash.proofs.AddingAfter.{add_untold, add_no_room, taken_some, taken_readable, taken_counted, add_taken}
use Rattle.during_rehash.proofs.moving.add_stepping.Goals as goal

pub returns-in_err-foresight : goal.returns-in_err-foresight
returns-in_err-foresight c = rw (exit_is _ _ c.from_residual.ensures.1) (search (add_untold, c.in_err-foresight.ensures))

pub returns-in_err-free : goal.returns-in_err-free
returns-in_err-free c = rw (exit_is _ _ c.from_residual-in_err-free.ensures.1) (search (add_no_room, c.in_ok-foresight.ensures, c.in_err-free.ensures))

pub push_entry-requires : goal.push_entry-requires
push_entry-requires c = record {
  is_entry = search (taken_some, c.in_ok-foresight.ensures, c.in_ok-free.ensures);
  readable = search (taken_readable, c.in_ok-foresight.ensures, c.in_ok-free.ensures);
}

pub one_more-requires : goal.one_more-requires
one_more-requires c = search (taken_counted, c.in_ok-foresight.ensures, c.in_ok-free.ensures)

-- the entry goes by what the step leaves
pub returns : goal.returns
returns c = search (add_taken, c.in_ok-foresight.ensures, c.in_ok-free.ensures)
