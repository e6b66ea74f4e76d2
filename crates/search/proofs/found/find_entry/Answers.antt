-- `search::found::find_entry` meets its contract: the only table, or both.
use Rattle.search.proofs.Readable.{old_readable, new_readable}
use Rattle.search.proofs.Entries.{found_resting, found_rehashing}
use Rattle.search.proofs.Held.{found_inside}
use Rattle.search.proofs.found.find_entry.Goals as goal

pub entry_in_both-requires : goal.entry_in_both-requires
entry_in_both-requires c = record { old_readable = search old_readable; new_readable = search new_readable }

pub entry_in-requires : goal.entry_in-requires
entry_in-requires c = search old_readable

pub returns-then-s : goal.returns-then-s
returns-then-s c = let e = found_rehashing _ _ _ _ _ _ c.if-s.true c.entry_in_both.ensures in
    record { outcome = e; inside = found_inside _ _ _ _ _ _ e c.requires }

pub returns-else-s : goal.returns-else-s
returns-else-s c = let e = found_resting _ _ _ _ _ _ c.if-s.false c.entry_in.ensures in
    record { outcome = e; inside = found_inside _ _ _ _ _ _ e c.requires }
