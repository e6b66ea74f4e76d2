-- `dict_delete::delete::delete_alone` meets its contract: the flag says which lent buffer is current.
use Rattle.memory.proofs.Tested.{lent_first, lent_second}
use Rattle.dict_delete.proofs.Deleting.{alone_first, alone_second}
use Rattle.dict_delete.proofs.delete.delete_alone.Goals as goal

pub remove_sound-requires : goal.remove_sound-requires
remove_sound-requires c = search lent_second

pub remove_sound-requires-else-s : goal.remove_sound-requires-else-s
remove_sound-requires-else-s c = search lent_first

pub returns-then-s : goal.returns-then-s
returns-then-s c = search alone_second

pub returns-else-s : goal.returns-else-s
returns-else-s c = search alone_first
