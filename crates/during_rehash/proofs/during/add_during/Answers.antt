-- `during_rehash::during::add_during` meets its contract: a step comes first, or safe iterators hold it up.
use borrow.Author.Rules.{rules}
use Rattle.dict_rehash.proofs.Due.{due_of}
use Rattle.during_rehash.proofs.during.add_during.Goals as goal

pub add_stepping-requires : goal.add_stepping-requires
add_stepping-requires c = record { sound = search rules; due = search due_of }
