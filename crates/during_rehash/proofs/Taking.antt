-- The first free entry in the table that keys are added to, as the code writes it.
-- Assumes nothing.
use Prim.Native.Nat.{ℕ}
use mathlib.Core.Path.{◌≡◌}
use mathlib.Core.List.{List}
use lib.ListN.{get_or, set}
use Rattle.model.specs.declared.State.{State}
use Rattle.model.specs.declared.Table.{Table}
use Rattle.model.specs.Keys.{bucket_of}
use Rattle.model.specs.Memory.{link_of, set_entry, size_of, buckets_of}
use Rattle.model.specs.Calls.{changed, push, pushed, target}
use Rattle.during_rehash.specs.Counts.{one_more}
use Rattle.std.specs.Prelude.{Ok}

module _ (s : State) (current other entries : List ℕ) (key value : ℕ) (t : Table) (e : target s.rehashing ≡ t) where
  pub taken : changed t (Ok (one_more s (target s.rehashing) (link_of entries s.free_head))) current other
      (set (buckets_of current other t) (bucket_of key (size_of s t)) s.free_head)
      (set_entry entries s.free_head (get_or (buckets_of current other t) (bucket_of key (size_of s t)) 0) key value)
      ≡ pushed s current other entries key value (target s.rehashing)
  unfolding pushed push set_entry one_more
  taken = rw e
