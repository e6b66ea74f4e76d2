-- The shape of an undamaged store, and that every call keeps it.

-- the shape of a store, and the chains as they are read
pub mod Shape
pub mod States
pub mod Places
pub mod LinkedChains
pub mod ToUndamaged
pub mod FromUndamaged
pub mod FirstEntries
-- one cell of the memory, and the relink theorem
pub mod Cells
pub mod Relink
pub mod RelinkWrites
pub mod StoreAfter
-- each call keeps the shape
pub mod ClearedBuckets
pub mod Init
pub mod Add
pub mod Delete
pub mod Update
pub mod Resize
pub mod Noted
pub mod RehashMove
pub mod RehashEnd
-- what the calls look up and answer
pub mod Lookups
pub mod CallAnswers
