-- What the loops keep and what each turn gives. The public ones are for the calls: what reading a table asks, a lookup from
-- its parts, the entry that it found, and what is made of it.
mod Searching
mod Seeking
mod Reading
pub mod Readable
pub mod Lookups
pub mod Entries
pub mod Held
