-- A buffer's front, and a block's.
mod Reading
mod Writing
