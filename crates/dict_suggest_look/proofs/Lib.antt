-- That the library's next power of two, of a number held to its limits, is the size of the definition; and what a sound state
-- tells of its keys and of its table.
mod Powers
mod Sound
