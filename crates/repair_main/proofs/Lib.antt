-- From what the two calls answer to the numbers.
mod Numbering
