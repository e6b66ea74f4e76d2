-- An add from its parts: the add before any growth, the test, and the resize.
mod Growing
