-- From what a call of the store answers and the line that is written to what the definitions say of a line.
mod Calls
mod Room
mod Walk
mod Lines
