-- SPECIFICATION, "The program", as definitions: numbers, lines, answers, and the script.
pub mod Numbers
pub mod Lines
pub mod Answers
pub mod Program
pub mod Places
