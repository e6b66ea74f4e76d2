-- What the program answers.
pub mod Answered
