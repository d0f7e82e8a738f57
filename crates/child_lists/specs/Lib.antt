pub mod Answers
pub mod Loops
