pub mod Diag
pub mod Answers
pub mod Loops
