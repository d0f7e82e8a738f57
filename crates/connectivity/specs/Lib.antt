pub mod Connectivity
pub mod Answers
