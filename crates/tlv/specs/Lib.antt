pub mod Entries
pub mod Limits
pub mod Place
pub mod Answers
pub mod Walk
