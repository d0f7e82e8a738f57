pub mod Mask
pub mod Rule
pub mod Answers
