pub mod Parts
pub mod Checked
pub mod Lists
pub mod Answers
