pub mod Edits
pub mod Loops
