pub mod Base16
pub mod Loops
