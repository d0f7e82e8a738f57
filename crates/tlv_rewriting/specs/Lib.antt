pub mod Rewrite
pub mod Loops
