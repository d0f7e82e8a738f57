pub mod Index
pub mod Query
pub mod Loops
