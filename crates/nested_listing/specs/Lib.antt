pub mod Tree
pub mod Nested
pub mod Report
pub mod Levels
pub mod Rows
