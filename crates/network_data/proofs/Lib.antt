pub mod Passes
pub mod Moved
pub mod Counted
pub mod Anywhere
