pub mod Within
pub mod Calls
