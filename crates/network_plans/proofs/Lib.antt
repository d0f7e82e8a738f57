pub mod Checks
pub mod Agree
