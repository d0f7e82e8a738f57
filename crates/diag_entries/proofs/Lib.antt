pub mod Lasts
pub mod Checks
pub mod Sound
pub mod Passed
