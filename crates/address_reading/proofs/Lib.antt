pub mod Digits
pub mod Counts
pub mod Turns
pub mod Laid
