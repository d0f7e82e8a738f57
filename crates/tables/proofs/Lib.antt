pub mod Fills
pub mod Follows
