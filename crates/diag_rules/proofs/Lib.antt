pub mod Kept
pub mod Mask
pub mod Bits
