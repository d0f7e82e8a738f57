pub mod Turns
pub mod Order
pub mod Bounds
