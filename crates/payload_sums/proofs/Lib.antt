pub mod Sizes
pub mod Rowed
pub mod Routed
