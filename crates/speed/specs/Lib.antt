pub mod Code
pub mod Address
pub mod Filled
