pub mod Decimals
pub mod Lays
