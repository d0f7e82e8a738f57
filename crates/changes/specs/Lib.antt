pub mod Loops
pub mod Demand
