pub mod Run
pub mod Fold
pub mod Demand
