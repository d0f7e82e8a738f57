pub mod Lasts
pub mod Folds
pub mod Weights
pub mod Backs
pub mod Limits
pub mod Effects
pub mod Demand
