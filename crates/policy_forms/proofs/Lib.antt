pub mod Papers
pub mod Modes
pub mod Round
pub mod Thresholds
