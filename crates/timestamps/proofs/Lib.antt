pub mod Stamps
pub mod Round
