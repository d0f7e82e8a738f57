pub mod Parses
pub mod Round
