pub mod Slots
pub mod Tables
pub mod Loads
pub mod Queries
pub mod Meaning
