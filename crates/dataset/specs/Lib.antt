pub mod Queries
pub mod Reads
