pub mod Tallies
pub mod Rowed
pub mod Ids
pub mod Payloads
pub mod Meaning
pub mod Codes
