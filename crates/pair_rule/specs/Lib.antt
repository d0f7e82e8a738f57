pub mod Pairing
pub mod Codes
