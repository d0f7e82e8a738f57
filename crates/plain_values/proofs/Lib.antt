pub mod Names
pub mod Bytes
