pub mod Encodes
pub mod Several
pub mod Round
