pub mod Payload
pub mod Loops
