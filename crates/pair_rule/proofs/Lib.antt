pub mod Sense
pub mod Parents
pub mod Back
