pub mod Read
pub mod Handed
pub mod Back
