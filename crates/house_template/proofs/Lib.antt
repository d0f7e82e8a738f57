pub mod Meaning
pub mod Papers
pub mod Supplies
