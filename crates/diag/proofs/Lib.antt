pub mod Finds
pub mod Fields
pub mod Whole
pub mod Callers
pub mod ListCount
pub mod Unknown
pub mod Papers
