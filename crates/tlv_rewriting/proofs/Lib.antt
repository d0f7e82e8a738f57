pub mod Kept
pub mod Sets
