pub mod Pieces
pub mod Short
pub mod Checks
pub mod Plans
