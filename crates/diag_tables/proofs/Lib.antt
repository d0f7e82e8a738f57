pub mod Held
pub mod Plans
pub mod Papers
