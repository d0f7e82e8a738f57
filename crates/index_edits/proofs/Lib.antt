pub mod Both
pub mod Updated
pub mod Papers
