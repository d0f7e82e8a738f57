pub mod Late
pub mod Papers
