pub mod Papers
