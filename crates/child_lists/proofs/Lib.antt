pub mod Lists
pub mod Papers
