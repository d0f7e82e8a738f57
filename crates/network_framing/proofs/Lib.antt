pub mod Agrees
pub mod Walks
