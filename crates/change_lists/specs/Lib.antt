pub mod Operations
pub mod Place
pub mod Walk
