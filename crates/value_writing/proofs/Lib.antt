pub mod Round
pub mod Again
