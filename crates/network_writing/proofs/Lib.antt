pub mod Items
pub mod Rows
pub mod Round
pub mod Agree
pub mod Few
pub mod Extents
pub mod Again
pub mod Filled
