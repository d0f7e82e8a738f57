pub mod Items
pub mod Round
