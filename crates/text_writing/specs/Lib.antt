pub mod Decimal
pub mod Laid
