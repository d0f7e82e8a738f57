pub mod Rests
pub mod Shifts
