pub mod Shown
pub mod Sheet
