pub mod Reading
pub mod Given
pub mod Places
pub mod Counts
pub mod Left
pub mod Fits
