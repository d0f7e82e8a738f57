pub mod Encode
pub mod Fits
pub mod Tables
