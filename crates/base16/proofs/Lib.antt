pub mod Digits
pub mod Scans
pub mod Pairs
pub mod Decodes
pub mod RoundTrips
